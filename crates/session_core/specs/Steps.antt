-- What the machine does at a step.
use Rattle.std.specs.Prelude.{◌≡◌, ℕ, List, drop}
use Rattle.rcp_model.specs.Sessions.{Step, then_also, Course}
use Rattle.session_core.specs.declared.actions.Actions.{Actions}
use Rattle.session_core.specs.declared.state.State.{State}
use Rattle.session_core.specs.Shown.{phase_of, doing_of}

-- a step was taken: this is the next state, and what it does was done besides
pub record Takes (step : Step) (old : Actions) (next : State) (new : Actions) : Type 0 where
  pub phase : phase_of next ≡ step.phase
  pub does : doing_of new ≡ then_also (doing_of old) step.does

-- a course was run over octets, of which the first so many aren't kept
pub record Runs (course : Course) (old : Actions) (octets : List ℕ) (taken : ℕ) (next : State) (new : Actions) : Type 0 where
  pub phase : phase_of next ≡ course.phase
  pub kept : drop taken octets ≡ course.kept
  pub does : doing_of new ≡ then_also (doing_of old) course.does
