-- What a session holds.
use Rattle.std.specs.Prelude.{◌≡◌, Bool, false, []}
use Rattle.rcp_model.specs.Sessions.{SessionState, Answer, Course, Closed, then_also, shut}
use Rattle.session_core.specs.declared.actions.Actions.{Actions}
use Rattle.session_core.specs.Shown.{doing_of}

-- the state, and whether memory was wanting, after which the state says nothing
pub record Held : Type 0 where
  pub spent : Bool
  pub state : SessionState

-- What was answered was done, by a session that wasn't spent and isn't now.
pub record Answers (answer : Answer) (old new : Held) (actions : Actions) : Type 0 where
  pub before : old.spent ≡ false
  pub now : new.spent ≡ false
  pub after : new.state ≡ answer.after
  pub does : doing_of actions ≡ answer.does

-- A spent session is closed, and keeps nothing.
pub record IsEnded (new : Held) (actions : Actions) : Type 0 where
  pub now : new.spent ≡ false
  pub phase : new.state.phase ≡ Closed
  pub kept : new.state.kept ≡ []
  pub does : doing_of actions ≡ shut.does

-- a course was run, and what it does was done besides
pub record RunsOn (course : Course) (old new : Held) (before after : Actions) : Type 0 where
  pub state : new.state ≡ record { phase = course.phase; kept = course.kept; latest = old.state.latest }
  pub does : doing_of after ≡ then_also (doing_of before) course.does

-- what was answered was done besides, and is the state now
pub record AnswersOn (answer : Answer) (old new : Held) (before after : Actions) : Type 0 where
  pub state : new.state ≡ answer.after
  pub does : doing_of after ≡ then_also (doing_of before) answer.does
