-- Octets that come in pieces.
use Rattle.std.specs.Prelude.{◌≡◌, ℕ, List, [], ◌∷◌}
use Rattle.rcp_base.specs.Roster.{RosterOf}
use Rattle.rcp_model.specs.Sessions.{Doing, Octets, nothing, then_also, answer}
use Rattle.session_core.specs.declared.actions.Actions.{Actions}
use Rattle.session_core.specs.Shown.{doing_of}
use Rattle.session_core.specs.Held.{Held, Answers}

-- these pieces came at a time, one after another, and each was answered: what a session held before and after, and all that it did
abbrev pub Hears : RosterOf → ℕ → List (List ℕ) → Held → Held → Doing → Type 0
Hears roster now [] old new does = (new ≡ old) × (does ≡ nothing)
Hears roster now (piece ∷ pieces) old new does =
    (middle : Held) × (actions : Actions) × (others : Doing)
    × Answers (answer roster (Octets piece now) old.state) old middle actions
    × Hears roster now pieces middle new others
    × (does ≡ then_also (doing_of actions) others)
