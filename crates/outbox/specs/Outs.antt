-- The messages that wait for a link.
use Rattle.std.specs.Prelude.{◌≡◌, ℕ, ◌+◌, ◌-◌, ◌^◌, ◌≤◌, min, Bool, true, false, ◌⊎◌, ◌==◌, List, [], ◌∷◌, ◌++◌, length, take, drop, filter}
use Rattle.std.specs.List.{concat}
use Rattle.rcp_model.specs.Messages.{type_field}
use Rattle.outside.specs.Told.{Rose}
use Rattle.outbox.specs.Wires.{WireOf, Wrote}

-- what contracts see of an outbox: the messages that wait; of the first one, how many octets are written; how many wait up to
-- the last UPDATE; how many UPDATEs were wholly written; and whether the link has failed
pub record OutOf : Type 0 where
  pub waiting : List (List ℕ)
  pub written : ℕ
  pub to_last_update : ℕ
  pub updates : ℕ
  pub failed : Bool

abbrev pub empty : OutOf
empty = record { waiting = []; written = 0; to_last_update = 0; updates = 0; failed = false }

-- the octets of the first message that are written
abbrev pub front : OutOf → List ℕ
front out = take out.written (concat out.waiting)

-- of the first message no more is written than it has
abbrev pub IsStarted : ℕ → List (List ℕ) → Type 0
IsStarted written [] = written ≡ 0
IsStarted written (message ∷ messages) = written ≤ length message

abbrev pub is_update : List ℕ → Bool
is_update message = type_field message == 2

-- how many of these messages are UPDATEs
abbrev pub updates_in : List (List ℕ) → ℕ
updates_in messages = length (filter is_update messages)

-- a count of 64 bits with so many more, which saturates
abbrev pub counted_on : ℕ → ℕ → ℕ
counted_on count more = min (count + more) (2 ^ 64 - 1)

-- a count has so many more, or stands at its last value
abbrev pub HasMore : ℕ → ℕ → ℕ → Type 0
HasMore old more new = counted_on new 0 ≡ counted_on old more

-- Of what waited these messages are wholly written, and the link took their octets and those of the front of the next. A link that
-- failed, now or before, takes nothing more.
pub record Writes (gone : List (List ℕ)) (octets : List ℕ) (old new : OutOf) (before after : WireOf) : Type 0 where
  pub messages : old.waiting ≡ gone ++ new.waiting
  pub wrote : Wrote octets before after
  pub stream : front old ++ octets ≡ concat gone ++ front new
  pub updates : HasMore old.updates (updates_in gone) new.updates
  pub to_last_update : new.to_last_update ≡ old.to_last_update - length gone
  pub failed : new.failed ≡ true → (old.failed ≡ true) ⊎ Rose before.faults after.faults

-- some of what waited is written
abbrev pub WritesSome : OutOf → OutOf → WireOf → WireOf → Type 0
WritesSome old new before after = (gone : List (List ℕ)) × (octets : List ℕ) × Writes gone octets old new before after

-- nothing is left to write, or the link took no more
abbrev pub IsDone : OutOf → WireOf → WireOf → Type 0
IsDone out before after = (out.waiting ≡ []) ⊎ ((out.failed ≡ true) ⊎ Rose before.empties after.empties)

-- the first message is wholly written, where one waits
abbrev pub after_message : OutOf → OutOf
after_message out = record out {
  waiting = drop 1 out.waiting;
  written = 0;
  to_last_update = out.to_last_update - 1;
  updates = counted_on out.updates (updates_in (take 1 out.waiting));
}
