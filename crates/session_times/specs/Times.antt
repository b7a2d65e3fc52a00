-- What comes to a session by a clock, and ends that a timer brings.
use Rattle.std.specs.Prelude.{◌≡◌, ℕ, ◌+◌, ◌≤◌, Bool, true, List, [], ◌∷◌, Option, Some, None, IsTrue}
use Rattle.std.specs.List.{AllByRecursion}
use Rattle.rcp_model.specs.Sessions.{Phase, OpenSent, Claiming, OpenConfirm, Established, Closed, Reason, Faulted, Received, Ended, SeatTaken, Ending, Input, Octets, Seat, Moment, End}

-- octets or a time, at a time that the clock can give
abbrev pub IsTimely : (ℕ → Bool) → Input → Type 0
IsTimely can_give (Octets piece now) = IsTrue (can_give now)
IsTimely can_give (Moment now) = IsTrue (can_give now)
IsTimely can_give (Seat free now) = ⊥
IsTimely can_give End = ⊥

-- First the claim was answered: the seat is the session's. Then octets and times came. Or nothing came.
abbrev pub IsCourseOf : (ℕ → Bool) → List Input → Type 0
IsCourseOf can_give [] = Unit {0}
IsCourseOf can_give (Seat free now ∷ inputs) = (free ≡ true) × IsTrue (can_give now) × AllByRecursion (IsTimely can_give) inputs
IsCourseOf can_give (Octets piece now ∷ inputs) = ⊥
IsCourseOf can_give (Moment now ∷ inputs) = ⊥
IsCourseOf can_give (End ∷ inputs) = ⊥

-- the clock can give two times that are so many seconds apart
abbrev pub FarApart : (ℕ → Bool) → ℕ → Type 0
FarApart can_give seconds = (first : ℕ) × (last : ℕ) × IsTrue (can_give first) × IsTrue (can_give last) × (first + seconds ≤ last)

-- An end by a fault or by a NOTIFICATION that came. Where it is that of a timer (section 6.5), the clock can give times so far apart.
abbrev pub IsDue : (ℕ → Bool) → ℕ → Reason → ℕ → Type 0
IsDue can_give seconds Faulted code = code ≡ 4 → FarApart can_give seconds
IsDue can_give seconds Received code = Unit {0}
IsDue can_give seconds Ended code = ⊥
IsDue can_give seconds SeatTaken code = ⊥

abbrev pub EndsDue : (ℕ → Bool) → ℕ → Option Ending → Type 0
EndsDue can_give seconds None = Unit {0}
EndsDue can_give seconds (Some end) = IsDue can_give seconds end.reason end.code

-- the hold time of a session that claims a seat, 0 where it has no timers
abbrev pub claimed_hold : Phase → ℕ
claimed_hold (Claiming since slot terms) = terms.hold
claimed_hold (OpenSent since) = 0
claimed_hold (OpenConfirm peering) = 0
claimed_hold (Established peering) = 0
claimed_hold Closed = 0
