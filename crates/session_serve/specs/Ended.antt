-- How a session ends, and that each end has its cause.
use Rattle.std.specs.Prelude.{◌≡◌, ◌≢◌, ℕ, ◌≤◌, Bool, true, false, ◌⊎◌, List, [], length, Option, Some, None, IsTrue, Result, Ok, Err}
use Rattle.rcp_model.specs.Routes.{OfferFields}
use Rattle.rcp_model.specs.Sessions.{Ending, ending, Faulted, Received}
use Rattle.outside.specs.Told.{Rose}
use Rattle.outbox.specs.Wires.{WireOf}
use Rattle.session_times.specs.Times.{FarApart}
use Rattle.session_serve.specs.declared.ends.EndWhy.{EndWhy}
use Rattle.session_serve.specs.declared.ends.EndWhy.TheVariants as why

-- the end is not for want of memory
abbrev pub HadMemory : EndWhy → Type 0
HadMemory why.NoMemory = ⊥
HadMemory (why.Fault code sub) = Unit {0}
HadMemory (why.Received code sub) = Unit {0}
HadMemory why.PeerClosed = Unit {0}
HadMemory (why.SeatOut out) = Unit {0}
HadMemory why.LinkFault = Unit {0}
HadMemory why.Stopped = Unit {0}

-- The end is that of the session's course: a fault or a NOTIFICATION ends it exactly where it closes the course. Any other has its
-- cause outside: the link's end, its failure, or the mark.
abbrev pub IsCauseOf : Option Ending → Bool → WireOf → WireOf → EndWhy → Type 0
IsCauseOf closed may_stop before after (why.Fault code sub) = closed ≡ Some (ending Faulted code sub)
IsCauseOf closed may_stop before after (why.Received code sub) = closed ≡ Some (ending Received code sub)
IsCauseOf closed may_stop before after why.PeerClosed = (closed ≡ None) × Rose before.ends after.ends
IsCauseOf closed may_stop before after why.LinkFault = (closed ≡ None) × Rose before.faults after.faults
IsCauseOf closed may_stop before after why.Stopped = (closed ≡ None) × IsTrue may_stop
IsCauseOf closed may_stop before after (why.SeatOut out) = ⊥
IsCauseOf closed may_stop before after why.NoMemory = Unit {0}

-- the link failed, or took nothing at some time
abbrev pub WasSlow : WireOf → WireOf → Type 0
WasSlow before after = Rose before.faults after.faults ⊎ Rose before.empties after.empties

-- At the end of a fault all that was to be written is, or the link was slow; at an end from outside this is claimed of the first message.
abbrev pub IsWritten : List (List ℕ) → List (List ℕ) → WireOf → WireOf → EndWhy → Type 0
IsWritten gone waiting before after (why.Fault code sub) = (waiting ≡ []) ⊎ WasSlow before after
IsWritten gone waiting before after (why.Received code sub) = (gone ≢ []) ⊎ WasSlow before after
IsWritten gone waiting before after why.PeerClosed = (gone ≢ []) ⊎ WasSlow before after
IsWritten gone waiting before after why.Stopped = (gone ≢ []) ⊎ WasSlow before after
IsWritten gone waiting before after (why.SeatOut out) = (waiting ≡ []) ⊎ WasSlow before after
IsWritten gone waiting before after why.LinkFault = Unit {0}
IsWritten gone waiting before after why.NoMemory = Unit {0}

-- offers were taken until there was none, or so many were taken
abbrev pub HasTaken : List (ℕ × OfferFields) → ℕ → ℕ → Type 0
HasTaken took before after = (1024 ≤ length took) ⊎ Rose before after

-- a session that was up took offers before an end from outside
abbrev pub TookOffers : Bool → List (ℕ × OfferFields) → ℕ → ℕ → EndWhy → Type 0
TookOffers false took before after end = Unit {0}
TookOffers true took before after why.PeerClosed = HasTaken took before after
TookOffers true took before after why.Stopped = HasTaken took before after
TookOffers true took before after (why.Fault code sub) = Unit {0}
TookOffers true took before after (why.Received code sub) = Unit {0}
TookOffers true took before after (why.SeatOut out) = Unit {0}
TookOffers true took before after why.LinkFault = Unit {0}
TookOffers true took before after why.NoMemory = Unit {0}

-- the hold timer ran out only where the clock can give two times as far apart (section 6.5)
abbrev pub IsExpired : (ℕ → Bool) → ℕ → EndWhy → Type 0
IsExpired can_give seconds (why.Fault code sub) = code ≡ 4 → FarApart can_give seconds
IsExpired can_give seconds (why.Received code sub) = Unit {0}
IsExpired can_give seconds why.PeerClosed = Unit {0}
IsExpired can_give seconds (why.SeatOut out) = Unit {0}
IsExpired can_give seconds why.LinkFault = Unit {0}
IsExpired can_give seconds why.Stopped = Unit {0}
IsExpired can_give seconds why.NoMemory = Unit {0}

-- The answer to what a session does: it goes on where it isn't closed, and else ends by that. Where there was no memory for messages it ends too.
abbrev pub Closes : Option Ending → List (List ℕ) → Result (Unit {0}) EndWhy → Type 0
Closes closed unqueued (Ok done) = (closed ≡ None) × (unqueued ≡ [])
Closes closed unqueued (Err (why.Fault code sub)) = (closed ≡ Some (ending Faulted code sub)) × (unqueued ≡ [])
Closes closed unqueued (Err (why.Received code sub)) = (closed ≡ Some (ending Received code sub)) × (unqueued ≡ [])
Closes closed unqueued (Err why.NoMemory) = Unit {0}
Closes closed unqueued (Err why.PeerClosed) = ⊥
Closes closed unqueued (Err (why.SeatOut out)) = ⊥
Closes closed unqueued (Err why.LinkFault) = ⊥
Closes closed unqueued (Err why.Stopped) = ⊥
