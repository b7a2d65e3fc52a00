-- What a cutter holds of a stream, what its calls do to it, and what a reader who gives it pieces of a stream is given.
use Rattle.std.specs.Prelude.{◌≡◌, ◌≢◌, ℕ, ◌+◌, ◌<◌, ◌≤◌, Bool, true, false, ◌||◌, ◌⊎◌, List, [], ◌∷◌, ◌++◌, length, take, drop, Some, None, is_some}
use Rattle.std.specs.List.{concat}
use Rattle.rcp_model.specs.Messages.{FaultOf, header_fault, length_field, message_size, message_octets}
use Rattle.rcp_model.specs.Sessions.{fault_in_front}

-- a whole message of this type with this body stands in front
pub record IsInFront (octets : List ℕ) (kind : ℕ) (body : List ℕ) : Type 0 where
  pub size : message_size octets ≡ Some (19 + length body)
  pub message : take (19 + length body) octets ≡ message_octets kind body

-- ---- what is held: the octets that came and weren't handed out

-- a whole message or a faulty header stands in front
abbrev pub is_waiting : List ℕ → Bool
is_waiting octets = is_some (message_size octets) || is_some (fault_in_front octets)

-- at most one message is held, or a header that no message has
abbrev pub HoldsOne : List ℕ → Type 0
HoldsOne held = 19 < length held → (header_fault held ≡ None) × (length held ≤ length_field held)

-- ---- the calls

-- So many octets of a piece are taken: all, unless something waits afterwards, and none where something waited before. None are taken there alone.
pub record Feeds (old piece : List ℕ) (count : ℕ) (new : List ℕ) : Type 0 where
  pub within : count ≤ length piece
  pub taken : new ≡ old ++ take count piece
  pub all : is_waiting new ≡ false → count ≡ length piece
  pub none : is_waiting old ≡ true → count ≡ 0
  pub some : count ≡ 0 → (piece ≡ []) ⊎ (is_waiting old ≡ true)

-- A whole message is handed out. Else nothing changes.
abbrev pub after_next : List ℕ → List ℕ
after_next held = elim (message_size held) [ None ↦ held | Some n ↦ drop n held ]

-- What a reader does: `feed` with a piece, of which so many octets were taken; a turn to the next piece, where all of one was taken;
-- and `next`, which handed out a message, reported a fault, or gave nothing.
pub data Call : Type 0 where
  fed : List ℕ → ℕ → Call
  turned : Call
  handed : List ℕ → Call
  refused : FaultOf → Call
  waited : Call

abbrev pub Leads : List ℕ → Call → List ℕ → Type 0
Leads old (fed piece count) new = Feeds old piece count new
Leads old turned new = new ≡ old
Leads old (handed message) new = (message_size old ≡ Some (length message)) × (old ≡ message) × (new ≡ after_next old)
Leads old (refused fault) new = (fault_in_front old ≡ Some fault) × (new ≡ after_next old)
Leads old waited new = (is_waiting old ≡ false) × (new ≡ after_next old)

-- these calls, one after another
abbrev pub Run : List ℕ → List Call → List ℕ → Type 0
Run start [] end = end ≡ start
Run start (call ∷ calls) end = (middle : List ℕ) × Leads start call middle × Run middle calls end

-- The calls go over the pieces in their order, and these are left after them.
abbrev pub IsGiven : List (List ℕ) → List Call → List (List ℕ) → Type 0
IsGiven pieces [] left = left ≡ pieces
IsGiven pieces (fed piece count ∷ calls) left = (others : List (List ℕ)) × (pieces ≡ piece ∷ others) × IsGiven (drop count piece ∷ others) calls left
IsGiven pieces (turned ∷ calls) left = (others : List (List ℕ)) × (pieces ≡ [] ∷ others) × IsGiven others calls left
IsGiven pieces (handed message ∷ calls) left = IsGiven pieces calls left
IsGiven pieces (refused fault ∷ calls) left = IsGiven pieces calls left
IsGiven pieces (waited ∷ calls) left = IsGiven pieces calls left

-- ---- what the reader was given

abbrev pub handed_messages : List Call → List (List ℕ)
handed_messages [] = []
handed_messages (fed piece count ∷ calls) = handed_messages calls
handed_messages (turned ∷ calls) = handed_messages calls
handed_messages (handed message ∷ calls) = message ∷ handed_messages calls
handed_messages (refused fault ∷ calls) = handed_messages calls
handed_messages (waited ∷ calls) = handed_messages calls

abbrev pub told_faults : List Call → List FaultOf
told_faults [] = []
told_faults (fed piece count ∷ calls) = told_faults calls
told_faults (turned ∷ calls) = told_faults calls
told_faults (handed message ∷ calls) = told_faults calls
told_faults (refused fault ∷ calls) = fault ∷ told_faults calls
told_faults (waited ∷ calls) = told_faults calls

-- A reader gives these pieces to a new cutter, makes these calls, and then the cutter holds these octets and these pieces are left.
pub record Reads (pieces : List (List ℕ)) (calls : List Call) (held : List ℕ) (left : List (List ℕ)) : Type 0 where
  pub run : Run [] calls held
  pub given : IsGiven pieces calls left

-- The reader is at the end: a faulty header waits, or no octet is left and nothing waits.
abbrev pub IsAtEnd : List ℕ → List (List ℕ) → Type 0
IsAtEnd held left = (fault_in_front held ≢ None) ⊎ ((concat left ≡ []) × (is_waiting held ≡ false))
