-- Seats: what one session at a time holds for its router.
use Rattle.std.specs.Prelude.{◌≡◌, ℕ, ◌+◌, ◌-◌, ◌^◌, nat_lt, false, List, [], ◌∷◌, ◌++◌, length, map, All, Option, Some, None, slice_index_or, slice_set, if◌then◌else◌}
use Rattle.atomic_table.specs.Seated.{TableId}
use Rattle.rcp_model.specs.Routes.{OfferFields}
use Rattle.mailbox.specs.Boxes.{counted}
use Rattle.seats.specs.Names.{no_mailbox}
use Rattle.seats.specs.Mails.{Mail, is_up, IsWithin, IsBelow}
use Rattle.seats.specs.Ends.{SenderOf, ReceiverOf}

-- what contracts see of a seat: its slot, how often it was claimed, its senders in the order of shards, and its receiver
pub record SeatOf : Type 0 where
  pub slot : ℕ
  pub generation : ℕ
  pub senders : List (SenderOf Mail)
  pub offers : ReceiverOf OfferFields

-- ---- steps

-- the sender to a shard
abbrev pub no_sender : SenderOf Mail
no_sender = record { mailbox = no_mailbox; number = 0; sent = []; refusals = 0; room = 0 }

abbrev pub sender_at : ℕ → SeatOf → SenderOf Mail
sender_at shard seat = slice_index_or seat.senders shard no_sender

-- what was put to a shard
abbrev pub sent_at : ℕ → SeatOf → List Mail
sent_at shard seat = (sender_at shard seat).sent

abbrev pub with_sender : ℕ → SenderOf Mail → SeatOf → SeatOf
with_sender shard sender seat = record seat { senders = slice_set seat.senders shard sender }

-- a message was put to a shard
abbrev pub put_to : ℕ → Mail → SeatOf → SeatOf
put_to shard mail seat = with_sender shard (record (sender_at shard seat) { sent = sent_at shard seat ++ mail ∷ [] }) seat

-- the mailbox of a shard had no room
abbrev pub refused_by : ℕ → SeatOf → SeatOf
refused_by shard seat = with_sender shard (record (sender_at shard seat) { refusals = counted (sender_at shard seat).refusals }) seat

-- an offer was taken
abbrev pub took : ℕ × OfferFields → SeatOf → SeatOf
took offer seat = record seat { offers = record seat.offers { received = seat.offers.received ++ offer ∷ [] } }

-- there was no offer to take
abbrev pub found_none : SeatOf → SeatOf
found_none seat = record seat { offers = record seat.offers { empties = counted seat.offers.empties } }

-- ---- seats at rest

-- the seat's mailboxes are those with these names
pub record IsNamed (shards : ℕ → List TableId) (offers : ℕ → TableId) (seat : SeatOf) : Type 0 where
  pub each : map (λ (s : SenderOf Mail). s.mailbox) seat.senders ≡ shards seat.slot
  pub receiver : seat.offers.mailbox ≡ offers seat.slot

-- each sender has the slot as its number
abbrev pub IsNumbered : ℕ → List (SenderOf Mail) → Type 0
IsNumbered slot senders = All (λ s. s.number ≡ slot) senders

-- by what was put to them, the router is down at every shard
abbrev pub IsDown : SeatOf → Type 0
IsDown seat = All (λ s. is_up s.sent ≡ false) seat.senders

-- no `Up` that was put has a higher generation
abbrev pub IsLatest : SeatOf → Type 0
IsLatest seat = All (λ s. All (IsWithin seat.generation) s.sent) seat.senders

-- each `Up` that was put has a lower generation
abbrev pub IsLater : SeatOf → Type 0
IsLater seat = All (λ s. All (IsBelow seat.generation) s.sent) seat.senders

-- nothing was put by these
abbrev pub AreUnused : List (SenderOf Mail) → Type 0
AreUnused senders = All (λ s. s.sent ≡ []) senders

-- a seat that no session holds
pub record IsResting (shards : ℕ → List TableId) (offers : ℕ → TableId) (seat : SeatOf) : Type 0 where
  pub named : IsNamed shards offers seat
  pub down : IsDown seat
  pub latest : IsLatest seat

-- a seat that was just claimed
pub record IsClaimed (shards : ℕ → List TableId) (offers : ℕ → TableId) (slot : ℕ) (seat : SeatOf) : Type 0 where
  pub at : seat.slot ≡ slot
  pub named : IsNamed shards offers seat
  pub down : IsDown seat
  pub later : IsLater seat

-- ---- the book

-- the last value of a generation
abbrev pub WORN_OUT : ℕ
WORN_OUT = 2 ^ 64 - 1

abbrev pub next_generation : SeatOf → SeatOf
next_generation seat = record seat { generation = seat.generation + 1 }

-- what is taken of a place: its seat for the next session, but nothing where the place is empty or its seat is worn out
abbrev pub taken_of : Option SeatOf → Option SeatOf
taken_of None = None
taken_of (Some seat) = if nat_lt seat.generation WORN_OUT then Some (next_generation seat) else None

-- the place of a slot, which is empty where there is none
abbrev pub place_of : List (Option SeatOf) → ℕ → Option SeatOf
place_of seats slot = slice_index_or seats slot None

-- a book with a place for each slot: the seat there is that of the slot, and rests
pub record IsBook (places : ℕ) (shards : ℕ → List TableId) (offers : ℕ → TableId) (seats : List (Option SeatOf)) : Type 0 where
  pub count : length seats ≡ places
  pub slots : (slot : ℕ) (seat : SeatOf) → place_of seats slot ≡ Some seat → seat.slot ≡ slot
  pub resting : (slot : ℕ) (seat : SeatOf) → place_of seats slot ≡ Some seat → IsResting shards offers seat

-- a seat that a book is made with: it is that of the slot, and nothing was put by it
pub record IsOffered (shards : ℕ → List TableId) (offers : ℕ → TableId) (slot : ℕ) (seat : SeatOf) : Type 0 where
  pub at : seat.slot ≡ slot
  pub named : IsNamed shards offers seat
  pub unused : AreUnused seat.senders
