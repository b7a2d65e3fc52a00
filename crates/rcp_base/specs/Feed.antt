-- Recorded feeds: records in frames, one after the other, and the first fault.
use Rattle.std.specs.Prelude.{ℕ, zero, suc, ◌+◌, ◌^◌, ◌<◌, ◌≤◌, Bool, true, false, not, ◌&&◌, ◌||◌, ◌==◌, List, [], ◌∷◌, ◌++◌, length, take, drop, filter, slice_index, Option, Some, None, is_none, unwrap_or, Result, Ok, Err, nat_lt, nat_le, if◌then◌else◌}
use Rattle.std.specs.Int.{w32, w64, to_be_bytes, from_be_bytes}
use Rattle.rcp_base.specs.Octets.{AreOctets}
use Rattle.rcp_base.specs.Checks.{first_failing, unless}
use Rattle.rcp_base.specs.declared.kinds.Kind.{Kind}
use Rattle.rcp_base.specs.declared.kinds.Kind.TheVariants.{Roster, Ready, Raw, Octets, Closed, Links, Time, Slice, Drain, Finish}
use Rattle.rcp_base.specs.declared.kinds.FeedWhy.{FeedWhy}
use Rattle.rcp_base.specs.declared.kinds.FeedWhy.TheVariants as why

-- ---- frames

-- a kind in one octet, a source and a length in four octets each, and a body
abbrev pub frame : ℕ → ℕ → List ℕ → List ℕ
frame kind source body = kind ∷ to_be_bytes w32 source ++ to_be_bytes w32 (length body) ++ body

-- the parts of the frame in front
abbrev pub letter_at : List ℕ → ℕ
letter_at octets = slice_index octets 0

abbrev pub source_at : List ℕ → ℕ
source_at octets = from_be_bytes w32 (take 4 (drop 1 octets))

abbrev pub length_at : List ℕ → ℕ
length_at octets = from_be_bytes w32 (take 4 (drop 5 octets))

abbrev pub body_at : List ℕ → List ℕ
body_at octets = take (length_at octets) (drop 9 octets)

-- how many octets the frame in front has: 9 while its header isn't whole
abbrev pub frame_size : List ℕ → ℕ
frame_size octets = if nat_lt (length octets) 9 then 9 else 9 + length_at octets

-- an output record
pub record OutRecord : Type 0 where
  pub kind : ℕ
  pub connection : ℕ
  pub body : List ℕ

abbrev pub out_octets : OutRecord → List ℕ
out_octets out = frame out.kind out.connection out.body

-- ---- kinds

abbrev pub letter_of : Kind → ℕ
letter_of Roster = 67
letter_of Ready = 69
letter_of Raw = 85
letter_of Octets = 66
letter_of Closed = 88
letter_of Links = 76
letter_of Time = 84
letter_of Slice = 87
letter_of Drain = 68
letter_of Finish = 90

unfoldable pub kind_of : ℕ → Option Kind
kind_of letter =
    if letter == 67 then Some Roster else (
    if letter == 69 then Some Ready else (
    if letter == 85 then Some Raw else (
    if letter == 66 then Some Octets else (
    if letter == 88 then Some Closed else (
    if letter == 76 then Some Links else (
    if letter == 84 then Some Time else (
    if letter == 87 then Some Slice else (
    if letter == 68 then Some Drain else (
    if letter == 90 then Some Finish else None)))))))))

-- the length that a kind's bodies have: none where it may be any
abbrev pub only_length : Kind → Option ℕ
only_length Roster = None
only_length Ready = Some 4
only_length Raw = Some 0
only_length Octets = None
only_length Closed = Some 0
only_length Links = None
only_length Time = Some 8
only_length Slice = Some 6
only_length Drain = Some 0
only_length Finish = Some 0

abbrev pub has_length : Kind → ℕ → Bool
has_length kind len = unwrap_or (only_length kind) len == len

-- its source is a connection; the other kinds have the source 0
abbrev pub is_of_connection : Kind → Bool
is_of_connection Ready = true
is_of_connection Raw = true
is_of_connection Octets = true
is_of_connection Closed = true
is_of_connection kind = false

-- it begins a connection
abbrev pub begins : Kind → Bool
begins Ready = true
begins Raw = true
begins kind = false

abbrev pub is_roster : Kind → Bool
is_roster Roster = true
is_roster kind = false

abbrev pub is_end_of_connection : Kind → Bool
is_end_of_connection Closed = true
is_end_of_connection kind = false

abbrev pub is_time : Kind → Bool
is_time Time = true
is_time kind = false

abbrev pub is_finish : Kind → Bool
is_finish Finish = true
is_finish kind = false

-- ---- records, and what a feed remembers of those before

pub record FeedRecord : Type 0 where
  pub kind : Kind
  pub source : ℕ
  pub body : List ℕ

abbrev pub record_octets : FeedRecord → List ℕ
record_octets item = frame (letter_of item.kind) item.source item.body

-- what has a frame
pub record IsRecord (item : FeedRecord) : Type 0 where
  pub source : item.source < 2 ^ 32
  pub length : length item.body ≤ 65536
  pub octets : AreOctets item.body

-- the seconds of a time record
abbrev pub moment_of : List ℕ → ℕ
moment_of body = from_be_bytes w64 body

pub record FeedState : Type 0 where
  -- how many records came before, and how many octets they have: an earlier feed's count too
  pub number : ℕ
  pub octets : ℕ
  -- a record of this feed came before
  pub started : Bool
  -- the greatest number of a connection, 0 before the first
  pub last : ℕ
  -- the open connections, in their order
  pub live : List ℕ
  -- the latest time, 0 before the first
  pub moment : ℕ
  -- the feed has ended, by its Z or by a refusal
  pub closed : Bool

-- before the first feed
abbrev pub before_feeds : FeedState
before_feeds = record { number = 0; octets = 0; started = false; last = 0; live = []; moment = 0; closed = false }

-- before a further feed: the counts go on
abbrev pub before_next_feed : FeedState → FeedState
before_next_feed state = record state { started = false; last = 0; live = []; moment = 0; closed = false }

abbrev pub live_after : List ℕ → FeedRecord → List ℕ
live_after live item =
    if begins item.kind then live ++ item.source ∷ []
    else (if is_end_of_connection item.kind then filter (λ connection. not (connection == item.source)) live else live)

abbrev pub after : FeedState → FeedRecord → FeedState
after state item = record {
  number = state.number + 1;
  octets = state.octets + 9 + length item.body;
  started = true;
  last = if begins item.kind then item.source else state.last;
  live = live_after state.live item;
  moment = if is_time item.kind then moment_of item.body else state.moment;
  closed = is_finish item.kind;
}

-- ---- faults

-- the checks of a kind and a length, and those of a record whose body is there
abbrev pub header_checks : FeedState → Kind → ℕ → List (Bool × FeedWhy)
header_checks state kind len =
    (not state.started && not (is_roster kind), why.NoRoster)
    ∷ (state.started && is_roster kind, why.Twice)
    ∷ (nat_lt 65536 len || not (has_length kind len), why.Length)
    ∷ []

abbrev pub body_checks : FeedState → FeedRecord → List (Bool × FeedWhy)
body_checks state item =
    (if is_of_connection item.kind then item.source == 0 else not (item.source == 0), why.BadBody)
    ∷ (begins item.kind && nat_le item.source state.last, why.Twice)
    ∷ (begins item.kind && nat_le 4096 (length state.live), why.TooMany)
    ∷ (is_time item.kind && nat_lt (moment_of item.body) state.moment, why.ClockBack)
    ∷ []

-- the kind and the record in front, where its letter is one and it is whole
abbrev pub kind_in : List ℕ → Kind
kind_in octets = unwrap_or (kind_of (letter_at octets)) Finish

abbrev pub record_in : List ℕ → FeedRecord
record_in octets = record { kind = kind_in octets; source = source_at octets; body = body_at octets }

-- the checks of its header
abbrev pub frame_checks : FeedState → List ℕ → List (Bool × FeedWhy)
frame_checks state octets = (is_none (kind_of (letter_at octets)), why.Kind) ∷ header_checks state (kind_in octets) (length_at octets)

-- all checks of the record in front, in their order
abbrev pub checks : FeedState → List ℕ → List (Bool × FeedWhy)
checks state octets =
    (nat_le (2 ^ 40) state.octets, why.TooLong)
    ∷ (nat_lt (length octets) 9, why.Truncated)
    ∷ frame_checks state octets
    ++ (nat_lt (length octets) (frame_size octets), why.Truncated)
    ∷ body_checks state (record_in octets)

unfoldable pub fault_in_front : FeedState → List ℕ → Option FeedWhy
fault_in_front state octets = first_failing (checks state octets)

-- the checks of a record that is whole
unfoldable pub fault_of : FeedState → FeedRecord → Option FeedWhy
fault_of state item =
    first_failing ((nat_le (2 ^ 40) state.octets, why.TooLong) ∷ header_checks state item.kind (length item.body) ++ body_checks state item)

-- the record in front and the octets after it, or its first fault
unfoldable pub front : FeedState → List ℕ → Result (FeedRecord × List ℕ) FeedWhy
front state octets = unless (fault_in_front state octets) (record_in octets, drop (frame_size octets) octets)

-- ---- a whole feed

-- The records of a feed, and the state after them. Where the feed has a fault, it is that of the record after them;
-- else the last of them is its Z. And the octets that are left.
pub record Feed : Type 0 where
  pub items : List FeedRecord
  pub state : FeedState
  pub fault : Option FeedWhy
  pub left : List ℕ

abbrev pub with_first : FeedRecord → Feed → Feed
with_first item feed = record feed { items = item ∷ feed.items }

-- each record takes octets, so there are no more records than octets
unfoldable pub feed_within : ℕ → FeedState → List ℕ → Feed
feed_within zero state octets = record { items = []; state = state; fault = None; left = octets }
feed_within (suc most) state octets = elim (front state octets) [
  | Ok found ↦ if is_finish found.0.kind
      then record { items = found.0 ∷ []; state = after state found.0; fault = None; left = found.1 }
      else with_first found.0 (feed_within most (after state found.0) found.1)
  | Err fault ↦ record { items = []; state = state; fault = Some fault; left = octets }
]

abbrev pub feed_of : FeedState → List ℕ → Feed
feed_of state octets = feed_within (length octets + 1) state octets
