-- What octets come to as a feed: the roster of the first record, the records that are acted on, and how the feed ends.
use Rattle.std.specs.Prelude.{◌≡◌, ◌≢◌, ℕ, ◌+◌, List, [], ◌∷◌, ◌++◌, take, Option, Some, None, is_some, Result, Ok, Err, nat_lt, if◌then◌else◌}
use Rattle.std.specs.List.{flat_map}
use Rattle.rcp_base.specs.declared.kinds.Kind.{Kind}
use Rattle.rcp_base.specs.declared.kinds.Kind.TheVariants as kind
use Rattle.rcp_base.specs.declared.kinds.FeedWhy.{FeedWhy}
use Rattle.rcp_base.specs.declared.kinds.FeedWhy.TheVariants as why
use Rattle.rcp_base.specs.Feed.{FeedRecord, Feed, before_feeds, feed_of, out_octets}
use Rattle.rcp_base.specs.Roster.{FaultyLine}
use Rattle.rcp_base.specs.Roster.{RosterOf, roster_of}
use Rattle.feed_meaning.specs.Platform.{fresh}
use Rattle.feed_meaning.specs.SessionTurns.{slot_named}
use Rattle.feed_meaning.specs.Work.{shard_in}
use Rattle.feed_meaning.specs.Runs.{all_output, Headline}

-- ---- the faults that a record of a feed has besides, by the roster

-- An E names a router of the roster, and a W one of its shards.
abbrev pub kind_fault : RosterOf → List ℕ → Kind → Option FeedWhy
kind_fault roster body kind.Ready = if is_some (slot_named roster body) then None else Some why.UnknownRouter
kind_fault roster body kind.Slice = if nat_lt (shard_in body) roster.shards then None else Some why.BadShard
kind_fault roster body kind = None

unfoldable pub roster_fault : RosterOf → FeedRecord → Option FeedWhy
roster_fault roster item = kind_fault roster item.body item.kind

-- ---- how a feed ends

-- at its Z, at a faulty record by its number, or at a faulty line of the roster in a record
pub data FeedEnd : Type 0 where
  Finished : FeedEnd
  FaultyRecord : ℕ → FeedWhy → FeedEnd
  FaultyRoster : ℕ → FaultyLine → FeedEnd

abbrev pub end_at : ℕ → Option FeedWhy → FeedEnd
end_at number None = Finished
end_at number (Some fault) = FaultyRecord number fault

-- Which fault a record has besides, if any. The records that follow a faulty one aren't acted on.
abbrev pub FurtherFault : Type 0
FurtherFault = FeedRecord → Option FeedWhy

-- the end of records of which the first has this number, where the feed has this fault after them
abbrev pub end_of : FurtherFault → ℕ → List FeedRecord → Option FeedWhy → FeedEnd
end_of fault_of number [] fault = end_at number fault
end_of fault_of number (item ∷ items) fault = elim (fault_of item) [
  | Some why ↦ FaultyRecord number why
  | None ↦ end_of fault_of (number + 1) items fault
]

-- the records before the first faulty one
abbrev pub read_of : FurtherFault → List FeedRecord → List FeedRecord
read_of fault_of [] = []
read_of fault_of (item ∷ items) = if is_some (fault_of item) then [] else item ∷ read_of fault_of items

-- ---- a whole feed

-- The roster, where its text has one; the records after it that are acted on, Z included; the end; and the octets after Z.
pub record FeedMeaning : Type 0 where
  pub roster : Option RosterOf
  pub items : List FeedRecord
  pub end : FeedEnd
  pub left : List ℕ

module _ (faults : RosterOf → FurtherFault) where
  abbrev pub with_roster : Feed → ℕ → List FeedRecord → Result RosterOf FaultyLine → FeedMeaning
  with_roster feed number items (Err fault) = record { roster = None; items = []; end = FaultyRoster number fault; left = feed.left }
  with_roster feed number items (Ok roster) = record {
    roster = Some roster;
    items = read_of (faults roster) items;
    end = end_of (faults roster) (number + 1) items feed.fault;
    left = feed.left;
  }

  -- what a feed comes to whose first record has this number
  abbrev pub meaning_of : ℕ → Feed → List FeedRecord → FeedMeaning
  meaning_of number feed [] = record { roster = None; items = []; end = end_at number feed.fault; left = feed.left }
  meaning_of number feed (first ∷ items) = with_roster feed number items (roster_of first.body)

  -- what octets come to as a feed, with these faults besides
  unfoldable pub meaning_by : List ℕ → FeedMeaning
  meaning_by octets = let feed = feed_of before_feeds octets in meaning_of 1 feed feed.items

-- what octets come to as a feed
abbrev pub feed_meaning : List ℕ → FeedMeaning
feed_meaning octets = meaning_by roster_fault octets

-- ---- what is put out for it

abbrev pub outputs : RosterOf → List FeedRecord → List ℕ
outputs roster items = flat_map out_octets (all_output (fresh roster) items)

-- all that is put out for a feed
abbrev pub whole_output : FeedMeaning → List ℕ
whole_output feed = elim feed.roster [ None ↦ [] | Some roster ↦ outputs roster feed.items ]

-- The output is written in part, and stops within that of the last record.
pub record StopsInLast (feed : FeedMeaning) (written : List ℕ) : Type 0 where
  pub roster : RosterOf
  pub given : feed.roster ≡ Some roster
  pub before : List FeedRecord
  pub last : FeedRecord
  pub items : feed.items ≡ before ++ last ∷ []
  pub part : List ℕ
  pub more : List ℕ
  pub wrote : written ≡ outputs roster before ++ part
  pub missing : outputs roster feed.items ≡ written ++ more
  pub less : more ≢ []

-- For the first records of a feed whose output is whole within the octets that were written, the headline holds.
abbrev pub HeadlineWritten : FeedMeaning → List ℕ → Type 0
HeadlineWritten feed written =
    (roster : RosterOf) (count : ℕ) (more : List ℕ) → feed.roster ≡ Some roster
    → written ≡ outputs roster (take count feed.items) ++ more
    → Headline roster (take count feed.items)
