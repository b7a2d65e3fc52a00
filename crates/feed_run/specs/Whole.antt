-- A feed that was read to its Z.
use Rattle.std.specs.Prelude.{◌≡◌, ℕ, ◌+◌, List, ◌∷◌, ◌++◌, length, Option, Some, None, Ok}
use Rattle.std.specs.List.{flat_map, AllByRecursion}
use Rattle.outside.specs.Told.{in_front}
use Rattle.rcp_base.specs.Feed.{FeedRecord, FeedState, Feed, IsRecord, before_next_feed, record_octets, feed_of}
use Rattle.rcp_base.specs.Roster.{RosterOf, roster_of}
use Rattle.feed_meaning.specs.Platform.{fresh}
use Rattle.feed_meaning.specs.Runs.{platform_after}
use Rattle.feed_meaning.specs.WholeFeeds.{FurtherFault, Finished, roster_fault}
use Rattle.platform_laws.specs.Platforms.{IsSeen}
use Rattle.feed_run.specs.NextFeeds.{meaning_after}
use Rattle.feed_run.specs.declared.records.FeedRun.{FeedRun}

-- These octets are a feed that follows others: whatever comes after them, they have its roster and its records, and end at its Z.
pub record AreFeed (earlier : FeedState) (octets : List ℕ) (roster : RosterOf) (items : List FeedRecord) (later : FeedState) : Type 0 where
  pub records : List FeedRecord
  pub parts : octets ≡ flat_map record_octets records
  pub form : AllByRecursion IsRecord records
  pub count : later.number ≡ earlier.number + length records
  pub state : (more : List ℕ) → (feed_of (before_next_feed earlier) (octets ++ more)).state ≡ later
  pub meaning : (more : List ℕ) → meaning_after earlier (octets ++ more) ≡ record { roster = Some roster; items = items; end = Finished; left = more }

-- ---- of which some records were read

-- records without a fault by the roster
abbrev pub Pass : FurtherFault → List FeedRecord → Type 0
Pass fault items = AllByRecursion (λ item. fault item ≡ None) items

-- several records in front of a feed's
abbrev pub with_all : List FeedRecord → Feed → Feed
with_all items feed = record feed { items = items ++ feed.items }

-- The octets of a roster and of these records were read of a feed that follows others, and the platform is the one to which they lead.
pub record IsReached (earlier : FeedState) (run : FeedRun) (roster : RosterOf) (items : List FeedRecord) (before now : Option (List ℕ)) : Type 0 where
  pub octets : List ℕ
  pub given : before ≡ in_front octets now
  pub first : FeedRecord
  pub parts : octets ≡ flat_map record_octets (first ∷ items)
  pub form : AllByRecursion IsRecord (first ∷ items)
  pub count : run.reader.number ≡ earlier.number + length (first ∷ items)
  pub feed : (more : List ℕ) → feed_of (before_next_feed earlier) (octets ++ more) ≡ with_all (first ∷ items) (feed_of run.reader more)
  pub is_read : roster_of first.body ≡ Ok roster
  pub passed : Pass (roster_fault roster) items
  pub seen : IsSeen (platform_after (fresh roster) items) run.platform.seen

-- ---- all of it

-- The source gave the octets of a feed, and the platform is the one to which its records lead.
pub record IsWhole (earlier : FeedState) (feed : FeedRun) (before now : Option (List ℕ)) : Type 0 where
  pub octets : List ℕ
  pub given : before ≡ in_front octets now
  pub roster : RosterOf
  pub items : List FeedRecord
  pub is_feed : AreFeed earlier octets roster items feed.reader
  pub seen : IsSeen (platform_after (fresh roster) items) feed.platform.seen
