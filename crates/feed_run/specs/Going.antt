-- A feed that goes on: the platform of the definitions that its records led to, and what is answered from there.
use Rattle.std.specs.Prelude.{◌≡◌, ℕ, ◌+◌, ◌*◌, ◌^◌, ◌≤◌, true, false, List, [], Option, Some, None, Ok}
use Rattle.std.specs.List.{flat_map, AllByRecursion}
use Rattle.outside.specs.Told.{in_front}
use Rattle.rcp_base.specs.Feed.{FeedRecord, FeedState, OutRecord, IsRecord, before_next_feed, is_finish, record_octets, out_octets, fault_of, after, feed_of}
use Rattle.rcp_base.specs.Roster.{RosterOf, roster_of}
use Rattle.feed_meaning.specs.Platform.{Platform, fresh}
use Rattle.feed_meaning.specs.Runs.{act, all_output, NumbersRise}
use Rattle.feed_meaning.specs.WholeFeeds.{FeedEnd, roster_fault, end_of, read_of, feed_meaning}
use Rattle.platform_laws.specs.Platforms.{IsSeen}
use Rattle.feed_format.specs.declared.status.Status.{Status}
use Rattle.feed_format.specs.declared.status.Status.TheVariants.{Done, Read}
use Rattle.feed_run.specs.Frames.{IsFramed}
use Rattle.feed_run.specs.NextFeeds.{meaning_after, items_after, end_after, left_after}
use Rattle.feed_run.specs.Statuses.{EndsSo}
use Rattle.feed_run.specs.Written.{StopsBy, EndsCut, Wrote, records_in, end_in, output_with}
use Rattle.feed_run.specs.declared.records.FeedRun.{FeedRun}

-- ---- the answer of a run

-- what is known of records that were answered: they were read, their connections rise, and what they put out has room in its frames
pub record AreRead (platform : Platform) (last : ℕ) (items : List FeedRecord) : Type 0 where
  pub form : AllByRecursion IsRecord items
  pub rising : NumbersRise last items
  pub framed : AllByRecursion IsFramed (all_output platform items)

-- What a status says of octets that were read, by how they end and what is left after them. So many records came before.
pub record ReadsSo (end_for : List ℕ → FeedEnd) (left_of : List ℕ → List ℕ) (number : ℕ) (status : Status) (octets : List ℕ) (now : Option (List ℕ)) : Type 0 where
  pub ended : EndsSo status (end_for octets)
  pub through : status ≡ Done → now ≡ Some (left_of octets)
  pub stops : StopsBy number status octets now
  pub cut : status ≡ Read → EndsCut end_for octets now

-- What it says of them and of what was written, by their records.
pub record AnswersBy (items_of : List ℕ → List FeedRecord) (end_for : List ℕ → FeedEnd) (left_of : List ℕ → List ℕ) (output : List FeedRecord → List ℕ)
    (Known : List FeedRecord → Type 0) (number : ℕ) (status : Status) (octets : List ℕ) (now before after : Option (List ℕ)) : Type 0 where
  pub reads : ReadsSo end_for left_of number status octets now
  pub wrote : Wrote items_of output status octets now before after
  pub known : Known wrote.items

-- ---- of a whole feed

abbrev pub AreReadWith : Option RosterOf → List FeedRecord → Type 0
AreReadWith None items = items ≡ []
AreReadWith (Some roster) items = AreRead (fresh roster) 0 items

-- of a feed that follows others
abbrev pub ReadsAfter : FeedState → Status → List ℕ → Option (List ℕ) → Type 0
ReadsAfter earlier status octets now = ReadsSo (end_after earlier) (left_after earlier) earlier.number status octets now

abbrev pub AnswersAfter : FeedState → Status → List ℕ → Option (List ℕ) → Option (List ℕ) → Option (List ℕ) → Type 0
AnswersAfter earlier status octets now before after =
    AnswersBy (items_after earlier) (end_after earlier) (left_after earlier) (output_with (meaning_after earlier octets).roster)
    (AreReadWith (meaning_after earlier octets).roster) earlier.number status octets now before after

-- of the first one
abbrev pub Answers : Status → List ℕ → Option (List ℕ) → Option (List ℕ) → Option (List ℕ) → Type 0
Answers status octets now before after =
    AnswersBy records_in end_in (λ o. (feed_meaning o).left) (output_with (feed_meaning octets).roster) (AreReadWith (feed_meaning octets).roster) 0 status octets now before after

-- ---- of the octets that follow the records of a state, which brought the platform where it is

abbrev pub items_from : Platform → FeedState → List ℕ → List FeedRecord
items_from platform state octets = read_of (roster_fault platform.roster) (feed_of state octets).items

abbrev pub end_from : Platform → FeedState → List ℕ → FeedEnd
end_from platform state octets = end_of (roster_fault platform.roster) (state.number + 1) (feed_of state octets).items (feed_of state octets).fault

abbrev pub outputs_from : Platform → List FeedRecord → List ℕ
outputs_from platform items = flat_map out_octets (all_output platform items)

abbrev pub AnswersFrom : Platform → FeedState → Status → List ℕ → Option (List ℕ) → Option (List ℕ) → Option (List ℕ) → Type 0
AnswersFrom platform state status octets now before after =
    AnswersBy (items_from platform state) (end_from platform state) (λ o. (feed_of state o).left) (outputs_from platform) (AreRead platform state.last) state.number
    status octets now before after

-- ---- a feed that is being read

-- each record has nine octets or more, and one of them at most is read past 2^40
pub record HasCounts (state : FeedState) : Type 0 where
  pub least : 9 * state.number ≤ state.octets
  pub most : state.octets ≤ 2 ^ 40 + 65544

-- The feed hasn't ended. The platform is seen as one of the definitions, on which no connection has a number above the greatest that was
-- read, and whose time is the latest one.
pub record IsGoing (run : FeedRun) : Type 0 where
  pub defined : Platform
  pub seen : IsSeen defined run.platform.seen
  pub number : run.number ≡ run.reader.number
  pub counts : HasCounts run.reader
  pub unfinished : run.reader.closed ≡ false
  pub connections : AllByRecursion (λ entry. entry.0 ≤ run.reader.last) defined.connections
  pub time : defined.moment ≡ run.reader.moment

-- After the first record, a roster: what is answered from there is the answer for all.
pub record Begins (earlier : FeedState) (octets : List ℕ) (run : FeedRun) (roster : RosterOf) (now : Option (List ℕ)) : Type 0 where
  pub rest : List ℕ
  pub left : now ≡ Some rest
  pub answers : (status : Status) (later before after : Option (List ℕ)) → AnswersFrom (fresh roster) run.reader status rest later before after
      → AnswersAfter earlier status octets later before after

-- the first record of a feed that follows others was a roster
pub record Opens (earlier : FeedState) (run : FeedRun) (before now : Option (List ℕ)) : Type 0 where
  pub first : FeedRecord
  pub given : before ≡ in_front (record_octets first) now
  pub form : IsRecord first
  pub valid : fault_of (before_next_feed earlier) first ≡ None
  pub noted : run.reader ≡ after (before_next_feed earlier) first
  pub roster : RosterOf
  pub is_read : roster_of first.body ≡ Ok roster
  pub seen : IsSeen (fresh roster) run.platform.seen
  pub begins : (octets : List ℕ) → before ≡ Some octets → Begins earlier octets run roster now

-- A record was read and acted on, and this was put out for it.
pub record Acts (old new : FeedRun) (outs : List OutRecord) (before now : Option (List ℕ)) : Type 0 where
  pub item : FeedRecord
  pub given : before ≡ in_front (record_octets item) now
  pub form : IsRecord item
  pub valid : fault_of old.reader item ≡ None
  pub further : is_finish item.kind ≡ false
  pub noted : new.reader ≡ after old.reader item
  pub acted : (platform : Platform) → IsSeen platform old.platform.seen
      → IsSeen (act platform item).after new.platform.seen × (outs ≡ (act platform item).out) × (roster_fault platform.roster item ≡ None)

-- The last record was read, the Z of the feed, which does nothing.
pub record Finishes (old new : FeedRun) (before now : Option (List ℕ)) : Type 0 where
  pub item : FeedRecord
  pub given : before ≡ in_front (record_octets item) now
  pub form : IsRecord item
  pub valid : fault_of old.reader item ≡ None
  pub last : is_finish item.kind ≡ true
  pub noted : new.reader ≡ after old.reader item
  pub same : new.platform ≡ old.platform

-- What a status says of what is left of a feed: nothing more was written for it.
abbrev pub Ends : FeedRun → Status → Option (List ℕ) → Option (List ℕ) → Type 0
Ends run status before now =
    (platform : Platform) (octets : List ℕ) (taken : Option (List ℕ)) → IsSeen platform run.platform.seen → before ≡ Some octets
    → AnswersFrom platform run.reader status octets now taken taken
