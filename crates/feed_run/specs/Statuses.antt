-- The statuses of a run that reads a feed: what has to have happened for each, and how the feed ended.
use Rattle.std.specs.Prelude.{◌≡◌, ℕ}
use Rattle.outside.specs.Told.{Rose}
use Rattle.feed_meaning.specs.WholeFeeds.{FeedEnd, Finished, FaultyRecord, FaultyRoster}
use Rattle.feed_format.specs.declared.status.Status.{Status}
use Rattle.feed_format.specs.declared.status.Status.TheVariants.{Done, Usage, Feed, Roster, Read, Write, NoMemory, NoPath, NetFault}
use Rattle.feed_format.specs.declared.reader.FeedRefusal.{FeedRefusal}
use Rattle.feed_format.specs.declared.reader.FeedRefusal.TheVariants as refusal
use Rattle.roster.specs.declared.refusal.RosterRefusal.{RosterRefusal}
use Rattle.roster.specs.declared.refusal.RosterRefusal.TheVariants as roster

-- the status of a run whose next record isn't given
abbrev pub status_of : FeedRefusal → Status
status_of (refusal.Feed number why) = Feed number why
status_of refusal.Read = Read
status_of refusal.NoMemory = NoMemory

-- the status of a run whose record of this number, the first of a feed, holds no roster
abbrev pub status_of_roster : ℕ → RosterRefusal → Status
status_of_roster number (roster.Fault line why) = Roster number line why
status_of_roster number roster.NoMemory = NoMemory

-- The counts of faults of the source and of the sink before and after allow the status: Read comes only where the source's count
-- rose, Write only where the sink's did. Usage, NoPath and NetFault don't come from a feed.
abbrev pub HasCause : Status → (source_before source_now sink_before sink_now : ℕ) → Type 0
HasCause Done a b c d = Unit {0}
HasCause Usage a b c d = ⊥
HasCause (Feed number why) a b c d = Unit {0}
HasCause (Roster number line why) a b c d = Unit {0}
HasCause Read a b c d = Rose a b
HasCause Write a b c d = Rose c d
HasCause NoMemory a b c d = Unit {0}
HasCause (NoPath refused) a b c d = ⊥
HasCause NetFault a b c d = ⊥

-- Where a feed can't be read on, the status is one of these, and Read comes only where the source's count rose.
abbrev pub StopCause : Status → (source_before source_now : ℕ) → Type 0
StopCause (Feed number why) a b = Unit {0}
StopCause (Roster number line why) a b = Unit {0}
StopCause Read a b = Rose a b
StopCause NoMemory a b = Unit {0}
StopCause Done a b = ⊥
StopCause Usage a b = ⊥
StopCause Write a b = ⊥
StopCause (NoPath refused) a b = ⊥
StopCause NetFault a b = ⊥

-- the status that the end of a feed asks for
abbrev pub status_at : FeedEnd → Status
status_at Finished = Done
status_at (FaultyRecord number why) = Feed number why
status_at (FaultyRoster number fault) = Roster number fault.line fault.why

-- Done and NoPath say that the feed ended at its Z, Feed at that record, and Roster at that line of its roster. The others don't speak
-- of it.
abbrev pub EndsSo : Status → FeedEnd → Type 0
EndsSo Done end = end ≡ Finished
EndsSo Usage end = Unit {0}
EndsSo (Feed number why) end = end ≡ FaultyRecord number why
EndsSo (Roster number line why) end = end ≡ FaultyRoster number (record { line = line; why = why })
EndsSo Read end = Unit {0}
EndsSo Write end = Unit {0}
EndsSo NoMemory end = Unit {0}
EndsSo (NoPath refused) end = end ≡ Finished
EndsSo NetFault end = ⊥
