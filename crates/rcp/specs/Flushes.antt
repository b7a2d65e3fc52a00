-- What a last flush that fails takes from a status.
use Rattle.std.specs.Prelude.{Bool, true, false}
use Rattle.feed_format.specs.declared.status.Status.{Status}
use Rattle.feed_format.specs.declared.status.Status.TheVariants.{Done, Feed, Roster, Read}

-- The status says that all output of the records before was written: with Usage and NoPath there is none, NoMemory says it of whole records only, and
-- Write not at all.
abbrev pub says_all_written : Status → Bool
says_all_written Done = true
says_all_written (Feed number why) = true
says_all_written (Roster number line why) = true
says_all_written Read = true
says_all_written status = false
