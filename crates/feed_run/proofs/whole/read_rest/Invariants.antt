-- The records so far were read, and the platform is the one to which they lead. The count of faults hasn't fallen, and the feed that is left is finite.
use Rattle.std.proofs.Common.{ℕ, List, Option, ◌-◌, ◌^◌}
use Rattle.outside.specs.Told.{NeverFalls}
use Rattle.rcp_base.specs.Feed.{FeedState, FeedRecord}
use Rattle.rcp_base.specs.Roster.{RosterOf}
use Rattle.feed_run.specs.Going.{IsGoing}
use Rattle.feed_run.specs.Whole.{IsReached}
use Rattle.feed_run.proofs.whole.read_rest.Given as goal

abbrev pub invariant-records : goal.invariant-records
invariant-records g l = record {
  going : IsGoing l.feed;
  reached : (earlier : FeedState) (roster : RosterOf) (items : List FeedRecord) (before : Option (List ℕ)) → IsReached earlier l.fn.feed roster items before (g.S.Source.left l.fn.source)
      → (all : List FeedRecord) × IsReached earlier l.feed roster all before (g.S.Source.left l.source);
  never_falls : NeverFalls (g.S.Source.faults l.fn.source) (g.S.Source.faults l.source);
}

abbrev pub decreases-records : goal.decreases-records
decreases-records g l = 2 ^ 41 - l.feed.reader.octets
