-- The text has the lines of the records so far, and the feed that is left is finite.
use Rattle.std.proofs.Common.{◌≡◌, ℕ, List, Some, ◌-◌, ◌^◌}
use Rattle.rcp_base.specs.Feed.{FeedRecord, FeedState}
use Rattle.rcp_base.specs.Roster.{RosterOf}
use Rattle.feed_run.specs.Going.{IsGoing}
use Rattle.feed_run.specs.Whole.{IsReached}
use Rattle.rcp_run.specs.Trials.{summary_lines}
use Rattle.rcp_run.proofs.generated.put_rest.Given as goal

abbrev pub invariant-records : goal.invariant-records
invariant-records g l = record {
  going : IsGoing l.run;
  reached : (earlier : FeedState) (roster : RosterOf) (items : List FeedRecord) (octets : List ℕ)
      → IsReached earlier l.fn.run roster items (Some octets) (g.S.Source.left l.fn.source) → l.fn.text.items ≡ summary_lines roster items
      → (all : List FeedRecord) × IsReached earlier l.run roster all (Some octets) (g.S.Source.left l.source) × (l.text.items ≡ summary_lines roster all);
}

abbrev pub decreases-records : goal.decreases-records
decreases-records g l = 2 ^ 41 - l.run.reader.octets
