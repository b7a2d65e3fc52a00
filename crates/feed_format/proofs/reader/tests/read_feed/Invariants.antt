-- The feed has not ended.
use Rattle.std.proofs.Common.{◌≡◌, false}
use Rattle.feed_format.proofs.reader.tests.read_feed.Given as goal

abbrev pub invariant-loop-count : goal.invariant-loop-count
invariant-loop-count l = l.reader.closed ≡ false
