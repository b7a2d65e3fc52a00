use Rattle.std.proofs.Common.{◌≤◌, length}
use Rattle.shard_cases.proofs.tests.graph_of.Given as goal

abbrev pub invariant-loop-link : goal.invariant-loop-link
invariant-loop-link l = length l.graph ≤ l.link-index
