use Rattle.std.proofs.Common.{◌≤◌, length}
use Rattle.spf_incr.specs.Tables.{IsEngineOver}
use Rattle.spf_incr.proofs.tests.costs_rise_and_fall_with_a_link.Given as goal

abbrev pub invariant-loop-link : goal.invariant-loop-link
invariant-loop-link g l = record {
  few : length l.both.graph ≤ l.link-index;
  items : length l.link-items ≤ 100;
  plain : IsEngineOver l.both.plain l.both.graph;
  tree : IsEngineOver l.both.tree l.both.graph;
}
