use Rattle.std.proofs.Common.{◌≤◌, ◌+◌, length}
use Rattle.spf_incr.specs.Tables.{IsEngineOver}
use Rattle.spf_incr.proofs.tests.a_cycle_of_cost_zero_holds_no_cost.Given as goal

abbrev pub invariant-loop-link : goal.invariant-loop-link
invariant-loop-link g l = record {
  few : length l.both.graph ≤ l.link-index;
  items : length l.link-items ≤ 100;
  plain : IsEngineOver l.both.plain l.both.graph;
  tree : IsEngineOver l.both.tree l.both.graph;
}

abbrev pub invariant-loop-link-2 : goal.invariant-loop-link-2
invariant-loop-link-2 g l = record {
  few : length l.both.graph ≤ l.link-index + 100;
  items : length l.link-items ≤ 100;
  plain : IsEngineOver l.both.plain l.both.graph;
  tree : IsEngineOver l.both.tree l.both.graph;
}
