use Rattle.std.proofs.Common.{◌≤◌, length}
use Rattle.spf_incr.specs.Tables.{IsEngineOver}
use Rattle.spf_incr.proofs.tests.engines_agree_on_random_changes.Given as goal

abbrev pub invariant-loop-step : goal.invariant-loop-step
invariant-loop-step g l = record {
  few : length l.both.graph ≤ l.step;
  plain : IsEngineOver l.both.plain l.both.graph;
  tree : IsEngineOver l.both.tree l.both.graph;
}
