use Rattle.std.proofs.Common.{◌≡◌}
use Rattle.lsdb.proofs.tests.one_router_too_many_is_dropped.Given as goal

abbrev pub invariant-loop-router : goal.invariant-loop-router
invariant-loop-router g l = l.lsdb.moment ≡ 0
