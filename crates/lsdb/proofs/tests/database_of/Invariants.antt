use Rattle.std.proofs.Common.{◌≡◌}
use Rattle.lsdb.proofs.tests.database_of.Given as goal

abbrev pub invariant-loop-router : goal.invariant-loop-router
invariant-loop-router l = l.lsdb.moment ≡ 0
