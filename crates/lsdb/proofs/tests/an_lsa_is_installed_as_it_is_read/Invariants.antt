use Rattle.std.proofs.Common.{◌≡◌}
use Rattle.lsdb.proofs.tests.an_lsa_is_installed_as_it_is_read.Given as goal

abbrev pub invariant-loop-age : goal.invariant-loop-age
invariant-loop-age g l = l.lsdb.moment ≡ 0
