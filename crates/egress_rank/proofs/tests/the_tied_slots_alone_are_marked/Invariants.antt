use Rattle.std.proofs.Common.{◌≡◌, length}
use Rattle.egress_rank.proofs.tests.the_tied_slots_alone_are_marked.Given as goal

abbrev pub invariant-loop-routes : goal.invariant-loop-routes
invariant-loop-routes g l = length l.marks ≡ 4
