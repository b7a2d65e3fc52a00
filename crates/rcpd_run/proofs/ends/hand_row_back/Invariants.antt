-- The links so far were handed back.
use Rattle.std.proofs.Common.{◌≡◌, Some, IfSome}
use Rattle.outside.specs.Told.{NeverFalls, followed}
use Rattle.rcpd_run.proofs.ends.hand_row_back.Given as goal

abbrev pub invariant-loop-link : goal.invariant-loop-link
invariant-loop-link g l = record {
  iterator : (goal.iterator-loop-link g).can_next l.link-iterator × (goal.iterator-loop-link g).is_finite l.link-iterator;
  back : IfSome (g.N.Net.handed_back l.net) (λ links. Some links ≡ followed (g.N.Net.handed_back l.fn.net) l.yielded);
  handed_out : g.N.Net.handed_out l.net ≡ g.N.Net.handed_out l.fn.net;
  never_falls : NeverFalls (g.N.Net.faults l.fn.net) (g.N.Net.faults l.net);
}
