-- As many links were handed on as the net handed out, or its count stands at its last value.
use Rattle.std.proofs.Common.{◌≡◌, ◌≤◌, length}
use Rattle.outside.specs.Told.{NeverFalls}
use Rattle.link_acceptor.specs.Accepting.{RoseBy}
use Rattle.link_acceptor.proofs.acceptor.accept.Given as goal

abbrev pub invariant-loop : goal.invariant-loop
invariant-loop g l = record {
  iterator : (goal.iterator-loop g).can_next l.iterator' × (goal.iterator-loop g).is_finite l.iterator';
  handed_on : RoseBy l.handed_on (g.N.Net.handed_out l.fn.net) (g.N.Net.handed_out l.net);
  few : l.handed_on ≤ length l.links;
  never : NeverFalls (g.N.Net.faults l.fn.net) (g.N.Net.faults l.net);
  back : g.N.Net.handed_back l.net ≡ g.N.Net.handed_back l.fn.net;
}
