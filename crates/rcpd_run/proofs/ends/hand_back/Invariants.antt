-- The links of the rows so far were handed back.
use Rattle.std.proofs.Common.{◌≡◌, map, Some, IfSome}
use Rattle.std.specs.List.{flat_map}
use Rattle.outside.specs.Told.{NeverFalls, followed}
use Rattle.rcpd_run.proofs.ends.hand_back.Given as goal

abbrev pub invariant-loop-row : goal.invariant-loop-row
invariant-loop-row g l = record {
  iterator : (goal.iterator-loop-row g).can_next l.row-iterator × (goal.iterator-loop-row g).is_finite l.row-iterator;
  back : IfSome (g.N.Net.handed_back l.net) (λ links. Some links ≡ followed (g.N.Net.handed_back l.fn.net) (flat_map (λ row. row) (map (λ row. row.items) l.yielded)));
  handed_out : g.N.Net.handed_out l.net ≡ g.N.Net.handed_out l.fn.net;
  never_falls : NeverFalls (g.N.Net.faults l.fn.net) (g.N.Net.faults l.net);
}
