-- The ends and the links of the sessions so far.
use Rattle.std.proofs.Common.{◌≡◌, map}
use Rattle.rcpd_run.specs.Ends.{IsRanked}
use Rattle.rcpd_run.proofs.ends.ends_of.Given as goal

abbrev pub invariant-loop-served : goal.invariant-loop-served
invariant-loop-served g l = record {
  iterator : (goal.iterator-loop-served g).can_next l.served-iterator × (goal.iterator-loop-served g).is_finite l.served-iterator;
  ends : l.ends.items ≡ map (λ served. served.end) l.yielded;
  links : IsRanked l.routers (map (λ row. row.items) l.links.items) l.yielded;
}
