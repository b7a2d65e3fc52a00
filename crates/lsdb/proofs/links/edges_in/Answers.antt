use Rattle.std.proofs.Common.{Contains, sym, subst}
use Rattle.lsdb.proofs.links.edges_in.Goals as goal

pub returns : goal.returns
returns c = record {
  rising = c.sort.ensures.rising;
  members = λ edge. (
    λ member. subst (λ edges. Contains edges edge) c.in_ok-edges.ensures (c.sort.ensures.no_other edge member),
    λ member. c.sort.ensures.kept edge (subst (λ edges. Contains edges edge) (sym c.in_ok-edges.ensures) member),
  );
}
