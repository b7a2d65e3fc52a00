use Rattle.std.proofs.Common.{All, subst, sym, ap, ◌∙◌, arith}
use Rattle.std.proofs.lemmas.Grind.{common_steps}
use Rattle.lsdb.specs.Links.{IsCheap}
use Rattle.lsdb.proofs.Limits.{cheap-append}
use Rattle.lsdb.proofs.links.add_links.Goals as goal
use Rattle.lsdb.proofs.links.add_links.Goals.{then-link-eq-POINT_TO_POINT+in_ok-push, else-link-eq-POINT_TO_POINT}

pub loop-link-preserved : goal.loop-link-preserved
loop-link-preserved c = record {
  edges = grind (arith, common_steps);
  cheap = λ all. elim c.if-link-eq-POINT_TO_POINT.branch [
    | then-link-eq-POINT_TO_POINT+in_ok-push w ↦ subst (All IsCheap) (sym (w.in_ok-push.ensures.items) ∙ ap (λ (v : _). v.items) (sym w.edges-is))
        (cheap-append c.loop-link.edges.items w.edge_along.result (c.loop-link.invariant.cheap all) w.edge_along.ensures.cheap)
    | else-link-eq-POINT_TO_POINT w ↦ subst (All IsCheap) (ap (λ (v : _). v.items) (sym w.edges-is)) (c.loop-link.invariant.cheap all)
  ];
}
