use Rattle.std.proofs.Common.{◌≡◌, Some, Contains, slice_get, subst, sym}
use Rattle.std.proofs.lemmas.List.Elements.{Contains-get_or}
use Rattle.rcp_base.specs.declared.names.Edge.{Edge}
use Rattle.cost_rows.proofs.IndexLemmas.{zip_more}
use Rattle.cost_rows.proofs.places.ends_in.Goals as goal

pub place_of-requires-clause-named : goal.place_of-requires-clause-named
place_of-requires-clause-named c =
    (c.requires.ends c.edge-item.result (subst (Contains c.args.edges.now) (sym c.edge-item.is) (Contains-get_or c.args.edges.now c.loop-edge.edge-index c.edge-item.result c.loop-edge-test.true))).1

pub loop-edge-preserved : goal.loop-edge-preserved
loop-edge-preserved c =
    rw c.in_ok-push.ensures.items
    (zip_more (λ (edge : Edge) place. slice_get c.args.names.now place ≡ Some edge.to) c.args.edges.now c.loop-edge.ends.items c.loop-edge.edge-index c.edge-item.result c.place_of.result
    c.loop-edge-test.true c.edge-item.is c.loop-edge.invariant c.place_of.ensures)
