use Rattle.std.proofs.Common.{map, set, subst, ◌∙◌, ap}
use Rattle.std.proofs.lemmas.List.{map-set, take_all}
use Rattle.cost_rows.specs.Views.{IsReach}
use Rattle.cost_rows.proofs.ReachLemmas.{Renewing, renewing_step, renewed_all}
use Rattle.cost_rows.proofs.reaches.renewed.Goals as goal

pub loop-slot-preserved : goal.loop-slot-preserved
loop-slot-preserved c =
    renewing_step c.args.graph.now c.args.members.now (map (λ reach. reach.value) c.args.old.now) (map (λ reach. reach.value) c.loop-slot.reaches.items)
    (map (λ reach. reach.value) (set c.loop-slot.reaches.items c.slot.inside.0 c.in_ok-reaches-2.field-0)) c.args.rows.now c.loop-slot.slot-index c.loop-slot-item.result c.in_ok-reaches-2.field-0.value
    c.loop-slot-test.true c.loop-slot-item.is (subst (λ s. IsReach c.args.graph.now c.args.members.now s c.in_ok-reaches-2.field-0.value) c.slot.view_is c.in_ok-reaches-2.ensures)
    (map-set (λ reach. reach.value) c.loop-slot.reaches.items c.slot.inside.0 c.in_ok-reaches-2.field-0 ∙ ap (λ s. set (map (λ reach. reach.value) c.loop-slot.reaches.items) s c.in_ok-reaches-2.field-0.value) c.slot.view_is)
    c.loop-slot.invariant

pub returns : goal.returns
returns c =
    renewed_all c.requires.0 c.args.graph.now c.args.members.now (map (λ reach. reach.value) c.args.old.now) (map (λ reach. reach.value) c.loop-slot.reaches.items) c.args.rows.now c.requires.1 c.requires.2
    (subst (Renewing c.args.graph.now c.args.members.now (map (λ reach. reach.value) c.args.old.now) (map (λ reach. reach.value) c.loop-slot.reaches.items)) (take_all c.loop-slot.slot-index c.args.rows.now c.loop-slot-test.false) c.loop-slot.invariant)
