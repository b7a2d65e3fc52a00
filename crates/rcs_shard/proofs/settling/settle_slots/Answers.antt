use Rattle.std.proofs.Common.{◌<◌, false, ltb, ◌&&◌, List, length, sym, ap, subst, ◌∙◌, arith}
use Rattle.std.specs.Prelude.{Contains}
use Rattle.std.proofs.lemmas.Bool.{eqb-true}
use Rattle.rcp_model.specs.Decision.{Contender}
use Rattle.egress_rank.specs.Egresses.{AreTiedOf}
use Rattle.adj_ribs.specs.Bases.{Bases}
use Rattle.rcs_shard.specs.Slots.{has_slot}
use Rattle.rcs_shard.specs.Settling.{offers_at, is_in_class, ReachAlike}
use Rattle.rcs_shard.proofs.SettleLemmas.{settled_none, settled_as}
use Rattle.rcs_shard.proofs.ContenderLemmas.{candidates_alike, candidates_still, kept_still, number_there}
use Rattle.rcs_shard.proofs.ClassLemmas.{upto_none}
use Rattle.rcs_shard.proofs.settling.settle_slots.Goals as goal

pub loop-slot-init : goal.loop-slot-init
loop-slot-init c =
    settled_as c.args.p (offers_at c.args.ribs.now c.args.view.now c.args.p) (λ s. false)
    (λ s. ltb s 0 && (is_in_class c.args.classes.now c.args.class s && has_slot c.args.connected.now s)) c.args.ribs.now c.args.ribs.now
    (upto_none (λ s. is_in_class c.args.classes.now c.args.class s && has_slot c.args.connected.now s))
    (settled_none c.args.p (offers_at c.args.ribs.now c.args.view.now c.args.p) c.args.ribs.now)

pub settle_cell-requires-clause-tied : goal.settle_cell-requires-clause-tied
settle_cell-requires-clause-tied c =
    let low : c.loop-slot.slot < length c.args.view.now.members = omega (arith, c.loop-slot-test.true, ap length c.members-slot-end.ensures.members) in
    let known = number_there c.args.classes.now c.loop-slot.slot c.index-classes-slot.result (omega (arith, c.requires.classes.each_member)) c.index-classes-slot.is in
    let class_is = known ∙ eqb-true c.index-classes-slot.result c.args.class (sym c.eq.ensures ∙ c.if-eq.true) in
    let alike = subst (ReachAlike c.args.view.now c.loop-slot.slot) class_is (c.requires.classes.right c.loop-slot.slot low).alike in
    subst (λ (l : List Contender). AreTiedOf l (Contains c.args.tied.now))
    (sym (candidates_still c.args.ribs.now c.loop-slot.ribs c.args.view.now c.args.p c.loop-slot.slot (ap (λ (b : Bases). b.announced) c.loop-slot.invariant.rest)
    ∙ candidates_alike c.args.ribs.now c.args.view.now c.args.p c.loop-slot.slot c.args.class alike))
    c.requires.tied

pub settle_cell-requires-clause-kept : goal.settle_cell-requires-clause-kept
settle_cell-requires-clause-kept c = λ e inside.
    kept_still c.args.ribs.now c.loop-slot.ribs c.args.p c.args.from.now e (ap (λ (b : Bases). b.numbers) c.loop-slot.invariant.rest) (c.requires.kept e inside)
