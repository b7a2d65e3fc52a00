use Rattle.std.proofs.Common.{◌≡◌, ℕ, ◌<◌, ◌+◌, ◌++◌, ◌∷◌, [], List, length, take, sym, ap, subst, ◌∙◌, arith}
use Rattle.std.specs.Prelude.{◌↔◌, Contains}
use Rattle.std.proofs.lemmas.Bool.{both_ways}
use Rattle.std.proofs.lemmas.List.{take_more_set, take_all}
use Rattle.std.proofs.lemmas.List.Elements.{All-contains, Contains-get_or}
use Rattle.rcp_model.specs.Decision.{Contender}
use Rattle.egress_rank.specs.Egresses.{IsMarked}
use Rattle.rcs_shard.proofs.ContenderLemmas.{MarkedBefore, before_skip, before_more}
use Rattle.rcs_shard.proofs.candidates.list_marked.Goals as goal
use Rattle.rcs_shard.proofs.candidates.list_marked.Goals.{then-is_marked, else-is_marked}

pub is_marked-requires : goal.is_marked-requires
is_marked-requires c =
    let x = c.candidate-item.result in
    let inside = subst (Contains c.args.list.now) (sym c.candidate-item.is) (Contains-get_or c.args.list.now c.loop-candidate.candidate-index x c.loop-candidate-test.true) in
    let low = All-contains (λ (a : Contender). a.slot < length c.args.marks.now) c.args.list.now x c.requires.members inside in
    omega (arith, low, ap (λ (a : Contender). a.slot) c.candidate.view_is)

pub loop-candidate-preserved : goal.loop-candidate-preserved
loop-candidate-preserved c =
    let x = c.candidate-item.result in
    let within = c.loop-candidate-test.true in
    let place = c.loop-candidate.candidate-index in
    let slot_is : c.candidate.inside.slot ≡ x.slot = ap (λ (a : Contender). a.slot) c.candidate.view_is in
    let before = take c.loop-candidate.count c.loop-candidate.slots in
    elim c.if-is_marked.branch [
      | then-is_marked w ↦
          let room : c.loop-candidate.count < length c.loop-candidate.slots = omega (arith, c.loop-candidate.invariant.few, c.loop-candidate.invariant.room) in
          let pushed = take_more_set c.loop-candidate.slots c.loop-candidate.count c.candidate.inside.slot room ∙ ap (λ s. before ++ s ∷ []) slot_is in
          let seen : take c.if-is_marked.count c.if-is_marked.slots ≡ before ++ x.slot ∷ [] = (λ i. take (w.count-is i) (w.slots-is i)) ∙ pushed in
          record {
            few = omega (arith, w.count-is, c.loop-candidate.invariant.few);
            room = omega (arith, c.loop-candidate.invariant.room, c.if-is_marked.auto.slots);
            marked = λ e. subst (λ (l : List ℕ). Contains l e ↔ MarkedBefore c.args.list.now c.args.marks.now (place + 1) e) (sym seen)
                (before_more c.args.list.now c.args.marks.now place x within c.candidate-item.is before
                (subst (IsMarked c.args.marks.now) slot_is (c.is_marked.ensures.0 w.if-is_marked.true)) c.loop-candidate.invariant.marked e);
          }
      | else-is_marked w ↦
          let seen : take c.if-is_marked.count c.if-is_marked.slots ≡ before = λ i. take (w.count-is i) (w.slots-is i) in
          record {
            few = omega (arith, w.count-is, c.loop-candidate.invariant.few);
            room = omega (arith, c.loop-candidate.invariant.room, c.if-is_marked.auto.slots);
            marked = λ e. subst (λ (l : List ℕ). Contains l e ↔ MarkedBefore c.args.list.now c.args.marks.now (place + 1) e) (sym seen)
                (before_skip c.args.list.now c.args.marks.now place x within c.candidate-item.is before
                (λ is. absurd (both_ways _ w.if-is_marked.false (c.is_marked.ensures.1 (subst (IsMarked c.args.marks.now) (sym slot_is) is)))) c.loop-candidate.invariant.marked e);
          }
    ]

pub returns-clause-marked : goal.returns-clause-marked
returns-clause-marked c =
    let all = take_all c.loop-candidate.candidate-index c.args.list.now c.loop-candidate-test.false in λ e. (
      (λ inside. let t = (c.loop-candidate.invariant.marked e).0 inside in (t.0, subst (λ (l : List Contender). Contains l t.0) all t.1, t.2, t.3)),
      (λ t. (c.loop-candidate.invariant.marked e).1 (t.0, subst (λ (l : List Contender). Contains l t.0) (sym all) t.1, t.2, t.3)),
    )
