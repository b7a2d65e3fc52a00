use Rattle.std.proofs.Common.{◌≡◌, ◌<◌, ◌+◌, Some, length, sym, ◌∙◌, subst, true}
use Rattle.std.proofs.lemmas.List.{length-set}
use Rattle.rcp_model.specs.Decision.{Contender}
use Rattle.egress_rank.proofs.MarkLemmas.{Walked, on_beaten, on_unbeaten, walked_all}
use Rattle.egress_rank.proofs.marks.mark_tied.Goals as goal
use Rattle.egress_rank.proofs.marks.mark_tied.Goals.{After-is_beaten}

pub loop-candidate-preserved-then-is_beaten : goal.loop-candidate-preserved-then-is_beaten
loop-candidate-preserved-then-is_beaten c = (
  on_beaten c.args.ranked.now c.loop-candidate.candidate-index c.loop-candidate.marks c.candidate-item.result c.loop-candidate-test.true c.candidate-item.is c.loop-candidate.leader c.is_beaten.result c.if-is_beaten.true
      c.is_beaten.ensures c.loop-candidate.invariant.0,
  c.loop-candidate.invariant.1,
)

seated : (c : After-is_beaten) → c.candidate-item.result.slot < length c.loop-candidate.marks
seated c =
    subst (λ n. c.candidate-item.result.slot < n) (sym c.loop-candidate.invariant.1)
    (subst (λ (a : Contender). a.slot < length c.args.marks.now) (sym c.candidate-item.is) (c.requires.members c.loop-candidate.candidate-index c.candidate-item.result c.loop-candidate-test.true))

pub mark-requires : goal.mark-requires
mark-requires c = seated (goal.at.mark-requires c).After-is_beaten

pub loop-candidate-preserved : goal.loop-candidate-preserved
loop-candidate-preserved c =
    subst (λ marks. Walked c.args.ranked.now (c.loop-candidate.candidate-index + 1) marks (Some c.candidate-item.result) × (length marks ≡ length c.args.marks.now)) (sym c.mark.ensures) (
      on_unbeaten c.args.ranked.now c.loop-candidate.candidate-index c.loop-candidate.marks c.candidate-item.result c.loop-candidate-test.true c.candidate-item.is c.loop-candidate.leader c.is_beaten.result c.if-is_beaten.false
          c.is_beaten.ensures c.requires.ranked (seated (goal.at.loop-candidate-preserved c).After-is_beaten) c.loop-candidate.invariant.0,
      length-set c.loop-candidate.marks c.candidate-item.result.slot true ∙ c.loop-candidate.invariant.1,
    )

pub returns : goal.returns
returns c = walked_all c.args.ranked.now c.loop-candidate.candidate-index c.loop-candidate.marks c.loop-candidate.leader c.loop-candidate-test.false c.loop-candidate.invariant.0
