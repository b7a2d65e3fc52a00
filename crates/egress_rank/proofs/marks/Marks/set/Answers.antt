use Rattle.std.proofs.Common.{◌≡◌, ◌++◌, ◌<◌, ℕ, Bool, false, ◌≤◌, List, length, take, All, IsPermutation, sym, ◌∙◌, subst, ap, rules, arith}
use Rattle.std.proofs.lemmas.List.{take-append-le, take_all, length-replicate}
use Rattle.std.proofs.lemmas.List.Sorted.{All-permutation}
use Rattle.std.proofs.lemmas.Fn.{always_returns_same}
use Rattle.rcp_model.specs.Decision.{Contender}
use Rattle.egress_rank.specs.Egresses.{IsMarked, AreTiedOf}
use Rattle.egress_rank.specs.Standings.{AreRanked, standing}
use Rattle.egress_rank.proofs.StandingLemmas.{ranked_from_sort}
use Rattle.egress_rank.proofs.MarkLemmas.{tied_of_sorted, room_for}
use Rattle.egress_rank.proofs.marks.Marks.set.Goals as goal
use Rattle.egress_rank.proofs.marks.Marks.set.Goals.{After-as_slice}

pub mark_tied-requires-clause-ranked : goal.mark_tied-requires-clause-ranked
mark_tied-requires-clause-ranked c =
    subst AreRanked (sym c.as_slice.ensures.value)
    (ranked_from_sort c.sort_unstable_by_key.new.self.items (c.sort_unstable_by_key.ensures.sorted standing (always_returns_same _ (λ a r. r ≡ standing a.0.now) _ (λ a r q k. search rules))))

moved : (c : After-as_slice) → IsPermutation c.args.list.now c.as_slice.result.now
moved c = subst (IsPermutation c.args.list.now) (sym c.as_slice.ensures.value) (subst (λ items. IsPermutation items c.sort_unstable_by_key.new.self.items) taken c.sort_unstable_by_key.ensures.permutation) where
  room : length c.args.list.now ≤ length c.args.self.now
  room = room_for c.args.list.now (length c.args.self.now) c.requires.distinct c.requires.members

  taken : c.extend_from_slice.new.self.items ≡ c.args.list.now
  taken =
      c.extend_from_slice.ensures.items
      ∙ rw (c.extend_from_slice.ensures.succeeds (omega (arith, room, c.self.invariant, c.clear.ensures.len, c.clear.ensures.capacity, ap length c.self.view_is))) (ap (λ items. items ++ c.args.list.now) c.clear.ensures.items)

pub mark_tied-requires-clause-members : goal.mark_tied-requires-clause-members
mark_tied-requires-clause-members c =
    subst (λ n. All (λ (a : Contender). a.slot < n) c.as_slice.result.now)
    (sym (ap length c.unmark_all.ensures ∙ length-replicate (length c.as_mut_slice-marks.result.now) false ∙ ap length (c.as_mut_slice-marks.ensures.value ∙ c.self.view_is)))
    (All-permutation (λ (a : Contender). a.slot < length c.args.self.now) c.args.list.now c.as_slice.result.now (moved c) c.requires.members)

whole : (n : ℕ) (new rest : List Bool) → length new ≡ n → take n (new ++ rest) ≡ new
whole n new rest is = take-append-le n new rest (omega arith) ∙ take_all n new (omega arith)

pub returns-clause-marked : goal.returns-clause-marked
returns-clause-marked c =
    subst (λ marks. AreTiedOf c.args.list.now (IsMarked marks)) (sym (whole c.self.inside.marks.len c.mark_tied.new.marks _ (c.mark_tied.auto.marks ∙ c.unmark_all.auto.marks ∙ c.as_mut_slice-marks.ensures.len)))
    (tied_of_sorted c.args.list.now c.as_slice.result.now c.mark_tied.new.marks (moved (goal.at.returns-clause-marked c).After-as_slice) c.mark_tied.ensures)
