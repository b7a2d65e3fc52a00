use Rattle.std.proofs.Common.{List, Bool, refl, sym, subst, ◌∙◌}
use Rattle.rcp_model.proofs.FilterLemmas.{member_of_tied}
use Rattle.egress_rank.specs.Egresses.{IsMarked}
use Rattle.rcs_shard.proofs.candidates.list_tied.Goals as goal

pub returns-clause-tied : goal.returns-clause-tied
returns-clause-tied c = λ e. (
  (λ inside.
      let t = (c.list_marked.ensures.marked e).0 inside in
      let marked = subst (λ (marks : List Bool). IsMarked marks t.0.slot) c.as_slice.ensures t.2 in
      let a = (c.set.ensures.marked t.0.slot).0 marked in
      (a.0, a.1, a.2 ∙ t.3)),
  (λ t.
      let marked = (c.set.ensures.marked t.0.slot).1 (t.0, t.1, refl) in
      (c.list_marked.ensures.marked e).1 (
        t.0,
        (member_of_tied c.args.list.now t.0 t.1).0,
        subst (λ (marks : List Bool). IsMarked marks t.0.slot) (sym c.as_slice.ensures) marked,
        t.2,
      )),
)
