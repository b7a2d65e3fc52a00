use Rattle.std.proofs.Common.{Contains, inl, inr, sym, ap, subst, ◌∙◌}
use Rattle.cost_rows.specs.Views.{ViewOf}
use Rattle.igp_view.proofs.following.bring_over.Goals as goal

pub put_all_in-requires-clause-within : goal.put_all_in-requires-clause-within
put_all_in-requires-clause-within c edge member =
    let same = c.edges-before.ensures.edges ∙ c.graph.ensures ∙ ap (λ (v : ViewOf). v.edges) c.deref.ensures in
    elim (c.in_ok-take_all_out.ensures.edges edge member) [
      | inl there ↦ there
      | inr kept ↦ elim (c.in_ok-removed.ensures edge (subst (λ es. Contains es edge) (sym same) kept.0)) [
        | inl there ↦ there
        | inr gone ↦ absurd (kept.1 (subst (λ es. Contains es edge) (sym c.as_slice.ensures.value) gone))
      ]
    ]
