use Rattle.std.proofs.Common.{◌≡◌, max, sym, ap, subst, ◌∙◌, inl, inr}
use Rattle.std.proofs.lemmas.Bool.{false≢true}
use Rattle.rcp_model.specs.LinkState.{aged}
use Rattle.igp_view.proofs.YoungLemmas.{aged_or_not}
use Rattle.igp_view.proofs.igp.tick.Goals as goal

pub returns-clause-stays : goal.returns-clause-stays
returns-clause-stays c none = elim (aged_or_not c.max-latest.result c.args.lsdb.now.state) [
  | inl same ↦ subst (λ n. aged n c.args.lsdb.now.state ≡ c.args.lsdb.now.state) (c.max-latest.ensures ∙ ap (max c.args.now) c.time.ensures.time) same
  | inr other ↦ absurd (false≢true (sym none ∙ (c.clock.ensures.went c.args.lsdb.now.state c.time.ensures.kept).1 other))
]
