use Rattle.std.proofs.Common.{sym, ap, ◌∙◌}
use Rattle.cost_rows.specs.Views.{ViewOf}
use Rattle.platform_core.proofs.LinkLemmas.{follow_same}
use Rattle.platform_core.proofs.links.follow.Goals as goal

pub returns-then-before-lt18446744073709551615-clause-after : goal.returns-then-before-lt18446744073709551615-clause-after
returns-then-before-lt18446744073709551615-clause-after c = follow_same c.args.shards.now c.args.igp.now.edges (c.requires.same (sym c.changes.ensures ∙ c.if-changes-before.true) c.if-before-lt18446744073709551615.true)

pub set_view-requires : goal.set_view-requires
set_view-requires c = ap (λ (v : ViewOf). v.members) (c.in_ok-view.ensures.view c.args.igp.now.database.state c.in_ok-view.ensures.kept) ∙ c.requires.members
