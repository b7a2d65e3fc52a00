use Rattle.std.proofs.Common.{length, ap, subst, ◌∙◌}
use Rattle.cost_rows.specs.Views.{ViewOf}
use Rattle.spf_incr.specs.Tables.{engine_costs}
use Rattle.igp_view.specs.Following.{AreAllRows}
use Rattle.igp_view.proofs.FollowingLemmas.{renewals_by_all}
use Rattle.igp_view.proofs.following.build_anew.Goals as goal

pub renew-requires : goal.renew-requires
renew-requires c =
    let same = c.members-members.ensures.members ∙ ap (λ (v : ViewOf). v.members) c.deref.ensures in
    renewals_by_all c.args.view.now.value.edges c.args.graph c.args.view.now.value.members c.in_ok-engine.field-0 c.in_ok-rows.rows.items c.in_ok-engine.ensures.over
    (c.in_ok-engine.ensures.members ∙ same)
    (subst (λ ms. AreAllRows (engine_costs c.in_ok-engine.field-0) (length ms) c.in_ok-rows.rows.items) same c.in_ok-rows.ensures)
