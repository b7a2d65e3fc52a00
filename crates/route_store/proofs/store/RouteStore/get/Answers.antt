use Rattle.std.proofs.Common.{sym, ap, ◌∙◌}
use Rattle.std.specs.FinMap as map_of
use Rattle.rcp_model.specs.Ribs.{RouteNumbers}
use Rattle.route_store.proofs.NumberLemmas.{get_number}
use Rattle.route_store.proofs.store.RouteStore.get.Goals as goal

pub returns : goal.returns
returns c =
    c.number.ensures ∙ sym (get_number c.self.inside.rows c.self.invariant.ordered (c.args.p, c.args.slot))
    ∙ ap (λ (m : RouteNumbers). map_of.get m (c.args.p, c.args.slot)) c.self.view_is
