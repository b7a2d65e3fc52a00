use Rattle.std.proofs.Common.{sym, ap, ◌∙◌}
use Rattle.std.specs.FinMap as map_of
use Rattle.rcp_model.specs.Ribs.{RouteNumbers}
use Rattle.route_store.specs.Announcers.{announced}
use Rattle.route_store.proofs.CountedLemmas.{count-announced}
use Rattle.route_store.proofs.store.RouteStore.prefixes.Goals as goal

pub returns : goal.returns
returns c =
    c.len.ensures.len ∙ sym (count-announced c.self.inside.rows c.self.invariant.ordered c.self.invariant.filled)
    ∙ ap (λ (m : RouteNumbers). map_of.len (announced m)) c.self.view_is
