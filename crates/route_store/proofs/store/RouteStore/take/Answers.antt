use Rattle.std.proofs.Common.{sym, ap, ◌∙◌}
use Rattle.std.specs.FinMap as map_of
use Rattle.rcp_model.specs.Ribs.{RouteNumbers}
use Rattle.route_store.proofs.NumberLemmas.{get_number, numbers_taken}
use Rattle.route_store.proofs.store.RouteStore.take.Goals as goal

pub returns-clause-value : goal.returns-clause-value
returns-clause-value c =
    c.take.ensures.old ∙ sym (get_number c.self.inside.rows c.self.invariant.ordered (c.args.p, c.args.slot))
    ∙ ap (λ (m : RouteNumbers). map_of.get m (c.args.p, c.args.slot)) c.self.view_is

pub returns-clause-taken : goal.returns-clause-taken
returns-clause-taken c =
    numbers_taken c.self.inside.rows c.take.new.rows c.self.invariant.ordered c.take.ensures.ordered (c.args.p, c.args.slot) c.take.ensures.taken
    ∙ ap (λ (m : RouteNumbers). map_of.remove m (c.args.p, c.args.slot)) c.self.view_is
