use Rattle.std.proofs.Common.{Option, [], ap, ◌∙◌, arith}
use Rattle.rcp_model.specs.Ribs.{RouteNumbers}
use Rattle.route_store.specs.Announcers.{announcers_of}
use Rattle.route_store.specs.Rows.{Row, number_of}
use Rattle.route_store.proofs.AnnouncerLemmas.{row-announcers}
use Rattle.route_store.proofs.store.RouteStore.announcers.Goals as goal

pub returns-in-Some : goal.returns-in-Some
returns-in-Some c =
    c.as_slice.ensures.all
    ∙ row-announcers c.self.inside.rows c.self.invariant.ordered c.args.p c.in-Some.row.now c.as_slice.ensures.rising (λ slot. ap (λ (o : Option Row). number_of o slot) c.in-Some.ensures.value)
    ∙ ap (λ (m : RouteNumbers). announcers_of m c.args.p) c.self.view_is

pub returns-in-None : goal.returns-in-None
returns-in-None c =
    row-announcers c.self.inside.rows c.self.invariant.ordered c.args.p [] (λ i j lt in_range. absurd (omega arith)) (λ slot. ap (λ (o : Option Row). number_of o slot) c.in-None.ensures.value)
    ∙ ap (λ (m : RouteNumbers). announcers_of m c.args.p) c.self.view_is
