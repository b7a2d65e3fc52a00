use Rattle.std.proofs.Common.{false, length, map, ap, subst, ◌∙◌}
use Rattle.rcp_model.specs.Sessions.{Moment}
use Rattle.feed_meaning.specs.Platform.{Connections}
use Rattle.feed_meaning.specs.SessionTurns.{simple_turn}
use Rattle.platform_core.specs.Open.{OpenOf, sessions_in}
use Rattle.platform_core.specs.Turns.{Take}
use Rattle.platform_core.proofs.TickLemmas.{sessions_passed, opened_left}
use Rattle.platform_core.proofs.OpenLemmas.{take_is}
use Rattle.platform_core.proofs.connections.Connections.pass.Goals as goal

pub invariant_of-self-2 : goal.invariant_of-self-2
invariant_of-self-2 c = λ _. opened_left c.tick_all.new.connections.items c.close_all.new.connections.items c.tick_all.new.held.items c.in_ok-tick_all.ensures.opened c.close_all.ensures

pub returns : goal.returns
returns c roster members =
    let opened = c.self.invariant (ap (λ (o : OpenOf). o.spent) c.self.view_is ∙ c.requires) in
    let len = ap (λ (o : OpenOf). o.members) c.self.view_is ∙ members in
    subst (λ (es : Connections). Take roster (map (simple_turn roster (Moment c.args.time)) es) c.args.self.now (record { sessions = sessions_in c.close_all.new.connections.items; members = length c.tick_all.new.held.items; spent = false }) c.tick_all.new.turns.items)
    (ap (λ (o : OpenOf). o.sessions) c.self.view_is)
    (take_is roster (map (simple_turn roster (Moment c.args.time)) (sessions_in c.self.inside.connections.items)) c.args.self.now c.self.inside.connections.items c.close_all.new.connections.items c.self.inside.held.items c.tick_all.new.held.items c.self.inside.is_spent c.tick_all.new.turns.items
    c.self.view_is c.requires c.tick_all.ensures.members
    (sessions_passed roster c.args.time c.tick_all.new.connections.items c.close_all.new.connections.items (sessions_in c.self.inside.connections.items) opened.numbered (c.in_ok-tick_all.ensures.sessions roster len) c.close_all.ensures)
    (c.in_ok-tick_all.ensures.turns roster len))
