use Rattle.std.proofs.Common.{◌≡◌, ◌<◌, None, List, ◌∷◌, [], refl, sym, ap, subst, ◌∙◌}
use Rattle.std.specs.List.{AllByRecursion}
use Rattle.rcp_base.specs.Octets.{AreOctets}
use Rattle.rcp_model.specs.Sessions.{Answer, begun, seat_of}
use Rattle.rcp_model.specs.Telling.{IsTold}
use Rattle.feed_meaning.specs.SessionTurns.{turn}
use Rattle.session_core.specs.Shown.{doing_of}
use Rattle.platform_core.specs.declared.sessions.Connection.{Connection}
use Rattle.platform_core.specs.declared.turns.Turn.{Turn}
use Rattle.platform_core.specs.Open.{OpenOf, sessions_in, connection_in, IsWhole}
use Rattle.platform_core.specs.Turns.{DoAs}
use Rattle.platform_core.proofs.SeatLemmas.{seat_at}
use Rattle.platform_core.proofs.TurnLemmas.{begun-still, begun-seat, no-octets-begun, told-begun, opened_one, does_one}
use Rattle.platform_core.proofs.OpenLemmas.{if_ok, take_is, opened_more, none_allowed, none_moved, none_member}
use Rattle.platform_core.proofs.connections.Connections.open_new.Goals as goal

pub invariant_of-self-2 : goal.invariant_of-self-2
invariant_of-self-2 c = λ _.
    let did : begun c.args.roster.now c.args.time ≡ record { after = c.in_ok-session.session.state; does = doing_of c.in_ok-session.actions } = c.in_ok-session.ensures.does in
    let opened = c.self.invariant (ap (λ (o : OpenOf). o.spent) c.self.view_is ∙ c.requires.fresh) in
    let new : Connection = record { number = c.args.number; session = c.in_ok-session.session } in
    let whole : IsWhole new = record { unspent = c.in_ok-session.ensures.unspent; kept = subst (λ (a : Answer). AreOctets a.after.kept) did (no-octets-begun c.args.roster.now c.args.time) } in
    let none : seat_at (connection_in new) ≡ None = ap (λ (a : Answer). seat_of a.after.phase) (sym did) ∙ begun-seat c.args.roster.now c.args.time in
    let above = subst (λ (o : OpenOf). AllByRecursion (λ entry. entry.0 < c.args.number) o.sessions) (sym c.self.view_is) c.requires.new in
    opened_more c.self.inside.connections.items c.push.new.self.items new c.self.inside.held.items c.self.inside.held.items opened above c.in_ok-push.ensures.items whole refl
    (none_moved (seat_at (connection_in new)) c.self.inside.held.items none) (none_allowed (sessions_in c.self.inside.connections.items) (seat_at (connection_in new)) none)
    (none_member (seat_at (connection_in new)) _ none)

pub returns : goal.returns
returns c =
    let did : begun c.args.roster.now c.args.time ≡ record { after = c.in_ok-session.session.state; does = doing_of c.in_ok-session.actions } = c.in_ok-session.ensures.does in
    let new : Connection = record { number = c.args.number; session = c.in_ok-session.session } in
    let t = turn c.args.number None (begun c.args.roster.now c.args.time) in
    let taken : Turn = record { number = c.args.number; seat = None; actions = c.in_ok-session.actions } in
    let above = subst (λ (o : OpenOf). AllByRecursion (λ entry. entry.0 < c.args.number) o.sessions) (sym c.self.view_is) c.requires.new in
    if_ok _ _ c.just.result (λ turns is.
    take_is c.args.roster.now (t ∷ []) c.args.self.now c.self.inside.connections.items c.push.new.self.items c.self.inside.held.items c.self.inside.held.items c.self.inside.is_spent turns.items
    c.self.view_is c.requires.fresh refl
    (opened_one t c.self.inside.connections.items c.push.new.self.items new above c.in_ok-push.ensures.items refl (ap (λ (a : Answer). a.after) (sym did)) (begun-still c.args.roster.now c.args.time))
    (subst (λ (l : List Turn). DoAs c.args.roster.now (t ∷ []) l) (sym is)
    (does_one c.args.roster.now t taken refl refl (ap (λ (a : Answer). a.does) (sym did))
    (record { told = subst (λ (a : Answer). AllByRecursion (IsTold c.args.roster.now.as_number) a.does.events) did (told-begun c.args.roster.now c.args.time); within = tt })))) c.just.ensures
