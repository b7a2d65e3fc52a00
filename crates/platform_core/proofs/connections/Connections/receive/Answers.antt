use Rattle.std.proofs.Common.{◌≡◌, false, List, ◌∷◌, [], length, map, sym, ap, subst, ◌∙◌, arith, length-set}
use Rattle.feed_meaning.specs.Platform.{Connections}
use Rattle.feed_meaning.specs.SessionTurns.{Turn as Defined, octets_turn, connection_at}
use Rattle.platform_core.specs.declared.turns.Turn.{Turn}
use Rattle.platform_core.specs.Open.{OpenOf, sessions_in, connection_in}
use Rattle.platform_core.specs.Turns.{DoAs, Take, at_time}
use Rattle.platform_core.proofs.TurnLemmas.{Found, found, not_found, Settled, settles, octets-number, does_one}
use Rattle.platform_core.proofs.OpenLemmas.{if_ok, take_is, take_nothing}
use Rattle.platform_core.proofs.connections.Connections.receive.Goals as goal

pub returns-in_default : goal.returns-in_default
returns-in_default c =
    let es = sessions_in c.self.inside.connections.items in
    let none = not_found c.args.number c.self.inside.connections.items c.deref.result.now c.deref.ensures.value c.in_default.ensures in
    let turns_none : map (octets_turn (at_time c.args.roster.now c.args.time c.args.self.now.sessions) c.args.octets.now) (connection_at c.args.self.now.sessions c.args.number) ≡ [] =
    ap (λ (l : Connections). map (octets_turn (at_time c.args.roster.now c.args.time c.args.self.now.sessions) c.args.octets.now) l) (ap (λ (o : OpenOf). connection_at o.sessions c.args.number) (sym c.self.view_is) ∙ none) in
    take_nothing c.args.roster.now (map (octets_turn (at_time c.args.roster.now c.args.time c.args.self.now.sessions) c.args.octets.now) (connection_at c.args.self.now.sessions c.args.number)) c.args.self.now c.new.result.items turns_none c.new.ensures.items

pub close-requires : goal.close-requires
close-requires c =
    let xs = c.self.inside.connections.items in
    let f = found c.args.number xs c.deref.result.now c.in-Some.place c.deref.ensures.value c.in-Some.ensures in
    let took = c.in_ok-turn.ensures.turn f.connection f.is in
    omega (arith, f.within, ap length took.connections, length-set xs c.in-Some.place took.now)

here : (c : goal.After-just) → Found c.args.number c.self.inside.connections.items c.in-Some.place
here c = found c.args.number c.self.inside.connections.items c.deref.result.now c.in-Some.place c.deref.ensures.value c.in-Some.ensures

-- the turn of the definitions
abbrev turn_of : (c : goal.After-just) → Defined
turn_of c = octets_turn (at_time c.args.roster.now c.args.time (sessions_in c.self.inside.connections.items)) c.args.octets.now (connection_in (here c).connection)

done : (c : goal.After-just) → Settled (turn_of c) c.self.inside.connections.items c.close.new.connections.items c.receive.new.held.items
done c =
    let xs = c.self.inside.connections.items in
    let opened = c.self.invariant (ap (λ (o : OpenOf). o.spent) c.self.view_is ∙ c.requires.fresh) in
    settles c.args.roster.now (turn_of c) xs c.receive.new.connections.items c.close.new.connections.items c.self.inside.held.items c.receive.new.held.items c.in-Some.place (here c).connection c.in_ok-turn.turn
    opened (here c).place (here c).is (octets-number (at_time c.args.roster.now c.args.time (sessions_in xs)) c.args.octets.now (connection_in (here c).connection)) (c.in_ok-turn.ensures.turn (here c).connection (here c).is) c.close.ensures

pub invariant_of-self-2 : goal.invariant_of-self-2
invariant_of-self-2 c = λ _. (done c).opened

pub returns : goal.returns
returns c =
    let xs = c.self.inside.connections.items in
    let took = c.in_ok-turn.ensures.turn (here c).connection (here c).is in
    let after : OpenOf = record { sessions = sessions_in c.close.new.connections.items; members = length c.receive.new.held.items; spent = false } in
    let turns_are : map (octets_turn (at_time c.args.roster.now c.args.time (sessions_in xs)) c.args.octets.now) (connection_at (sessions_in xs) c.args.number) ≡ turn_of c ∷ [] =
    ap (map (octets_turn (at_time c.args.roster.now c.args.time (sessions_in xs)) c.args.octets.now)) (here c).at in
    if_ok _ _ c.just.result (λ turns is.
    subst (λ (es : Connections). Take c.args.roster.now (map (octets_turn (at_time c.args.roster.now c.args.time es) c.args.octets.now) (connection_at es c.args.number)) c.args.self.now after turns.items) (ap (λ (o : OpenOf). o.sessions) c.self.view_is)
    (subst (λ (ts : List Defined). Take c.args.roster.now ts c.args.self.now after turns.items) (sym turns_are)
    (take_is c.args.roster.now (turn_of c ∷ []) c.args.self.now xs c.close.new.connections.items c.self.inside.held.items c.receive.new.held.items c.self.inside.is_spent turns.items
    c.self.view_is c.requires.fresh c.receive.ensures.members (done c).sessions
    (subst (λ (l : List Turn). DoAs c.args.roster.now (turn_of c ∷ []) l) (sym is)
    (does_one c.args.roster.now (turn_of c) c.in_ok-turn.turn took.number_is took.seat_is took.does took.form))))) c.just.ensures
