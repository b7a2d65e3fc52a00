use Rattle.std.proofs.Common.{◌≡◌, false, List, ◌∷◌, [], length, map, refl, sym, ap, subst, ◌∙◌, arith, length-set}
use Rattle.rcp_base.specs.Roster.{RosterOf}
use Rattle.rcp_model.specs.Sessions.{End}
use Rattle.feed_meaning.specs.Platform.{Connections}
use Rattle.feed_meaning.specs.SessionTurns.{Turn as Defined, simple_turn, connection_at}
use Rattle.platform_core.specs.declared.turns.Turn.{Turn}
use Rattle.platform_core.specs.Open.{OpenOf, sessions_in, connection_in}
use Rattle.platform_core.specs.Turns.{DoAs, Take}
use Rattle.platform_core.proofs.TurnLemmas.{Found, found, not_found, Settled, settles, does_one, roster_with, has_members}
use Rattle.platform_core.proofs.OpenLemmas.{if_ok, take_is, take_nothing}
use Rattle.platform_core.proofs.connections.Connections.end.Goals as goal

pub returns-in_default : goal.returns-in_default
returns-in_default c roster members =
    let none = not_found c.args.number c.self.inside.connections.items c.deref.result.now c.deref.ensures.value c.in_default.ensures in
    let turns_none : map (simple_turn roster End) (connection_at c.args.self.now.sessions c.args.number) ≡ [] =
    ap (map (simple_turn roster End)) (ap (λ (o : OpenOf). connection_at o.sessions c.args.number) (sym c.self.view_is) ∙ none) in
    take_nothing roster (map (simple_turn roster End) (connection_at c.args.self.now.sessions c.args.number)) c.args.self.now c.new.result.items turns_none c.new.ensures.items

pub close-requires : goal.close-requires
close-requires c =
    let xs = c.self.inside.connections.items in
    let held = c.self.inside.held.items in
    let f = found c.args.number xs c.deref.result.now c.in-Some.place c.deref.ensures.value c.in-Some.ensures in
    let took = c.end-turn.ensures.turn (roster_with (length held)) (has_members (length held)) f.connection f.is in
    omega (arith, f.within, ap length took.connections, length-set xs c.in-Some.place took.now)

here : (c : goal.After-just) → Found c.args.number c.self.inside.connections.items c.in-Some.place
here c = found c.args.number c.self.inside.connections.items c.deref.result.now c.in-Some.place c.deref.ensures.value c.in-Some.ensures

-- the turn of the definitions
abbrev turn_of : (c : goal.After-just) (roster : RosterOf) → Defined
turn_of c roster = simple_turn roster End (connection_in (here c).connection)

done : (c : goal.After-just) (roster : RosterOf) → length c.self.inside.held.items ≡ length roster.members → Settled (turn_of c roster) c.self.inside.connections.items c.close.new.connections.items c.end-turn.new.held.items
done c roster members =
    let xs = c.self.inside.connections.items in
    let opened = c.self.invariant (ap (λ (o : OpenOf). o.spent) c.self.view_is ∙ c.requires) in
    settles roster (turn_of c roster) xs c.end-turn.new.connections.items c.close.new.connections.items c.self.inside.held.items c.end-turn.new.held.items c.in-Some.place (here c).connection c.end-turn.result
    opened (here c).place (here c).is refl (c.end-turn.ensures.turn roster members (here c).connection (here c).is) c.close.ensures

pub invariant_of-self : goal.invariant_of-self
invariant_of-self c = λ _. (done c (roster_with (length c.self.inside.held.items)) (has_members (length c.self.inside.held.items))).opened

pub returns : goal.returns
returns c =
    let xs = c.self.inside.connections.items in
    let after : OpenOf = record { sessions = sessions_in c.close.new.connections.items; members = length c.end-turn.new.held.items; spent = false } in
    if_ok _ _ c.just.result (λ turns is roster members.
    let len = ap (λ (o : OpenOf). o.members) c.self.view_is ∙ members in
    let took = c.end-turn.ensures.turn roster len (here c).connection (here c).is in
    let turns_are : map (simple_turn roster End) (connection_at (sessions_in xs) c.args.number) ≡ turn_of c roster ∷ [] = ap (map (simple_turn roster End)) (here c).at in
    subst (λ (es : Connections). Take roster (map (simple_turn roster End) (connection_at es c.args.number)) c.args.self.now after turns.items) (ap (λ (o : OpenOf). o.sessions) c.self.view_is)
    (subst (λ (ts : List Defined). Take roster ts c.args.self.now after turns.items) (sym turns_are)
    (take_is roster (turn_of c roster ∷ []) c.args.self.now xs c.close.new.connections.items c.self.inside.held.items c.end-turn.new.held.items c.self.inside.is_spent turns.items
    c.self.view_is c.requires c.end-turn.ensures.members (done c roster len).sessions
    (subst (λ (l : List Turn). DoAs roster (turn_of c roster ∷ []) l) (sym is)
    (does_one roster (turn_of c roster) c.end-turn.result took.number_is took.seat_is took.does took.form))))) c.just.ensures
