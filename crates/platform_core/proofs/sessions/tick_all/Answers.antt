use Rattle.std.proofs.Common.{◌≡◌, ◌<◌, ◌≤◌, ◌+◌, List, length, refl, sym, ap, subst, ◌∙◌, arith, rules, length-set}
use Rattle.rcp_base.specs.Roster.{RosterOf}
use Rattle.rcp_model.specs.Sessions.{Moment}
use Rattle.feed_meaning.specs.SessionTurns.{simple_turn}
use Rattle.platform_core.specs.declared.sessions.Connection.{Connection}
use Rattle.platform_core.specs.declared.turns.Turn.{Turn}
use Rattle.platform_core.specs.Open.{sessions_in, connection_in}
use Rattle.platform_core.specs.Turns.{TookTurn}
use Rattle.platform_core.proofs.ConnectionLemmas.{found_at}
use Rattle.platform_core.proofs.TurnLemmas.{roster_with, has_members}
use Rattle.platform_core.proofs.TickLemmas.{Ticking, ticking_first, ticking_pushed, ticking_skipped, ticking_last, opened_set}
use Rattle.platform_core.proofs.sessions.tick_all.Goals as goal
use Rattle.platform_core.proofs.sessions.tick_all.Goals.{then-does_something+in_ok-push, else-does_something}

pub loop-place-init : goal.loop-place-init
loop-place-init c = record {
  count = search rules;
  opened = c.requires.opened;
  members = refl;
  ticking = λ roster members. ticking_first roster c.args.time c.args.connections.now.items c.args.turns.now.items c.requires.none;
}

inside : (c : goal.Joined-does_something) → c.loop-place.place < length c.loop-place.connections.items
inside c = omega (arith, c.loop-place-test.true, c.loop-place.invariant.count, c.loop-place.connections.ok.0)

one : (c : goal.Joined-does_something) → Connection
one c = (found_at c.loop-place.connections.items c.loop-place.place (inside c)).0

took : (c : goal.Joined-does_something) (roster : RosterOf) → length c.args.held.now.items ≡ length roster.members
    → TookTurn roster (simple_turn roster (Moment c.args.time) (connection_in (one c))) c.loop-place.connections.items c.tick.new.connections.items c.tick.new.held.items c.loop-place.place c.in_ok-turn.turn
unfolding one
took c roster members =
    c.in_ok-turn.ensures.turn roster (c.loop-place.invariant.members ∙ members) (one c) (found_at c.loop-place.connections.items c.loop-place.place (inside c)).1

pub loop-place-preserved : goal.loop-place-preserved
unfolding one
loop-place-preserved c =
    let inv = c.loop-place.invariant in
    let cs = c.loop-place.connections.items in
    let i = c.loop-place.place in
    let is = (found_at cs i (inside c)).1 in
    let any = took c (roster_with (length c.args.held.now.items)) (has_members (length c.args.held.now.items)) in
    record {
      count = omega (arith, ap length any.connections, length-set cs i any.now, inv.count, c.tick.new.connections.ok.0, c.loop-place.connections.ok.0);
      opened = opened_set cs c.tick.new.connections.items c.loop-place.held.items i (one c) any.now inv.opened (inside c) is any.connections any.number any.whole c.tick.new.held.items any.seated;
      members = c.in_ok-turn.ensures.members ∙ inv.members;
      ticking = λ roster members.
          elim c.if-does_something.branch [
            | then-does_something+in_ok-push w ↦
                ticking_pushed roster c.args.time cs c.tick.new.connections.items c.tick.new.held.items i (one c) c.in_ok-turn.turn (sessions_in c.args.connections.now.items) c.loop-place.turns.items c.if-does_something.turns.items
                (inside c) is (inv.ticking roster members) (took c roster members) (ap (λ v. v.items) w.turns-is ∙ w.in_ok-push.ensures.items)
            | else-does_something w ↦
                subst (λ (l : List Turn). Ticking roster c.args.time (i + 1) (sessions_in c.args.connections.now.items) c.tick.new.connections.items l) (sym (ap (λ v. v.items) w.turns-is))
                (ticking_skipped roster c.args.time cs c.tick.new.connections.items c.tick.new.held.items i (one c) c.in_ok-turn.turn (sessions_in c.args.connections.now.items) c.loop-place.turns.items
                (inside c) is (inv.ticking roster members) (took c roster members) (c.does_something.ensures.events w.if-does_something.false) (c.does_something.ensures.output w.if-does_something.false))
          ];
    }

pub returns-clause-turns : goal.returns-clause-turns
returns-clause-turns c roster members =
    let few : length c.loop-place.connections.items ≤ c.loop-place.place = omega (arith, c.loop-place-test.false, c.loop-place.invariant.count, c.loop-place.connections.ok.0) in
    (ticking_last roster c.args.time c.loop-place.place (sessions_in c.args.connections.now.items) c.loop-place.connections.items c.loop-place.turns.items few (c.loop-place.invariant.ticking roster members)).1

pub returns-clause-sessions : goal.returns-clause-sessions
returns-clause-sessions c roster members =
    let few : length c.loop-place.connections.items ≤ c.loop-place.place = omega (arith, c.loop-place-test.false, c.loop-place.invariant.count, c.loop-place.connections.ok.0) in
    (ticking_last roster c.args.time c.loop-place.place (sessions_in c.args.connections.now.items) c.loop-place.connections.items c.loop-place.turns.items few (c.loop-place.invariant.ticking roster members)).0
