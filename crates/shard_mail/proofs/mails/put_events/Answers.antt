use Rattle.std.proofs.Common.{◌≡◌, ◌∙◌, List, Bool, true, false, refl, sym, ap, subst, map, arith}
use Rattle.std.specs.Prelude.{◌||◌}
use Rattle.std.proofs.lemmas.List.{map-id}
use Rattle.std.proofs.lemmas.Iterator.Adapters.{YieldsList-from_vec}
use Rattle.std.proofs.lemmas.Iterator.Consumers.{YieldsList-end}
use Rattle.session_core.specs.declared.actions.SessionEvent.{SessionEvent}
use Rattle.session_core.specs.Shown.{event_of}
use Rattle.outbox.proofs.Writing.{writes-none, wrote-nothing, some-then}
use Rattle.shard_mail.specs.Puts.{Puts, mails_of, is_up_event, reached_up}
use Rattle.shard_mail.proofs.Putting.{puts-none, events-more, up-more}
use Rattle.shard_mail.proofs.mails.put_events.Goals as goal
use Rattle.shard_mail.proofs.mails.put_events.Goals.{then-is_up, else-is_up}

pub loop-event-init : goal.loop-event-init
loop-event-init g c = record { put = puts-none _; up = refl; written = writes-none _ _ _ (wrote-nothing _) }

pub put_event-requires-clause-some : goal.put_event-requires-clause-some
put_event-requires-clause-some g c = omega (arith, c.loop-event.invariant.put.same.count, c.requires.some)

pub put_event-requires-clause-few : goal.put_event-requires-clause-few
put_event-requires-clause-few g c = omega (arith, c.loop-event.invariant.put.same.count, c.requires.few)

-- an event more says that the session is up
or-true : (a b : Bool) → b ≡ true → true ≡ (a || b)
or-true true b is = refl
or-true false b is = sym is

or-false : (a b : Bool) → b ≡ false → a ≡ (a || b)
or-false true b is = refl
or-false false b is = sym is

pub loop-event-preserved : goal.loop-event-preserved
loop-event-preserved g c = record {
  put = events-more event_of _ _ _ _ _ c.loop-event.invariant.put c.put_event.ensures.put;
  up =
      (elim c.if-is_up.branch as (λ _. c.if-is_up.up ≡ (c.loop-event.up || is_up_event (event_of c.in-Some.event))) [
        | then-is_up w ↦ w.up-is ∙ or-true c.loop-event.up _ (sym c.is_up.ensures ∙ w.if-is_up.true)
        | else-is_up w ↦ w.up-is ∙ or-false c.loop-event.up _ (sym c.is_up.ensures ∙ w.if-is_up.false)
      ]) ∙ up-more event_of c.loop-event.yielded c.in-Some.event c.loop-event.up c.loop-event.invariant.up;
  written = some-then _ _ _ _ _ _ c.loop-event.invariant.written c.put_event.ensures.written;
}

pub returns-clause-put : goal.returns-clause-put
returns-clause-put g c =
    let end = YieldsList-end (YieldsList-from_vec {s = c.into_iter-event-iterator.result} c.args.events.items c.into_iter-event-iterator.ensures.into_iter_gives.0 (c.into_iter-event-iterator.ensures.into_iter_gives.1 ∙ c.args.events.ok.0)) c.loop-event.yielded c.loop-event.event-iterator c.loop-event.yielded_by c.next.result c.next.new.self c.in-None.is c.next.ensures.steps in
    subst (λ (l : List SessionEvent). Puts (mails_of c.args.seat.now (map event_of l)) c.args.seat.now c.loop-event.seat) (sym (map-id c.loop-event.yielded) ∙ end.0) c.loop-event.invariant.put

pub returns-clause-up : goal.returns-clause-up
returns-clause-up g c =
    let end = YieldsList-end (YieldsList-from_vec {s = c.into_iter-event-iterator.result} c.args.events.items c.into_iter-event-iterator.ensures.into_iter_gives.0 (c.into_iter-event-iterator.ensures.into_iter_gives.1 ∙ c.args.events.ok.0)) c.loop-event.yielded c.loop-event.event-iterator c.loop-event.yielded_by c.next.result c.next.new.self c.in-None.is c.next.ensures.steps in
    c.loop-event.invariant.up ∙ ap (λ (l : List SessionEvent). reached_up (map event_of l)) (sym (map-id c.loop-event.yielded) ∙ end.0)
