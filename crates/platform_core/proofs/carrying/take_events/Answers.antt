use Rattle.std.proofs.Common.{◌≡◌, ◌<◌, [], ◌∷◌, map, length, refl, sym, ap, subst, ◌∙◌}
use Rattle.std.proofs.lemmas.List.{map-append, map-id}
use Rattle.std.proofs.lemmas.Iterator.Adapters.{YieldsList-from_vec}
use Rattle.std.proofs.lemmas.Iterator.Consumers.{YieldsList-turn, YieldsList-end}
use Rattle.rcp_model.specs.Telling.{IsTold}
use Rattle.session_core.specs.declared.actions.SessionEvent.{SessionEvent}
use Rattle.session_core.specs.Shown.{event_of}
use Rattle.platform_laws.specs.Parts.{shards_after_all}
use Rattle.platform_laws.specs.Turns.{shard_event}
use Rattle.rcp_base.specs.Roster.{RosterOf}
use Rattle.platform_core.proofs.ConnectionLemmas.{all_at}
use Rattle.platform_core.proofs.CarryLemmas.{carried_none, carried_event, keeps_itself, keeps_then}
use Rattle.platform_core.proofs.carrying.take_events.Goals as goal

pub loop-event-init : goal.loop-event-init
loop-event-init c = record { shards = carried_none c.args.shards.now.roster c.args.shards.now.shards; kept = keeps_itself c.args.shards.now c.args.shards.now refl }

pub take_event-requires-clause-told : goal.take_event-requires-clause-told
take_event-requires-clause-told c =
    let t = YieldsList-turn (YieldsList-from_vec {s = c.into_iter-event-iterator.result} c.args.events.items c.into_iter-event-iterator.ensures.into_iter_gives.0 (c.into_iter-event-iterator.ensures.into_iter_gives.1 ∙ c.args.events.ok.0)) c.loop-event.yielded c.loop-event.event-iterator c.loop-event.yielded_by c.next.result c.next.new.self c.in-Some.event c.in-Some.is c.next.ensures.steps in
    subst (λ (r : RosterOf). IsTold r.as_number (event_of c.in-Some.event)) (sym c.loop-event.invariant.kept.roster)
    (all_at (λ (e : SessionEvent). IsTold c.args.shards.now.roster.as_number (event_of e)) c.args.events.items _ c.in-Some.event c.requires.told t.0 t.1)

pub take_event-requires-clause-member : goal.take_event-requires-clause-member
take_event-requires-clause-member c = subst (λ (r : RosterOf). c.args.slot < length r.members) (sym c.loop-event.invariant.kept.roster) c.requires.member

pub loop-event-preserved : goal.loop-event-preserved
loop-event-preserved c = record {
  shards = carried_event c.args.shards.now.roster (map (λ (e : SessionEvent). shard_event c.args.slot (event_of e)) c.loop-event.yielded) (shard_event c.args.slot (event_of c.in-Some.event)) c.args.shards.now c.loop-event.shards c.take_event.new.shards
      c.loop-event.invariant.kept.roster c.loop-event.invariant.shards c.in_ok-take_event.ensures.shards
      ∙ ap (λ l. shards_after_all c.args.shards.now.roster l c.args.shards.now.shards) (sym (map-append (λ (e : SessionEvent). shard_event c.args.slot (event_of e)) c.loop-event.yielded (c.in-Some.event ∷ [])));
  kept = keeps_then c.args.shards.now c.loop-event.shards c.take_event.new.shards c.loop-event.invariant.kept c.take_event.ensures.kept;
}

all : (c : goal.After-drop-event-iterator-2) → c.loop-event.yielded ≡ c.args.events.items
all c =
    let end = YieldsList-end (YieldsList-from_vec {s = c.into_iter-event-iterator.result} c.args.events.items c.into_iter-event-iterator.ensures.into_iter_gives.0 (c.into_iter-event-iterator.ensures.into_iter_gives.1 ∙ c.args.events.ok.0)) c.loop-event.yielded c.loop-event.event-iterator c.loop-event.yielded_by c.next.result c.next.new.self c.in-None.is c.next.ensures.steps in
    sym (map-id c.loop-event.yielded) ∙ end.0

pub returns-clause-shards : goal.returns-clause-shards
returns-clause-shards c =
    c.loop-event.invariant.shards
    ∙ ap (λ l. shards_after_all c.args.shards.now.roster (map (λ (e : SessionEvent). shard_event c.args.slot (event_of e)) l) c.args.shards.now.shards) (all c)

pub returns-in_err-take_event-clause-kept : goal.returns-in_err-take_event-clause-kept
returns-in_err-take_event-clause-kept c = keeps_then c.args.shards.now c.loop-event.shards c.take_event.new.shards c.loop-event.invariant.kept c.take_event.ensures.kept
