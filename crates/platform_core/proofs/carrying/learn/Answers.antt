use Rattle.std.proofs.Common.{◌≡◌, ℕ, Option, List, ◌++◌, map, option_map, sym, ap, ◌∙◌}
use Rattle.rcp_model.specs.Routes.{RouteFields}
use Rattle.rcp_model.specs.ServerRibs.{RibEvent}
use Rattle.session_core.specs.declared.actions.SessionEvent.{SessionEvent}
use Rattle.session_core.specs.Shown.{event_of, ending_of}
use Rattle.platform_laws.specs.Parts.{shards_after_all}
use Rattle.platform_laws.specs.Turns.{shard_event, events_of_seat, end_of_seat}
use Rattle.platform_core.proofs.CarryLemmas.{carried_none, carried_events, events-map, keeps_then}
use Rattle.platform_core.proofs.carrying.learn.Goals as goal

pub returns-in-None-clause-shards : goal.returns-in-None-clause-shards
returns-in-None-clause-shards c does events closed =
    carried_none c.args.shards.now.roster c.args.shards.now.shards
    ∙ ap (λ (o : Option ℕ). shards_after_all c.args.shards.now.roster (events_of_seat o does) c.args.shards.now.shards) (sym c.in-None.is)

pub returns-in_ok-take_events-in-Some-clause-shards : goal.returns-in_ok-take_events-in-Some-clause-shards
returns-in_ok-take_events-in-Some-clause-shards c does events closed =
    let slot : ℕ = c.in-Some.slot in
    let xs = map (λ (e : SessionEvent). shard_event slot (event_of e)) c.args.events.items in
    let ys = end_of_seat slot (option_map ending_of c.args.closed.now) in
    let all : xs ++ ys ≡ events_of_seat c.args.seat does =
    ap (λ (l : List (RibEvent RouteFields)). l ++ ys) (sym (ap (map (shard_event slot)) events ∙ events-map slot c.args.events.items))
    ∙ ap (λ o. map (shard_event slot) does.events ++ end_of_seat slot o) (sym closed)
    ∙ ap (λ (o : Option ℕ). events_of_seat o does) (sym c.in-Some.is) in
    carried_events c.args.shards.now.roster xs ys c.args.shards.now c.take_events.new.shards c.end_if.new.shards c.take_events.ensures.kept.roster c.in_ok-take_events-in-Some.ensures.shards c.end_if.ensures.shards
    ∙ ap (λ (l : List (RibEvent RouteFields)). shards_after_all c.args.shards.now.roster l c.args.shards.now.shards) all

pub returns-in_ok-take_events-in-Some-clause-kept : goal.returns-in_ok-take_events-in-Some-clause-kept
returns-in_ok-take_events-in-Some-clause-kept c = keeps_then c.args.shards.now c.take_events.new.shards c.end_if.new.shards c.take_events.ensures.kept c.end_if.ensures.kept
