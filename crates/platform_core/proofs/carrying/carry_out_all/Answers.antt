use Rattle.std.proofs.Common.{◌≡◌, List, ◌++◌, refl, sym, ap, subst, ◌∙◌, append_assoc, append-nil}
use Rattle.std.specs.List.{flat_map}
use Rattle.std.proofs.lemmas.List.{map-id}
use Rattle.std.proofs.lemmas.Iterator.Adapters.{YieldsList-from_vec}
use Rattle.std.proofs.lemmas.Iterator.Consumers.{YieldsList-turn, YieldsList-end}
use Rattle.rcp_base.specs.Feed.{OutRecord}
use Rattle.rcp_base.specs.Roster.{RosterOf}
use Rattle.platform_laws.specs.Parts.{shards_after_all}
use Rattle.platform_core.specs.Turns.{IsInForm, events_in, output_in}
use Rattle.platform_core.proofs.ConnectionLemmas.{all_at}
use Rattle.platform_core.proofs.TickLemmas.{flat-push}
use Rattle.platform_core.proofs.CarryLemmas.{carried_none, carried_events, keeps_itself, keeps_then}
use Rattle.platform_core.proofs.carrying.carry_out_all.Goals as goal

pub loop-turn-init : goal.loop-turn-init
loop-turn-init c = record {
  shards = carried_none c.args.shards.now.roster c.args.shards.now.shards;
  output = sym (append-nil c.args.out.now);
  kept = keeps_itself c.args.shards.now c.args.shards.now refl;
}

pub carry_out-requires : goal.carry_out-requires
carry_out-requires c =
    let t = YieldsList-turn (YieldsList-from_vec {s = c.into_iter-turn-iterator.result} c.args.turns.items c.into_iter-turn-iterator.ensures.into_iter_gives.0 (c.into_iter-turn-iterator.ensures.into_iter_gives.1 ∙ c.args.turns.ok.0)) c.loop-turn.yielded c.loop-turn.turn-iterator c.loop-turn.yielded_by c.next.result c.next.new.self c.in-Some.turn c.in-Some.is c.next.ensures.steps in
    subst (λ (r : RosterOf). IsInForm r c.in-Some.turn) (sym c.loop-turn.invariant.kept.roster)
    (all_at (IsInForm c.args.shards.now.roster) c.args.turns.items _ c.in-Some.turn c.requires t.0 t.1)

pub loop-turn-preserved : goal.loop-turn-preserved
loop-turn-preserved c = record {
  shards = carried_events c.args.shards.now.roster (flat_map events_in c.loop-turn.yielded) (events_in c.in-Some.turn) c.args.shards.now c.loop-turn.shards c.carry_out.new.shards
      c.loop-turn.invariant.kept.roster c.loop-turn.invariant.shards c.in_ok-carry_out.ensures.shards
      ∙ ap (λ l. shards_after_all c.args.shards.now.roster l c.args.shards.now.shards) (sym (flat-push events_in c.loop-turn.yielded c.in-Some.turn));
  output = c.in_ok-carry_out.ensures.output ∙ ap (λ (l : List OutRecord). l ++ output_in c.in-Some.turn) c.loop-turn.invariant.output
      ∙ append_assoc c.args.out.now (flat_map output_in c.loop-turn.yielded) (output_in c.in-Some.turn)
      ∙ ap (λ (l : List OutRecord). c.args.out.now ++ l) (sym (flat-push output_in c.loop-turn.yielded c.in-Some.turn));
  kept = keeps_then c.args.shards.now c.loop-turn.shards c.carry_out.new.shards c.loop-turn.invariant.kept c.carry_out.ensures.kept;
}

all : (c : goal.After-drop-turn-iterator-2) → c.loop-turn.yielded ≡ c.args.turns.items
all c =
    let end = YieldsList-end (YieldsList-from_vec {s = c.into_iter-turn-iterator.result} c.args.turns.items c.into_iter-turn-iterator.ensures.into_iter_gives.0 (c.into_iter-turn-iterator.ensures.into_iter_gives.1 ∙ c.args.turns.ok.0)) c.loop-turn.yielded c.loop-turn.turn-iterator c.loop-turn.yielded_by c.next.result c.next.new.self c.in-None.is c.next.ensures.steps in
    sym (map-id c.loop-turn.yielded) ∙ end.0

pub returns-clause-shards : goal.returns-clause-shards
returns-clause-shards c = c.loop-turn.invariant.shards ∙ ap (λ l. shards_after_all c.args.shards.now.roster (flat_map events_in l) c.args.shards.now.shards) (all c)

pub returns-clause-output : goal.returns-clause-output
returns-clause-output c = c.loop-turn.invariant.output ∙ ap (λ l. c.args.out.now ++ flat_map output_in l) (all c)

pub returns-in_err-carry_out-clause-kept : goal.returns-in_err-carry_out-clause-kept
returns-in_err-carry_out-clause-kept c = keeps_then c.args.shards.now c.loop-turn.shards c.carry_out.new.shards c.loop-turn.invariant.kept c.carry_out.ensures.kept
