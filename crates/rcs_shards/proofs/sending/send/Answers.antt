use Rattle.std.proofs.Common.{ℕ, ◌≤◌, List, [], ◌∷◌, length, map, Vec, Global, sym, ap, subst, ◌∙◌, arith}
use Rattle.std.specs.Prelude.{All}
use Rattle.std.proofs.lemmas.List.{map-append}
use Rattle.std.proofs.lemmas.List.Elements.{All-push}
use Rattle.rcs_shards.proofs.SendLemmas.{sends-turn, sends-all}
use Rattle.rcs_shards.proofs.sending.send.Goals as goal

pub loop-slot-preserved : goal.loop-slot-preserved
loop-slot-preserved c =
    let octets_of : Vec (Vec ℕ Global) Global → List (List ℕ) = λ messages. map (λ (m : Vec ℕ Global). m.items) messages.items in
    let are_short : Vec (Vec ℕ Global) Global → Type 0 = λ messages. All (λ (m : Vec ℕ Global). length m.items ≤ 4096) messages.items in
    let pushed = c.in_ok-push.ensures.items in (
      sends-turn c.args.roster.now c.args.shards.now c.args.slots.now c.loop-slot.slot-index c.loop-slot-test.true
          (map octets_of c.loop-slot.lists.items) (map octets_of c.push.new.self.items) c.loop-slot.invariant.0 c.slot-item.result c.slot-item.is
          (octets_of c.in_ok-updates.field-0) c.in_ok-updates.ensures.packed
          (ap (map octets_of) pushed ∙ map-append octets_of c.loop-slot.lists.items (c.in_ok-updates.field-0 ∷ [])),
      subst (All are_short) (sym pushed) (All-push are_short c.loop-slot.lists.items c.in_ok-updates.field-0 c.loop-slot.invariant.1 c.in_ok-updates.ensures.short),
      c.updates.ensures.prefixes,
      c.updates.ensures.routes,
      c.updates.ensures.passed,
    )

pub returns-clause-sent : goal.returns-clause-sent
returns-clause-sent c =
    let all : length c.args.slots.now ≤ c.loop-slot.slot-index = omega (arith, c.loop-slot-test.false) in
    sends-all c.args.roster.now c.args.shards.now c.args.slots.now c.loop-slot.slot-index _ c.loop-slot.invariant.0 all
