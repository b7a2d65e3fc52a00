use Rattle.std.proofs.Common.{ℕ, ◌<◌, List, length, map, Vec, Global, IfOk, sym, ap, subst, ◌∙◌}
use Rattle.std.specs.Prelude.{All, Contains}
use Rattle.std.proofs.lemmas.Result.{IfOk-weaker}
use Rattle.rcs_shards.specs.Dirty.{cleaned, sliced_at}
use Rattle.rcs_shard.specs.Shards.{ShardOf}
use Rattle.rcs_shards.proofs.BusyLemmas.{busy-at}
use Rattle.rcs_shards.proofs.FinishLemmas.{works-least}
use Rattle.rcs_shards.proofs.shards.Shards.work_least.Goals as goal

pub send_from-sent-requires-clause-ready : goal.send_from-sent-requires-clause-ready
send_from-sent-requires-clause-ready c =
    let s = c.self.inside in
    (works-least s.roster s.view.value s.connected s.shards.items c.self.invariant c.args.self.now c.self.view_is c.deref-2.result.now c.deref-2.result.now c.args.slots.now c.args.number c.args.count (c.deref-2.ensures.value ∙ c.work_at.ensures ∙ (λ i. sliced_at (c.from-place.ensures i) (c.from.ensures i) s.shards.items))).ready

pub clean-requires : goal.clean-requires
clean-requires c =
    let s = c.self.inside in
    (works-least s.roster s.view.value s.connected s.shards.items c.self.invariant c.args.self.now c.self.view_is c.work_at.new.shards.items c.work_at.new.shards.items c.args.slots.now c.args.number c.args.count (c.work_at.ensures ∙ (λ i. sliced_at (c.from-place.ensures i) (c.from.ensures i) s.shards.items))).ready

pub invariant_of-self : goal.invariant_of-self
invariant_of-self c =
    let s = c.self.inside in
    (works-least s.roster s.view.value s.connected s.shards.items c.self.invariant c.args.self.now c.self.view_is c.deref-2.result.now c.clean.new.shards.items c.args.slots.now c.args.number c.args.count (c.deref-2.ensures.value ∙ c.work_at.ensures ∙ (λ i. sliced_at (c.from-place.ensures i) (c.from.ensures i) s.shards.items))).together
    (c.clean.ensures ∙ ap (map cleaned) (sym c.deref-2.ensures.value))

pub returns-clause-after : goal.returns-clause-after
returns-clause-after c =
    let s = c.self.inside in
    (works-least s.roster s.view.value s.connected s.shards.items c.self.invariant c.args.self.now c.self.view_is c.deref-2.result.now c.clean.new.shards.items c.args.slots.now c.args.number c.args.count (c.deref-2.ensures.value ∙ c.work_at.ensures ∙ (λ i. sliced_at (c.from-place.ensures i) (c.from.ensures i) s.shards.items))).after
    (c.clean.ensures ∙ ap (map cleaned) (sym c.deref-2.ensures.value))

pub returns-clause-sent : goal.returns-clause-sent
returns-clause-sent c =
    let s = c.self.inside in
    let works = works-least s.roster s.view.value s.connected s.shards.items c.self.invariant c.args.self.now c.self.view_is c.deref-2.result.now c.clean.new.shards.items c.args.slots.now c.args.number c.args.count (c.deref-2.ensures.value ∙ c.work_at.ensures ∙ (λ i. sliced_at (c.from-place.ensures i) (c.from.ensures i) s.shards.items)) in
    IfOk-weaker c.send_from-sent.result _ _
    (λ lists e. works.sent_is (c.clean.ensures ∙ ap (map cleaned) (sym c.deref-2.ensures.value)) (map (λ (messages : Vec (Vec ℕ Global) Global). map (λ (m : Vec ℕ Global). m.items) messages.items) lists.items) e)
    c.send_from-sent.ensures.sent

pub send_from-sent-requires-clause-busy : goal.send_from-sent-requires-clause-busy
send_from-sent-requires-clause-busy c =
    let s = c.self.inside in
    IfOk-weaker c.one_place-busy.result _ _
    (λ places listed. busy-at s.roster s.view.value s.connected s.shards.items c.self.invariant c.deref-2.result.now c.from-place.result c.from.result places.items listed.0 listed.1 (c.deref-2.ensures.value ∙ c.work_at.ensures))
    (subst (λ (l : List ShardOf). IfOk c.one_place-busy.result (λ places. All (λ n. n < length l) places.items × (c.from-place.result < length l → Contains places.items c.from-place.result))) c.deref.ensures.value c.one_place-busy.ensures)
