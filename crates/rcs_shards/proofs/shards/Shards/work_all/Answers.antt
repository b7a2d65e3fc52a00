use Rattle.std.proofs.Common.{ℕ, length, map, Vec, Global, IfOk, sym, ap, subst, ◌∙◌, arith}
use Rattle.std.proofs.lemmas.Result.{IfOk-weaker}
use Rattle.rcs_shards.specs.Dirty.{cleaned, ArePending}
use Rattle.rcs_shards.proofs.BusyLemmas.{busy-all}
use Rattle.rcs_shards.proofs.FinishLemmas.{works-all}
use Rattle.rcs_shards.proofs.shards.Shards.work_all.Goals as goal

pub send_from-sent-requires-clause-ready : goal.send_from-sent-requires-clause-ready
send_from-sent-requires-clause-ready g c =
    let s = c.self.inside in
    (works-all s.roster s.view.value s.connected s.shards.items c.self.invariant c.args.self.now c.self.view_is c.deref-2.result.now c.deref-2.result.now c.args.slots.now (c.deref-2.ensures.value ∙ c.work_each.ensures)).ready

pub clean-requires : goal.clean-requires
clean-requires g c =
    let s = c.self.inside in
    (works-all s.roster s.view.value s.connected s.shards.items c.self.invariant c.args.self.now c.self.view_is c.work_each.new.shards.items c.work_each.new.shards.items c.args.slots.now c.work_each.ensures).ready

pub invariant_of-self : goal.invariant_of-self
invariant_of-self g c =
    let s = c.self.inside in
    (works-all s.roster s.view.value s.connected s.shards.items c.self.invariant c.args.self.now c.self.view_is c.deref-2.result.now c.clean.new.shards.items c.args.slots.now (c.deref-2.ensures.value ∙ c.work_each.ensures)).together
    (c.clean.ensures ∙ ap (map cleaned) (sym c.deref-2.ensures.value))

pub returns-clause-after : goal.returns-clause-after
returns-clause-after g c =
    let s = c.self.inside in
    (works-all s.roster s.view.value s.connected s.shards.items c.self.invariant c.args.self.now c.self.view_is c.deref-2.result.now c.clean.new.shards.items c.args.slots.now (c.deref-2.ensures.value ∙ c.work_each.ensures)).after
    (c.clean.ensures ∙ ap (map cleaned) (sym c.deref-2.ensures.value))

pub returns-clause-sent : goal.returns-clause-sent
returns-clause-sent g c =
    let s = c.self.inside in
    let works = works-all s.roster s.view.value s.connected s.shards.items c.self.invariant c.args.self.now c.self.view_is c.deref-2.result.now c.clean.new.shards.items c.args.slots.now (c.deref-2.ensures.value ∙ c.work_each.ensures) in
    IfOk-weaker c.send_from-sent.result _ _
    (λ lists e. works.sent_is (c.clean.ensures ∙ ap (map cleaned) (sym c.deref-2.ensures.value)) (map (λ (messages : Vec (Vec ℕ Global) Global). map (λ (m : Vec ℕ Global). m.items) messages.items) lists.items) e)
    c.send_from-sent.ensures.sent

pub send_from-sent-requires-clause-busy : goal.send_from-sent-requires-clause-busy
send_from-sent-requires-clause-busy g c =
    let s = c.self.inside in
    IfOk-weaker c.pending_places-busy.result _ _
    (λ places pending. busy-all s.roster s.view.value s.connected s.shards.items c.self.invariant c.deref-2.result.now places.items (length s.shards.items) pending (omega arith) (c.deref-2.ensures.value ∙ c.work_each.ensures))
    (subst (λ l. IfOk c.pending_places-busy.result (λ places. ArePending l places.items (length l))) c.deref.ensures.value c.pending_places-busy.ensures)
