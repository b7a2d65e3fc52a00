use Rattle.std.proofs.Common.{None, refl, sym, ◌∙◌}
use Rattle.rcs_shards.proofs.StepLemmas.{change-nothing, own-member, own-up, own-prefix, change-acts, change-withdrawn}
use Rattle.rcs_shards.proofs.shards.Shards.withdraw.Goals as goal

pub returns-then-not-connected : goal.returns-then-not-connected
returns-then-not-connected c =
    let s = c.self.inside in
    change-nothing s.roster s.view.value s.connected s.shards.items c.self.invariant c.args.self.now c.self.view_is c.args.slot c.args.p None (sym c.connected.ensures ∙ c.if-not-connected.true)

pub withdraw-requires-clause-member : goal.withdraw-requires-clause-member
withdraw-requires-clause-member c =
    let s = c.self.inside in
    own-member s.roster s.view.value s.connected s.shards.items c.self.invariant c.args.self.now c.self.view_is c.args.p c.number_of-number.result c.number_of-number.ensures.number c.number_of-number.ensures.within
    c.index_mut.result.now c.index_mut.ensures.value c.args.slot c.requires.member

pub withdraw-requires-clause-up : goal.withdraw-requires-clause-up
withdraw-requires-clause-up c =
    let s = c.self.inside in
    own-up s.roster s.view.value s.connected s.shards.items c.self.invariant c.args.self.now c.self.view_is c.args.p c.number_of-number.result c.number_of-number.ensures.number c.number_of-number.ensures.within
    c.index_mut.result.now c.index_mut.ensures.value c.args.slot (sym c.connected.ensures ∙ c.if-not-connected.false)

pub withdraw-requires-clause-own : goal.withdraw-requires-clause-own
withdraw-requires-clause-own c =
    let s = c.self.inside in
    own-prefix s.roster s.view.value s.connected s.shards.items c.self.invariant c.args.self.now c.self.view_is c.args.p c.number_of-number.result c.number_of-number.ensures.number c.number_of-number.ensures.within
    c.index_mut.result.now c.index_mut.ensures.value

pub invariant_of-self : goal.invariant_of-self
invariant_of-self c =
    let s = c.self.inside in
    change-withdrawn s.roster s.view.value s.connected s.shards.items c.self.invariant c.args.self.now c.self.view_is c.args.p c.number_of-number.result c.number_of-number.ensures.number c.number_of-number.ensures.within
    c.index_mut.result.now c.index_mut.ensures.value c.args.slot None c.withdraw.new.self c.withdraw.ensures.after refl

pub returns : goal.returns
returns c =
    let s = c.self.inside in
    change-acts s.roster s.view.value s.connected s.shards.items c.self.invariant c.args.self.now c.self.view_is c.args.p c.number_of-number.result c.number_of-number.ensures.number c.number_of-number.ensures.within
    c.index_mut.result.now c.index_mut.ensures.value c.args.slot None c.withdraw.new.self c.withdraw.ensures.after
