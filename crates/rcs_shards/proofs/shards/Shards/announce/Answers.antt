use Rattle.std.proofs.Common.{Some, refl, sym, ◌∙◌}
use Rattle.rcs_shards.proofs.StepLemmas.{change-nothing, own-member, own-up, own-prefix, change-acts, change-announced}
use Rattle.rcs_shards.proofs.shards.Shards.announce.Goals as goal

pub returns-then-not-connected-clause-after : goal.returns-then-not-connected-clause-after
returns-then-not-connected-clause-after c =
    let s = c.self.inside in
    change-nothing s.roster s.view.value s.connected s.shards.items c.self.invariant c.args.self.now c.self.view_is c.args.slot c.args.p (Some c.args.route) (sym c.connected.ensures ∙ c.if-not-connected.true)

pub announce-requires-clause-member : goal.announce-requires-clause-member
announce-requires-clause-member c =
    let s = c.self.inside in
    own-member s.roster s.view.value s.connected s.shards.items c.self.invariant c.args.self.now c.self.view_is c.args.p c.number_of-number.result c.number_of-number.ensures.number c.number_of-number.ensures.within
    c.index_mut.result.now c.index_mut.ensures.value c.args.slot c.requires.member

pub announce-requires-clause-up : goal.announce-requires-clause-up
announce-requires-clause-up c =
    let s = c.self.inside in
    own-up s.roster s.view.value s.connected s.shards.items c.self.invariant c.args.self.now c.self.view_is c.args.p c.number_of-number.result c.number_of-number.ensures.number c.number_of-number.ensures.within
    c.index_mut.result.now c.index_mut.ensures.value c.args.slot (sym c.connected.ensures ∙ c.if-not-connected.false)

pub announce-requires-clause-own : goal.announce-requires-clause-own
announce-requires-clause-own c =
    let s = c.self.inside in
    own-prefix s.roster s.view.value s.connected s.shards.items c.self.invariant c.args.self.now c.self.view_is c.args.p c.number_of-number.result c.number_of-number.ensures.number c.number_of-number.ensures.within
    c.index_mut.result.now c.index_mut.ensures.value

pub invariant_of-self-2 : goal.invariant_of-self-2
invariant_of-self-2 c =
    let s = c.self.inside in
    change-announced s.roster s.view.value s.connected s.shards.items c.self.invariant c.args.self.now c.self.view_is c.args.p c.number_of-number.result c.number_of-number.ensures.number c.number_of-number.ensures.within
    c.index_mut.result.now c.index_mut.ensures.value c.args.slot (Some c.args.route) c.announce.new.self c.in_ok-announce.ensures.after c.args.route refl c.requires.fields

pub returns-clause-after : goal.returns-clause-after
returns-clause-after c =
    let s = c.self.inside in
    change-acts s.roster s.view.value s.connected s.shards.items c.self.invariant c.args.self.now c.self.view_is c.args.p c.number_of-number.result c.number_of-number.ensures.number c.number_of-number.ensures.within
    c.index_mut.result.now c.index_mut.ensures.value c.args.slot (Some c.args.route) c.announce.new.self c.in_ok-announce.ensures.after
