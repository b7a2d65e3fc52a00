use Rattle.std.proofs.Common.{refl, sym, ◌∙◌, arith}
use Rattle.rcs_shards.proofs.StepLemmas.{down-nothing, each-member, each-up, down-acts, down-together, some-up}
use Rattle.rcs_shards.proofs.shards.Shards.down.Goals as goal

pub returns-then-not-connected : goal.returns-then-not-connected
returns-then-not-connected c =
    let s = c.self.inside in
    down-nothing s.roster s.view.value s.connected s.shards.items c.self.invariant c.args.self.now c.self.view_is c.args.slot (sym c.connected.ensures ∙ c.if-not-connected.true)

pub overflow_sub-self : goal.overflow_sub-self
overflow_sub-self c =
    let s = c.self.inside in
    let some = some-up s.roster s.view.value s.connected s.shards.items c.self.invariant c.args.self.now c.self.view_is c.args.slot (sym c.connected.ensures ∙ c.if-not-connected.false) in
    omega (arith, some)

pub down_each-requires-clause-member : goal.down_each-requires-clause-member
down_each-requires-clause-member c =
    let s = c.self.inside in
    each-member s.roster s.view.value s.connected s.shards.items c.self.invariant c.args.self.now c.self.view_is c.args.slot c.requires.member

pub down_each-requires-clause-up : goal.down_each-requires-clause-up
down_each-requires-clause-up c =
    let s = c.self.inside in
    each-up s.roster s.view.value s.connected s.shards.items c.self.invariant c.args.self.now c.self.view_is c.args.slot (sym c.connected.ensures ∙ c.if-not-connected.false)

pub invariant_of-self : goal.invariant_of-self
invariant_of-self c =
    let s = c.self.inside in
    down-together s.roster s.view.value s.connected s.shards.items c.self.invariant c.args.self.now c.self.view_is c.down_each.new.shards.items c.args.slot c.down_each.ensures (sym c.connected.ensures ∙ c.if-not-connected.false) _ refl

pub returns : goal.returns
returns c =
    let s = c.self.inside in
    down-acts s.roster s.view.value s.connected s.shards.items c.self.invariant c.args.self.now c.self.view_is c.down_each.new.shards.items c.args.slot c.down_each.ensures
