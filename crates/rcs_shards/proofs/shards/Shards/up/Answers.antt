use Rattle.std.proofs.Common.{◌+◌, cond, ap, ◌∙◌, arith}
use Rattle.rcs_shards.proofs.StepLemmas.{each-member, few, more-is, up-acts, up-together}
use Rattle.rcs_shards.proofs.shards.Shards.up.Goals as goal

pub overflow_add-self : goal.overflow_add-self
overflow_add-self c =
    let s = c.self.inside in
    let low = few s.roster s.view.value s.connected s.shards.items c.self.invariant in
    let one = (more-is c.connected.result s.connected c.from-more.result c.from-more.ensures).1 in
    omega (arith, low, one)

pub up_each-requires : goal.up_each-requires
up_each-requires c =
    let s = c.self.inside in
    each-member s.roster s.view.value s.connected s.shards.items c.self.invariant c.args.self.now c.self.view_is c.args.slot c.requires.member

pub invariant_of-self : goal.invariant_of-self
invariant_of-self c =
    let s = c.self.inside in
    up-together s.roster s.view.value s.connected s.shards.items c.self.invariant c.args.self.now c.self.view_is c.up_each.new.shards.items c.args.slot c.up_each.ensures c.requires.member (s.connected + c.from-more.result)
    ((more-is c.connected.result s.connected c.from-more.result c.from-more.ensures).0 ∙ ap (λ b. cond b s.connected (s.connected + 1)) c.connected.ensures)

pub returns : goal.returns
returns c =
    let s = c.self.inside in
    up-acts s.roster s.view.value s.connected s.shards.items c.self.invariant c.args.self.now c.self.view_is c.up_each.new.shards.items c.args.slot c.up_each.ensures
