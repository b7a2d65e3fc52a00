use Rattle.std.proofs.Common.{◌≡◌, ◌<◌, ◌≤◌, List, length, get_or, refl, sym, ap, subst, arith}
use Rattle.rcp_base.specs.declared.names.Member.{Member}
use Rattle.replica_law.proofs.NetworkLemmas.{leasts_none, leasts_more, leasts_all}
use Rattle.replica_law.proofs.network.least_of_each.Goals as goal

pub loop-member-init : goal.loop-member-init
loop-member-init c = leasts_none c.args.network.now.partitions _ c.new-leasts.result.items refl c.new-leasts.ensures.items

pub loop-member-preserved : goal.loop-member-preserved
loop-member-preserved c =
    leasts_more c.args.network.now.partitions c.args.network.now.seats c.loop-member.member-index c.member-item.result c.least.result c.loop-member.leasts.items c.push.new.self.items c.loop-member.invariant
    (rw c.members-member-items.ensures at c.loop-member-test.true) (rw c.members-member-items.ensures at c.member-item.is) c.least.ensures.least c.in_ok-push.ensures.items

pub returns : goal.returns
returns c =
    leasts_all c.args.network.now.partitions c.args.network.now.seats c.loop-member.member-index c.loop-member.leasts.items c.loop-member.invariant
    (rw c.members-member-items.ensures at c.loop-member-test.false)
