use Rattle.replica_law.proofs.RosterLemmas.{members_more, members_all}
use Rattle.replica_law.proofs.seats.members_of.Goals as goal

pub loop-place-preserved : goal.loop-place-preserved
loop-place-preserved g c =
    members_more (g.X.Costs.members c.args.platform.now) c.loop-place.members.items c.push.new.self.items c.loop-place.place c.router.result c.bgp_id.result c.loop-place.invariant c.router.ensures c.bgp_id.ensures
    c.in_ok-push.ensures.items

pub returns-clause-members : goal.returns-clause-members
returns-clause-members g c =
    members_all (g.X.Costs.members c.args.platform.now) c.loop-place.members.items c.loop-place.place c.members-place-end.result c.loop-place.invariant c.members-place-end.ensures.count c.loop-place-test.false

pub returns-clause-distinct : goal.returns-clause-distinct
returns-clause-distinct g c =
    rw (members_all (g.X.Costs.members c.args.platform.now) c.loop-place.members.items c.loop-place.place c.members-place-end.result c.loop-place.invariant c.members-place-end.ensures.count c.loop-place-test.false)
    c.members-place-end.ensures.law.members
