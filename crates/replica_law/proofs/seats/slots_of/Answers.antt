use Rattle.replica_law.proofs.RosterLemmas.{slots_more, slots_all}
use Rattle.replica_law.proofs.seats.slots_of.Goals as goal

pub loop-place-preserved : goal.loop-place-preserved
loop-place-preserved c =
    slots_more c.args.members.now c.loop-place.place c.index-members-place.result c.loop-place.slots c.insert.new.self c.requires.routers c.loop-place.invariant c.loop-place-test.true c.index-members-place.is
    c.in_ok-insert.ensures.updates.0

pub returns : goal.returns
returns c = slots_all c.args.members.now c.loop-place.place c.loop-place.slots c.loop-place.invariant c.loop-place-test.false
