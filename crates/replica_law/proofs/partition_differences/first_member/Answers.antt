use Rattle.std.proofs.Common.{◌≤◌, map}
use Rattle.rcp_base.specs.declared.names.Edge.{Edge}
use Rattle.rcp_model.specs.Costs.{is_reached}
use Rattle.replica_law.specs.Steps.{unlike}
use Rattle.replica_law.proofs.ListLemmas.{unlike_test, first_of_two, not_falling}
use Rattle.replica_law.proofs.PartitionLemmas.{least-itself, moved_covered, increasing, ends-rise}
use Rattle.replica_law.proofs.partition_differences.first_member.Goals as goal

pub spokes-requires-2 : goal.spokes-requires-2
spokes-requires-2 c = least-itself c.args.second.now c.least-other.ensures.two_way c.args.least c.least-other.result c.least-other.ensures.least

pub returns : goal.returns
returns c =
    let f = is_reached c.args.first.now c.args.least in
    let g = is_reached c.args.second.now c.args.least in
    let lost = map (λ (edge : Edge). edge.to) c.spokes.result.now in
    let gained = map (λ (edge : Edge). edge.to) c.spokes-2.result.now in
    rw c.lower.ensures (first_of_two (λ u. unlike (f u) (g u)) f g lost gained c.first_moved-lost.result c.first_moved-gained.result (unlike_test f g)
    (not_falling lost (increasing lost (ends-rise c.spokes.result.now c.spokes.ensures.rising)))
    (not_falling gained (increasing gained (ends-rise c.spokes-2.result.now c.spokes-2.ensures.rising)))
    (moved_covered c.args.first.now c.args.second.now c.args.least c.least-other.result c.spokes.result.now c.spokes-2.result.now c.least-other.ensures.two_way c.least-other.ensures.least c.spokes.ensures c.spokes-2.ensures)
    c.first_moved-lost.ensures c.first_moved-gained.ensures)
