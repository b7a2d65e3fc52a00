use Rattle.std.proofs.Common.{◌≡◌, sym, ◌∙◌}
use Rattle.replica_law.specs.Replicas.{Replica, replica_of}
use Rattle.replica_law.proofs.DifferenceLemmas.{network_first}
use Rattle.replica_law.proofs.agreeing.difference_at.Goals as goal

pub returns-in-Some-network_difference : goal.returns-in-Some-network_difference
returns-in-Some-network_difference g c =
    let first : Replica = replica_of (g.X.Assigned.as_number c.args.first.now) (g.X.Costs.members c.args.first.now) (g.X.Costs.edges c.args.first.now) (g.X.Assigned.connected c.args.first.now)
    (g.X.Assigned.announced c.args.first.now) (g.X.Assigned.given c.args.first.now) (g.X.Assigned.pending c.args.first.now) in
    let second : Replica = replica_of (g.Y.Assigned.as_number c.args.second.now) (g.Y.Costs.members c.args.second.now) (g.Y.Costs.edges c.args.second.now) (g.Y.Assigned.connected c.args.second.now)
    (g.Y.Assigned.announced c.args.second.now) (g.Y.Assigned.given c.args.second.now) (g.Y.Assigned.pending c.args.second.now) in
    network_first first second c.args.least c.in_ok-routers.routers.items (sym c.as_number-here.ensures ∙ c.if-here-there.false ∙ c.as_number-there.ensures)
    (rw (c.requires.first_edges, c.requires.second_edges) at c.in_default.ensures) (rw c.requires.first_edges at c.in_ok-routers.ensures) c.in-Some-network_difference.other
    (rw (c.requires.first_members, c.requires.second_members, c.requires.first_edges, c.requires.second_edges, c.as_slice.ensures.value) at c.in-Some-network_difference.ensures)
