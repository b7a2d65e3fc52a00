use Rattle.std.proofs.Common.{◌∙◌, ap, subst, sym}
use Rattle.rcp_model.specs.Costs.{IsTwoWay}
use Rattle.replica_law.proofs.network.network_of.Goals as goal

pub of-requires : goal.of-requires
of-requires g c = rw (c.from_edges.ensures, c.in_ok-edges.ensures) c.members-law.ensures.law.two_way
