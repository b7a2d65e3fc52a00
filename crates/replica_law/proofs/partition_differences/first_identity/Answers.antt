use Rattle.std.proofs.Common.{not}
use Rattle.rcp_model.specs.RouteServer.{same_cost}
use Rattle.replica_law.specs.Replicas.{identifier_of}
use Rattle.replica_law.proofs.ListLemmas.{cost_test, first_of_list}
use Rattle.replica_law.proofs.partition_differences.first_identity.Goals as goal

pub returns : goal.returns
returns c =
    first_of_list (λ u. not (same_cost (identifier_of c.args.first.now u) (identifier_of c.args.second.now u))) (identifier_of c.args.first.now) (identifier_of c.args.second.now)
    c.args.routers.now c.first_renamed.result (cost_test (identifier_of c.args.first.now) (identifier_of c.args.second.now)) c.requires c.first_renamed.ensures
