use Rattle.meaning_cases.proofs.Computed.{alone_is, lone_edges_are}
use Rattle.meaning_cases.proofs.instances.lone_router_is_offered_nothing.Goals as goal

pub returns : goal.returns
returns c = record { output = alone_is; edges = lone_edges_are }
