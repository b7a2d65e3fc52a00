use Rattle.rcp_model.specs.Edges.{edges_of}
use Rattle.rcp_model.proofs.WalkLemmas.{reached_equivalence}
use Rattle.rib_laws.proofs.RosterLemmas.{roster-in_order}
use Rattle.rib_laws.proofs.TwoWayLemmas.{edges-two_way}
use Rattle.rib_laws.proofs.partitions.partitions_do_not_overlap.Goals as goal

pub returns : goal.returns
returns c = record {
  edges = λ state text roster is. edges-two_way state roster.links (roster-in_order text roster is).1;
  partitions = λ state text roster is. reached_equivalence (edges_of state roster.links) (edges-two_way state roster.links (roster-in_order text roster is).1);
}
