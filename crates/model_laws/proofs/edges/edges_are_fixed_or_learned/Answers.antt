use Rattle.model_laws.proofs.EdgeLemmas.{edges-members, edges-rising}
use Rattle.model_laws.proofs.edges.edges_are_fixed_or_learned.Goals as goal

pub returns : goal.returns
returns c = record { members = edges-members; rising = edges-rising }
