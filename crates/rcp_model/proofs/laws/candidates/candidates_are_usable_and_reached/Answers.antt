use Rattle.rcp_model.proofs.CandidateLemmas.{candidate_is, candidates_rise}
use Rattle.rcp_model.proofs.laws.candidates.candidates_are_usable_and_reached.Goals as goal

pub returns : goal.returns
returns c = record {
  exact = candidate_is;
  reached = λ domain announced edges slot a inside. ((candidate_is domain announced edges slot a).0 inside).reached;
  in_order = candidates_rise;
}
