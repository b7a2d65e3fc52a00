use Rattle.rcp_model.proofs.CandidateLemmas.{choice_of_none}
use Rattle.rcp_model.proofs.laws.candidates.no_choice_without_a_candidate.Goals as goal

pub returns : goal.returns
returns c = choice_of_none
