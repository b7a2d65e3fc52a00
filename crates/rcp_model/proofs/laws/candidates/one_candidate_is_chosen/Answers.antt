use Rattle.rcp_model.proofs.CandidateLemmas.{choice_of_nearest}
use Rattle.rcp_model.proofs.laws.candidates.one_candidate_is_chosen.Goals as goal

pub returns : goal.returns
returns c = choice_of_nearest
