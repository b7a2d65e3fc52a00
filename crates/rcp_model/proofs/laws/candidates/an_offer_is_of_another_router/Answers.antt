use Rattle.rcp_model.proofs.CandidateLemmas.{offer_is}
use Rattle.rcp_model.proofs.laws.candidates.an_offer_is_of_another_router.Goals as goal

pub returns : goal.returns
returns c = offer_is
