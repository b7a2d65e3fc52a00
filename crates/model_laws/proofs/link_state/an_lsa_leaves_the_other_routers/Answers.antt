use Rattle.model_laws.proofs.LinkStateLemmas.{others_left}
use Rattle.model_laws.proofs.link_state.an_lsa_leaves_the_other_routers.Goals as goal

pub returns : goal.returns
returns c = others_left
