use Rattle.model_laws.proofs.LinkStateLemmas.{young_left}
use Rattle.model_laws.proofs.link_state.a_time_leaves_the_young_ones.Goals as goal

pub returns : goal.returns
returns c = young_left
