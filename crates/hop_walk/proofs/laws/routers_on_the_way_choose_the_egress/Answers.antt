use Rattle.hop_walk.proofs.AnswerLemmas.{hop_law}
use Rattle.hop_walk.proofs.laws.routers_on_the_way_choose_the_egress.Goals as goal

pub returns : goal.returns
returns c = hop_law
