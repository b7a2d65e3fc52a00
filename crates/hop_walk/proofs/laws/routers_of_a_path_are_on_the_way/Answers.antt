use Rattle.hop_walk.proofs.WayLemmas.{path-way}
use Rattle.hop_walk.proofs.laws.routers_of_a_path_are_on_the_way.Goals as goal

pub returns : goal.returns
returns c = λ edges u w v path is member. path-way edges v is w member
