use Rattle.std.proofs.Common.{Contains}
use Rattle.egress_rank.specs.Egresses.{IsMarked}
use Rattle.egress_rank.proofs.EgressLemmas.{egress_one}
use Rattle.egress_rank.proofs.laws.one_egress.Goals as goal

pub returns : goal.returns
returns c = λ members cost slot marks list a b same. egress_one members cost slot (IsMarked marks) (Contains list) a b same
