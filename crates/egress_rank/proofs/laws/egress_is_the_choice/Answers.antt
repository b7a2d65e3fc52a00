use Rattle.std.proofs.Common.{Contains}
use Rattle.egress_rank.specs.Egresses.{IsMarked}
use Rattle.egress_rank.proofs.EgressLemmas.{egress_choice}
use Rattle.egress_rank.proofs.laws.egress_is_the_choice.Goals as goal

pub returns : goal.returns
returns c = record {
  marks = λ members cost slot list marks egress. egress_choice members cost slot list (IsMarked marks) egress;
  slots = λ members cost slot list slots egress. egress_choice members cost slot list (Contains slots) egress;
}
