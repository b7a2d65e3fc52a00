use Rattle.meaning_cases.proofs.Computed.{lower_exit_is}
use Rattle.meaning_cases.proofs.instances.exit_discriminators_of_one_neighbour_are_compared.Goals as goal

pub returns : goal.returns
returns c = lower_exit_is
