use Rattle.meaning_cases.proofs.Computed.{tie_is}
use Rattle.meaning_cases.proofs.instances.lower_identifier_breaks_a_tie.Goals as goal

pub returns : goal.returns
returns c = tie_is
