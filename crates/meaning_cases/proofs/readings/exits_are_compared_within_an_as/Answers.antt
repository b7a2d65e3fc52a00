use Rattle.std.proofs.Common.{refl}
use Rattle.rcp_model.specs.Decision.{tied}
use Rattle.meaning_cases.proofs.readings.exits_are_compared_within_an_as.Goals as goal

pub returns : goal.returns
unfolding tied
returns c = refl
