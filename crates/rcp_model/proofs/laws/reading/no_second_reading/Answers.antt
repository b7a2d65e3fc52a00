use Rattle.rcp_model.proofs.ReadingLemmas.{reading_is_one}
use Rattle.rcp_model.proofs.laws.reading.no_second_reading.Goals as goal

pub returns : goal.returns
returns c = reading_is_one
