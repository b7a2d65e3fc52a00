use Rattle.rcp_model.proofs.ReadingLemmas.{IsReading-cut}
use Rattle.rcp_model.proofs.laws.reading.octets_are_messages.Goals as goal

pub returns : goal.returns
returns c = IsReading-cut
