use Rattle.rcp_model.proofs.ReadingLemmas.{messages_in-concat}
use Rattle.rcp_model.proofs.laws.reading.whole_messages_come_first.Goals as goal

pub returns : goal.returns
returns c = messages_in-concat
