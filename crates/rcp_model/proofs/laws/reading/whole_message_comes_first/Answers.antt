use Rattle.rcp_model.proofs.ReadingLemmas.{messages_in-cons}
use Rattle.rcp_model.proofs.laws.reading.whole_message_comes_first.Goals as goal

pub returns : goal.returns
returns c = messages_in-cons
