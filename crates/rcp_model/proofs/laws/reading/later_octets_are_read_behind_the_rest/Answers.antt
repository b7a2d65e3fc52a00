use Rattle.rcp_model.proofs.ReadingLemmas.{messages_in-later}
use Rattle.rcp_model.proofs.laws.reading.later_octets_are_read_behind_the_rest.Goals as goal

pub returns : goal.returns
returns c = messages_in-later
