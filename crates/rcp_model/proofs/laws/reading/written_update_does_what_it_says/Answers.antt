use Rattle.rcp_model.proofs.UpdateLemmas.{after_message-update_octets}
use Rattle.rcp_model.proofs.laws.reading.written_update_does_what_it_says.Goals as goal

pub returns : goal.returns
returns c = λ withdrawn announced attributes table fits gone new. after_message-update_octets withdrawn attributes announced fits table gone new
