use Rattle.rcp_model.proofs.ReadingLemmas.{IsMessage-message_octets, type_field-message_octets, body-message_octets}
use Rattle.rcp_model.proofs.laws.reading.written_message_is_whole.Goals as goal

pub returns : goal.returns
returns c = record { whole = IsMessage-message_octets; kind = type_field-message_octets; body = body-message_octets }
