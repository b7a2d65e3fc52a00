use Rattle.rcp_model.proofs.UpdateLemmas.{IsMessage-update_octets, type_field-update_octets, sections_of-update_octets}
use Rattle.rcp_model.proofs.laws.reading.written_update_is_read_again.Goals as goal

pub returns : goal.returns
returns c = record {
  whole = λ withdrawn announced attributes. IsMessage-update_octets withdrawn attributes announced;
  kind = λ withdrawn announced attributes. type_field-update_octets withdrawn attributes announced;
  sections = λ withdrawn announced attributes. sections_of-update_octets withdrawn attributes announced;
}
