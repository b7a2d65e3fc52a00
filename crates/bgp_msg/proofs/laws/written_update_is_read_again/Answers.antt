use Rattle.rcp_model.specs.Updates.{update_octets}
use Rattle.rcp_model.proofs.SectionLemmas.{prefixes_in-written, prefixes_fault-written}
use Rattle.rcp_model.proofs.UpdateLemmas.{IsMessage-update_octets, type_field-update_octets, sections_of-update_octets}
use Rattle.bgp_msg.proofs.Again.{whole_again}
use Rattle.bgp_msg.proofs.laws.written_update_is_read_again.Goals as goal

pub returns : goal.returns
returns c = record {
  whole = λ withdrawn announced attributes. IsMessage-update_octets withdrawn attributes announced;
  kind = λ withdrawn announced attributes. type_field-update_octets withdrawn attributes announced;
  sections = λ withdrawn announced attributes. sections_of-update_octets withdrawn attributes announced;
  prefixes = λ prefixes each. (prefixes_fault-written prefixes each, prefixes_in-written prefixes each);
  again = λ withdrawn announced attributes more short.
      whole_again (update_octets withdrawn attributes announced) more (IsMessage-update_octets withdrawn attributes announced short);
}
