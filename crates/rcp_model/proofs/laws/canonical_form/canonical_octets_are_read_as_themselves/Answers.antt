use Rattle.rcp_model.specs.Attributes.{attributes_in}
use Rattle.rcp_model.proofs.AttributeLemmas.{IsShort-attributes_in, HasOctets-attributes_in}
use Rattle.rcp_model.proofs.CanonicalLemmas.{canonical_octets-All, kinds_again, values_again, canonical_again, canonical_octets_again}
use Rattle.rcp_model.proofs.laws.canonical_form.canonical_octets_are_read_as_themselves.Goals as goal

pub returns : goal.returns
returns c = record {
  octets = λ octets all. canonical_octets-All (attributes_in octets) (IsShort-attributes_in octets all) (HasOctets-attributes_in octets all);
  types = λ octets all. kinds_again (attributes_in octets) (IsShort-attributes_in octets all);
  values = λ octets all. values_again (attributes_in octets) (IsShort-attributes_in octets all);
  form = λ octets all. canonical_again (attributes_in octets) (IsShort-attributes_in octets all);
  fixed = λ octets all. canonical_octets_again (attributes_in octets) (IsShort-attributes_in octets all);
}
