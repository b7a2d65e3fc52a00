use Rattle.std.proofs.Common.{◌≡◌, ℕ, List, sym, ◌∙◌}
use Rattle.rcp_model.specs.Attributes.{attributes_in, canonical_octets, number_width}
use Rattle.rcp_model.proofs.AttributeLemmas.{IsShort-attributes_in}
use Rattle.rcp_model.proofs.CanonicalLemmas.{canonical_octets_again}
use Rattle.rcp_model.proofs.FaultlessLemmas.{canonical_octets-faultless}
use Rattle.rcp_model.proofs.RouteLemmas.{route_again}
use Rattle.path_attrs.specs.Readings.{written_of}
use Rattle.path_attrs.proofs.Again.{canonical_octets-sent_on, route_of-sent_on}
use Rattle.path_attrs.proofs.laws.written_is_read_again.Goals as goal

written_is : (octets : List ℕ) → written_of octets ≡ canonical_octets (attributes_in octets)
written_is octets = canonical_octets-sent_on (attributes_in octets)

pub returns : goal.returns
returns c = record {
  faultless = λ octets nlri all none. rw (written_is octets) (canonical_octets-faultless number_width nlri octets all none);
  octets = λ octets all. written_is (written_of octets) ∙ rw (written_is octets) (canonical_octets_again (attributes_in octets) (IsShort-attributes_in octets all));
  route = λ octets local_as all.
      route_of-sent_on number_width local_as (attributes_in (written_of octets))
      ∙ rw (written_is octets) (route_again (attributes_in octets) (IsShort-attributes_in octets all) number_width local_as)
      ∙ sym (route_of-sent_on number_width local_as (attributes_in octets));
}
