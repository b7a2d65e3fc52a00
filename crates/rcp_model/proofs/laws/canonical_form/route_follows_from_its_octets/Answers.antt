use Rattle.rcp_model.specs.Attributes.{attributes_in}
use Rattle.rcp_model.proofs.AttributeLemmas.{IsShort-attributes_in}
use Rattle.rcp_model.proofs.RouteLemmas.{route_again, has_route_again}
use Rattle.rcp_model.proofs.laws.canonical_form.route_follows_from_its_octets.Goals as goal

pub returns : goal.returns
returns c = record {
  route = λ octets width as_number all. route_again (attributes_in octets) (IsShort-attributes_in octets all) width as_number;
  complete = λ octets all. has_route_again (attributes_in octets) (IsShort-attributes_in octets all);
}
