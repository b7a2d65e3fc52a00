use Rattle.rcp_model.proofs.RouteLemmas.{route_of_octets}
use Rattle.rcp_model.proofs.laws.canonical_form.route_is_in_form.Goals as goal

pub returns : goal.returns
returns c = λ octets width as_number all complete. route_of_octets octets all width as_number complete
