use Rattle.rcp_model.proofs.FaultlessLemmas.{canonical_octets-faultless}
use Rattle.rcp_model.proofs.laws.canonical_form.canonical_octets_are_faultless.Goals as goal

pub returns : goal.returns
returns c = canonical_octets-faultless
