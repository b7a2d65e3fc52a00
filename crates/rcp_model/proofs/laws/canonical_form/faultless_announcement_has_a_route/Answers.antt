use Rattle.rcp_model.proofs.FaultlessLemmas.{has_route-faultless}
use Rattle.rcp_model.proofs.laws.canonical_form.faultless_announcement_has_a_route.Goals as goal

pub returns : goal.returns
returns c = has_route-faultless
