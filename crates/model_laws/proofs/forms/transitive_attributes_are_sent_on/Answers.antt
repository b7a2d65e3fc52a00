use Rattle.model_laws.proofs.FormLemmas.{unrecognised_sent_on}
use Rattle.model_laws.proofs.forms.transitive_attributes_are_sent_on.Goals as goal

pub returns : goal.returns
returns c = unrecognised_sent_on
