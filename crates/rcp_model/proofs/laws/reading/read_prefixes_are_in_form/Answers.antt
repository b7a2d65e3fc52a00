use Rattle.rcp_model.proofs.SectionLemmas.{prefixes_in-in_form}
use Rattle.rcp_model.proofs.laws.reading.read_prefixes_are_in_form.Goals as goal

pub returns : goal.returns
returns c = prefixes_in-in_form
