use Rattle.rcp_model.proofs.SectionLemmas.{prefixes_in-written}
use Rattle.rcp_model.proofs.laws.reading.written_prefixes_are_read_again.Goals as goal

pub returns : goal.returns
returns c = prefixes_in-written
