use Rattle.ospf_words.proofs.ChecksumLemmas.{verified}
use Rattle.ospf_words.proofs.laws.computed_checksums_pass.Goals as goal

pub returns : goal.returns
returns c = verified
