use Rattle.rcp_base.proofs.PrefixLemmas.{read_again}
use Rattle.rcp_base.proofs.prefix.octets_are_read_again.Goals as goal

pub returns : goal.returns
returns c = read_again
