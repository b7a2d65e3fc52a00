use Rattle.rcp_base.proofs.PrefixLemmas.{octets_tell}
use Rattle.rcp_base.proofs.prefix.octets_tell_the_prefix.Goals as goal

pub returns : goal.returns
returns c = octets_tell
