use Rattle.rcp_base.proofs.PrefixLemmas.{before-cmp}
use Rattle.rcp_base.proofs.prefix.before_is_less.Goals as goal

pub returns : goal.returns
returns c = before-cmp
