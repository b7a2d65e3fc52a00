use Rattle.rcp_base.proofs.PrefixTextLemmas.{found_prefix, no_prefix}
use Rattle.rcp_base.proofs.text.read_prefix.Goals as goal

pub returns-clause-found : goal.returns-clause-found
returns-clause-found c = found_prefix c.args.text.now c.prefix_in.result c.prefix_in.ensures

pub returns-clause-none : goal.returns-clause-none
returns-clause-none c = no_prefix c.args.text.now c.prefix_in.result c.prefix_in.ensures
