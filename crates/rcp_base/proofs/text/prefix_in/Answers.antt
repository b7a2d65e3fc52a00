use Rattle.rcp_base.proofs.PrefixTextLemmas.{prefix_by_split}
use Rattle.rcp_base.proofs.text.prefix_in.Goals as goal

pub returns : goal.returns
returns c = prefix_by_split c.args.text.now c.in_ok-address.address.now c.in_ok-address.len.now c.prefix_of_two.result c.in_ok-address.ensures c.prefix_of_two.ensures
