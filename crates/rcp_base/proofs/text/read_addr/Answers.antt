use Rattle.std.proofs.Common.{Some, None}
use Rattle.rcp_base.proofs.AddressLemmas.{found_address, no_address}
use Rattle.rcp_base.proofs.text.read_addr.Goals as goal

pub returns-in-Some-clause-found : goal.returns-in-Some-clause-found
returns-in-Some-clause-found c = found_address c.args.text.now (Some c.in-Some.address) c.in-Some.ensures

pub returns-in-None-clause-none : goal.returns-in-None-clause-none
returns-in-None-clause-none c = no_address c.args.text.now None c.in-None.ensures
