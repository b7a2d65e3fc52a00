use Rattle.bgp_msg.proofs.Offers.{open_fault-by_identifier}
use Rattle.bgp_msg.proofs.laws.identifier_comes_before_parameters.Goals as goal

pub returns : goal.returns
returns c = open_fault-by_identifier
