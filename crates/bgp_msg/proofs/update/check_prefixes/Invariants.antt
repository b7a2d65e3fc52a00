-- What is left has the fault that the whole section has.
use Rattle.std.proofs.Common.{◌≡◌, length}
use Rattle.rcp_model.specs.Updates.{prefixes_fault}
use Rattle.bgp_msg.proofs.update.check_prefixes.Given as goal

abbrev pub invariant-loop-rest : goal.invariant-loop-rest
invariant-loop-rest l = prefixes_fault l.rest ≡ prefixes_fault l.fn.section

abbrev pub decreases-loop-rest : goal.decreases-loop-rest
decreases-loop-rest l = length l.rest
