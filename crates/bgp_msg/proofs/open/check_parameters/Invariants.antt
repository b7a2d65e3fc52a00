-- What is left has the fault that all parameters have.
use Rattle.std.proofs.Common.{◌≡◌, length}
use Rattle.bgp_msg.specs.Opened.{parameters_fault}
use Rattle.bgp_msg.proofs.open.check_parameters.Given as goal

abbrev pub invariant-loop-rest : goal.invariant-loop-rest
invariant-loop-rest l = parameters_fault l.rest ≡ parameters_fault l.fn.parameters

abbrev pub decreases-loop-rest : goal.decreases-loop-rest
decreases-loop-rest l = length l.rest
