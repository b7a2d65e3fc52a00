use Rattle.std.proofs.Common.{◌∙◌, sym, ap, arith}
use Rattle.bgp_msg.specs.Opened.{parameters_fault}
use Rattle.bgp_msg.proofs.Parameters.{parameters_fault-front, parameters_fault-partial}
use Rattle.bgp_msg.proofs.open.check_parameters.Goals as goal

pub returns-in_default : goal.returns-in_default
returns-in_default c =
    let more = sym c.is_empty.ensures ∙ c.loop-rest-test.true in
    rw c.open_error.ensures (sym c.loop-rest.invariant ∙ parameters_fault-partial c.loop-rest.rest.now c.in_default.ensures.size more, tt)

pub loop-rest-preserved : goal.loop-rest-preserved
loop-rest-preserved c =
    let front = parameters_fault-front c.loop-rest.rest.now _ c.in-Some.ensures.size (omega arith) c.in-Some.ensures.within (sym c.in-Some.ensures.kind ∙ c.if-kind-ne-CAPABILITIES.false) in
    ap parameters_fault c.in-Some.ensures.rest ∙ sym front ∙ c.loop-rest.invariant
