use Rattle.std.proofs.Common.{arith}
use Rattle.platform_core.proofs.TurnLemmas.{octets_fit}
use Rattle.platform_core.proofs.platform.octets_in.Goals as goal

pub returns-clause-octets : goal.returns-clause-octets
returns-clause-octets c = octets_fit c.args.body.now (λ k. omega (arith, c.type_inv.body k))
