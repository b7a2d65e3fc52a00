use Rattle.meaning_cases.proofs.Computed.{refused_and_again_is}
use Rattle.meaning_cases.proofs.instances.refused_router_connects_anew.Goals as goal

pub returns : goal.returns
returns c = refused_and_again_is
