use Rattle.meaning_cases.proofs.Computed.{withdrawn_and_announced_is}
use Rattle.meaning_cases.proofs.instances.prefix_withdrawn_and_announced_is_announced.Goals as goal

pub returns : goal.returns
returns c = withdrawn_and_announced_is
