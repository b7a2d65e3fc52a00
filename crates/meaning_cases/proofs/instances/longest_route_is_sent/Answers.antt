use Rattle.meaning_cases.proofs.Computed.{longest_is}
use Rattle.meaning_cases.proofs.instances.longest_route_is_sent.Goals as goal

pub returns : goal.returns
returns c = longest_is
