use Rattle.meaning_cases.proofs.Computed.{overlong_is}
use Rattle.meaning_cases.proofs.instances.overlong_route_is_no_candidate.Goals as goal

pub returns : goal.returns
returns c = overlong_is
