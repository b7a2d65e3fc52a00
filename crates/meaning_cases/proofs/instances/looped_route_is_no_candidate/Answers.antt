use Rattle.meaning_cases.proofs.Computed.{loop_is}
use Rattle.meaning_cases.proofs.instances.looped_route_is_no_candidate.Goals as goal

pub returns : goal.returns
returns c = loop_is
