use Rattle.meaning_cases.proofs.Computed.{session_loss_is}
use Rattle.meaning_cases.proofs.instances.lost_session_takes_its_routes_along.Goals as goal

pub returns : goal.returns
returns c = session_loss_is
