use Rattle.meaning_cases.proofs.Computed.{timers_is}
use Rattle.meaning_cases.proofs.instances.silent_session_expires.Goals as goal

pub returns : goal.returns
returns c = timers_is
