use Rattle.meaning_cases.proofs.Computed.{faulty_is}
use Rattle.meaning_cases.proofs.instances.faulty_update_ends_the_session.Goals as goal

pub returns : goal.returns
returns c = faulty_is
