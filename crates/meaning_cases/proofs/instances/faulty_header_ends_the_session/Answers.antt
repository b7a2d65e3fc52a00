use Rattle.meaning_cases.proofs.Computed.{faulty_header_is}
use Rattle.meaning_cases.proofs.instances.faulty_header_ends_the_session.Goals as goal

pub returns : goal.returns
returns c = faulty_header_is
