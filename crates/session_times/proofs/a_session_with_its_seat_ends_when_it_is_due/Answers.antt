use Rattle.session_times.proofs.DueLemmas.{seated_due}
use Rattle.session_times.proofs.a_session_with_its_seat_ends_when_it_is_due.Goals as goal

pub returns : goal.returns
returns c = seated_due
