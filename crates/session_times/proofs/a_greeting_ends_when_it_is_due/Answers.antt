use Rattle.session_times.proofs.DueLemmas.{greeting_due}
use Rattle.session_times.proofs.a_greeting_ends_when_it_is_due.Goals as goal

pub returns : goal.returns
returns c = greeting_due
