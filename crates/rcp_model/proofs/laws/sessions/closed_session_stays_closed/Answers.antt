use Rattle.rcp_model.proofs.SessionLemmas.{answer-closed}
use Rattle.rcp_model.proofs.laws.sessions.closed_session_stays_closed.Goals as goal

pub returns : goal.returns
returns c = answer-closed
