use Rattle.rcp_model.proofs.KeptLemmas.{told-answer, kept-octets}
use Rattle.rcp_model.proofs.laws.sessions.told_routes_are_those_of_their_octets.Goals as goal

pub returns-clause-told : goal.returns-clause-told
returns-clause-told c = told-answer

pub returns-clause-kept : goal.returns-clause-kept
returns-clause-kept c = kept-octets
