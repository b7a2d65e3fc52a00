use Rattle.rcp_model.proofs.FilterLemmas.{member_of_tied, tied_member}
use Rattle.rcp_model.proofs.laws.filters.a_tied_route_is_unbeaten.Goals as goal

pub returns : goal.returns
returns c = λ list a. (member_of_tied list a, λ is. tied_member list a is.0 is.1)
