use Rattle.meaning_cases.proofs.Computed.{seat_taken_is}
use Rattle.meaning_cases.proofs.instances.second_connection_of_a_router_is_closed.Goals as goal

pub returns : goal.returns
returns c = seat_taken_is
