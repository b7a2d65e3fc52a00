use Rattle.rib_laws.proofs.ListLookups.{up_in_lists, announced_in_lists, pending_in_lists}
use Rattle.rib_laws.proofs.JoinLemmas.{offers_join}
use Rattle.rib_laws.proofs.join.answers_are_the_same.Goals as goal

pub returns : goal.returns
returns c = record { connected = up_in_lists; announced = announced_in_lists; pending = pending_in_lists; offered = offers_join }
