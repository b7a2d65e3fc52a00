use Rattle.rib_laws.proofs.SettledLemmas.{tables_settled_after}
use Rattle.rib_laws.proofs.settled.each_event_keeps_it_of_lists.Goals as goal

pub returns : goal.returns
returns c = tables_settled_after
