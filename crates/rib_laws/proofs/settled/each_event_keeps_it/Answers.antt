use Rattle.rib_laws.proofs.SettledLemmas.{settled_empty, settled_after}
use Rattle.rib_laws.proofs.settled.each_event_keeps_it.Goals as goal

pub returns : goal.returns
returns c = record { first_octets = settled_empty; later_octets = settled_after; first_routes = settled_empty; later_routes = settled_after }
