use Rattle.rib_laws.proofs.ReadLemmas.{routes_read, routes_offered}
use Rattle.rib_laws.proofs.readings.routes_are_read_from_octets.Goals as goal

pub returns : goal.returns
returns c = record { kept = routes_read; offered = routes_offered }
