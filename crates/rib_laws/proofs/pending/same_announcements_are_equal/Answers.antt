use Rattle.rib_laws.proofs.PendingLemmas.{octets_exact, route_exact}
use Rattle.rib_laws.proofs.pending.same_announcements_are_equal.Goals as goal

pub returns : goal.returns
returns c = record { octets = octets_exact; routes = route_exact }
