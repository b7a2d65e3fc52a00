use Rattle.platform_laws.proofs.TurnSteps.{record-in_form}
use Rattle.platform_laws.proofs.turns.sessions_announce_routes_of_their_octets.Goals as goal

pub returns : goal.returns
returns c = λ platform seen item h small. record-in_form platform item.source item.body item.kind small h.octets
