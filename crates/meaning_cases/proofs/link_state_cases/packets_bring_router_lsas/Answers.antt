use Rattle.std.proofs.Common.{refl}
use Rattle.rcp_model.specs.RouterLsas.{lsa_checks, lsa_at}
use Rattle.rcp_model.specs.LinkStateUpdates.{lsas_of_packet}
use Rattle.meaning_cases.proofs.link_state_cases.packets_bring_router_lsas.Goals as goal

pub returns : goal.returns
unfolding lsa_checks lsa_at lsas_of_packet
returns c = record { update = refl; another_area = refl; another_type = refl }
