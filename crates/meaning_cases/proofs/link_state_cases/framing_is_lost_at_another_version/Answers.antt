use Rattle.std.proofs.Common.{refl}
use Rattle.rcp_base.specs.OspfPackets.{packet_size}
use Rattle.meaning_cases.proofs.link_state_cases.framing_is_lost_at_another_version.Goals as goal

pub returns : goal.returns
unfolding packet_size
returns c = record { packets = refl; rest = refl; lost = refl }
