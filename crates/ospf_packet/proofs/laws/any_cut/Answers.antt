use Rattle.ospf_packet.proofs.Runs.{Run-packets, Run-place, Run-lost}
use Rattle.ospf_packet.proofs.laws.any_cut.Goals as goal

pub returns : goal.returns
returns c = record { packets = Run-packets; place = Run-place; lost = Run-lost }
