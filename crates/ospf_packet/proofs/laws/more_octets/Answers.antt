use Rattle.ospf_packet.proofs.Streams.{packets_in-append, rest_in-append, packets_in-lost}
use Rattle.ospf_packet.proofs.laws.more_octets.Goals as goal

pub returns : goal.returns
returns c = record { packets = packets_in-append; rest = rest_in-append; lost = packets_in-lost }
