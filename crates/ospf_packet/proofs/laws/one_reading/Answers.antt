use Rattle.ospf_packet.proofs.Streams as streams
use Rattle.ospf_packet.proofs.laws.one_reading.Goals as goal

pub returns : goal.returns
returns c = record { there_is = streams.one_reading; no_other = streams.only_reading }
