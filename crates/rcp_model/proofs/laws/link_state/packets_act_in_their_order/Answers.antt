use Rattle.rcp_model.proofs.PacketLemmas.{after_packets-append, left_out-packets}
use Rattle.rcp_model.proofs.laws.link_state.packets_act_in_their_order.Goals as goal

pub returns-clause-state : goal.returns-clause-state
returns-clause-state c = after_packets-append

pub returns-clause-left_out : goal.returns-clause-left_out
returns-clause-left_out c = left_out-packets
