use Rattle.std.proofs.Common.{arith, ◌≡◌, length}
use Rattle.ospf_packet.proofs.Filling.{take-append-parts}
use Rattle.ospf_packet.proofs.framer.copy_to.Goals as goal

pub returns : goal.returns
returns c =
    let is_place : length c.split_at_mut-room.result.0.now ≡ c.args.place = c.split_at_mut-room.ensures.front_len in
    let is_octets : length c.copy_from_slice.new.self ≡ length c.args.octets.now = omega (arith, c.copy_from_slice.ensures.len, c.split_at_mut-slots.ensures.front_len) in
    take-append-parts _ _ _ _ _ _ _ is_place is_octets c.split_at_mut-room.ensures.front c.copy_from_slice.ensures.after
