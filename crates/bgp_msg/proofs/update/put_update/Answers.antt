-- The pieces that are put one after the other are the octets of the UPDATE.
use Rattle.std.proofs.Common.{arith, ◌≡◌}
use Rattle.bgp_msg.proofs.Lengths.{pieces-update_octets}
use Rattle.bgp_msg.proofs.update.put_update.Goals as goal

pub returns-clause-octets : goal.returns-clause-octets
returns-clause-octets g c =
    let whole : c.args.size.whole ≡ c.put_section.result = omega (arith, c.put_section.ensures.end, c.put-at-3.ensures.end, c.put-at-2.ensures.end, c.put_section-at.ensures.end, c.put-at.ensures.end, c.put_header-at.ensures.end, c.requires.whole) in
    rw (whole, c.put_section.ensures.octets, c.put-at-3.ensures.octets, c.put-at-2.ensures.octets, c.put_section-at.ensures.octets, c.put-at.ensures.octets, c.put_header-at.ensures.octets, c.to_be_bytes.ensures, c.to_be_bytes-2.ensures)
    (pieces-update_octets _ _ _ _ _ (omega arith) (grind arith))
