-- Header, code and subcode, and data are put one after the other.
use Rattle.std.proofs.Common.{◌≡◌, ◌+◌, length, arith}
use Rattle.bgp_fault.specs.Faults.{data_octets}
use Rattle.bgp_msg.proofs.Lengths.{length-data_octets, pieces-notification}
use Rattle.bgp_msg.proofs.notification.put_notification.Goals as goal

pub returns-clause-octets : goal.returns-clause-octets
returns-clause-octets g c =
    let long = length-data_octets c.args.body.now c.args.fault.now.extra c.requires.within in
    let count : 21 + c.data_len-count.result ≡ 21 + length (data_octets c.args.body.now c.args.fault.now.extra) = omega (arith, long, c.data_len-count.ensures) in
    rw (c.put_data.ensures.octets, c.put-at.ensures.octets, c.put_header-at.ensures.octets)
    (pieces-notification c.args.fault.now.code c.args.fault.now.sub _ _ count)
