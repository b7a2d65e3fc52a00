use Rattle.std.proofs.Common.{arith, ◌/◌, ◌%◌}
use Rattle.rcp_base.proofs.WritingLemmas.{short, address_written, length-address}
use Rattle.rcp_base.proofs.text.put_address.Goals as goal

pub put_number-place-requires : goal.put_number-place-requires
put_number-place-requires c = rw c.to_be_bytes.ensures (omega (arith, short (c.args.address / 16777216 % 256) (omega arith)))

pub returns-clause-text : goal.returns-clause-text
returns-clause-text c =
    let octets = c.to_be_bytes.ensures in
    address_written c.args.out.now c.put_number-place.new.out c.put_dot_and-place.new.out c.put_dot_and-place-2.new.out c.put_dot_and.new.out
    (c.args.address / 16777216 % 256) (c.args.address / 65536 % 256) (c.args.address / 256 % 256) (c.args.address % 256)
    c.put_number-place.result c.put_dot_and-place.result c.put_dot_and-place-2.result
    (omega arith) (omega arith) (omega arith) (omega arith) c.requires
    (rw octets at c.put_number-place.ensures.text) (rw octets at c.put_number-place.ensures.place)
    (rw octets at c.put_dot_and-place.ensures.text) (rw octets at c.put_dot_and-place.ensures.place)
    (rw octets at c.put_dot_and-place-2.ensures.text) (rw octets at c.put_dot_and-place-2.ensures.place)
    (rw octets at c.put_dot_and.ensures.text)

pub returns-clause-place : goal.returns-clause-place
returns-clause-place c =
    let octets = c.to_be_bytes.ensures in
    let p = rw octets at c.put_number-place.ensures.place in
    let q = rw octets at c.put_dot_and-place.ensures.place in
    let r = rw octets at c.put_dot_and-place-2.ensures.place in
    let s = rw octets at c.put_dot_and.ensures.place in
    omega (arith, p, q, r, s, length-address (c.args.address / 16777216 % 256) (c.args.address / 65536 % 256) (c.args.address / 256 % 256) (c.args.address % 256))
