use Rattle.std.proofs.Common.{arith}
use Rattle.std.proofs.lemmas.List.{length-set}
use Rattle.rcp_base.proofs.WritingLemmas.{two_digits, prefix_at_front}
use Rattle.rcp_base.proofs.text.write_prefix.Goals as goal

pub put_number-requires : goal.put_number-requires
put_number-requires c =
    omega (arith, two_digits c.len.result c.args.p.len c.len.ensures.value c.len.ensures.in_form.len, length-set c.put_address-place.new.out c.put_address-place.result 47)

pub returns-clause-text : goal.returns-clause-text
returns-clause-text c =
    prefix_at_front c.args.p c.args.out.now c.put_address-place.new.out c.put_number.new.out c.addr.result c.len.result c.put_address-place.result c.put_number.result
    c.addr.ensures.value c.len.ensures.value c.put_address-place.ensures.text c.put_address-place.ensures.place
    (omega (arith, two_digits c.len.result c.args.p.len c.len.ensures.value c.len.ensures.in_form.len)) c.put_address-place.auto.out c.put_number.ensures.text c.put_number.ensures.place
