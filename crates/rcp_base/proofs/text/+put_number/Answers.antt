use Rattle.std.proofs.Common.{ap, arith}
use Rattle.std.proofs.Common.{length}
use Rattle.std.proofs.lemmas.Fmt.{decimal_digit}
use Rattle.rcp_base.proofs.WritingLemmas.{short, put_digit, put_more, length-decimal_step}
use Rattle.rcp_base.proofs.text.+put_number.Goals as goal

pub bounds-out-place : goal.bounds-out-place
bounds-out-place t c = omega (arith, ap length (decimal_digit c.args.number c.if-number-lt10.true))

pub returns-then-number-lt10-clause-text : goal.returns-then-number-lt10-clause-text
returns-then-number-lt10-clause-text t c =
    put_digit c.args.number c.args.place c.args.out.now c.if-number-lt10.true (omega (arith, ap length (decimal_digit c.args.number c.if-number-lt10.true)))

pub returns-then-number-lt10-clause-place : goal.returns-then-number-lt10-clause-place
returns-then-number-lt10-clause-place t c = omega (arith, ap length (decimal_digit c.args.number c.if-number-lt10.true))

pub put_number-place-requires : goal.put_number-place-requires
put_number-place-requires t c = (omega arith, omega (arith, length-decimal_step c.args.number c.if-number-lt10.false (omega arith)))

pub bounds-out-place-2 : goal.bounds-out-place-2
bounds-out-place-2 t c = omega (arith, c.put_number-place.ensures.place, c.put_number-place.auto.out, length-decimal_step c.args.number c.if-number-lt10.false (omega arith))

pub returns-clause-text : goal.returns-clause-text
returns-clause-text t c =
    rw c.put_number-place.ensures.place
    (put_more c.args.number c.args.place c.args.out.now c.put_number-place.new.out c.if-number-lt10.false (omega arith) c.requires c.put_number-place.ensures.text c.put_number-place.auto.out)

pub returns-clause-place : goal.returns-clause-place
returns-clause-place t c = omega (arith, c.put_number-place.ensures.place, length-decimal_step c.args.number c.if-number-lt10.false (omega arith))

pub returns-clause-up_to : goal.returns-clause-up_to
returns-clause-up_to t c = omega (arith, c.put_number-place.ensures.place, length-decimal_step c.args.number c.if-number-lt10.false (omega arith), short c.args.number (omega arith))
