-- What the header says of the octets in front decides.
use Rattle.std.proofs.Common.{ℕ, take, subst, ap, ◌∙◌, arith}
use Rattle.bgp_msg.specs.HeaderFields.{IsLengthOf}
use Rattle.bgp_msg.proofs.InFront.{nothing-short, nothing-part, faulty, IsInFront-cut, body_len}
use Rattle.bgp_msg.proofs.framing.first_message.Goals as goal

pub returns-then-octets-lt-HEADER_LEN-clause-given : goal.returns-then-octets-lt-HEADER_LEN-clause-given
returns-then-octets-lt-HEADER_LEN-clause-given c = nothing-short c.args.octets.now (omega (arith, c.if-octets-lt-HEADER_LEN.true))

pub returns-in-Err-clause-given : goal.returns-in-Err-clause-given
returns-in-Err-clause-given c =
    let found = faulty c.args.octets.now _ (omega (arith, c.if-octets-lt-HEADER_LEN.false)) c.in-Err.ensures.fault.0 in
    (found.0, found.1, c.in-Err.ensures.fault.1)

pub returns-then-octets-len-clause-given : goal.returns-then-octets-len-clause-given
returns-then-octets-len-clause-given c =
    nothing-part c.args.octets.now (omega (arith, c.if-octets-lt-HEADER_LEN.false)) c.in-Ok.ensures.faultless
    (omega (arith, c.if-octets-len.true, c.from-len.ensures, c.in-Ok.ensures.fields.len_is))

pub returns-clause-given : goal.returns-clause-given
returns-clause-given c =
    IsInFront-cut c.args.octets.now c.in-Ok.ensures.faultless c.in-Ok.header.kind c.in-Ok.header.len c.split_at.result.0.now c.split_at-2.result.1.now
    (record {
      read = c.in-Ok.ensures.fields;
      least = c.in-Ok.ensures.lengths.least;
      there = omega (arith, c.if-octets-len.false, c.from-len.ensures);
      message_is = c.split_at.ensures.front ∙ ap (λ (n : ℕ). take n c.args.octets.now) c.from-len.ensures;
      body_is = c.split_at-2.ensures.back;
    })

pub returns-clause-lengths : goal.returns-clause-lengths
returns-clause-lengths c =
    let count = body_len c.args.octets.now c.in-Ok.ensures.faultless c.in-Ok.header.kind c.in-Ok.header.len c.split_at.result.0.now c.split_at-2.result.1.now
    (record {
      read = c.in-Ok.ensures.fields;
      least = c.in-Ok.ensures.lengths.least;
      there = omega (arith, c.if-octets-len.false, c.from-len.ensures);
      message_is = c.split_at.ensures.front ∙ ap (λ (n : ℕ). take n c.args.octets.now) c.from-len.ensures;
      body_is = c.split_at-2.ensures.back;
    }) in
    subst (IsLengthOf c.in-Ok.header.kind) count c.in-Ok.ensures.lengths
