-- Each return against the list of checks.
use Rattle.std.proofs.Common.{Err, ◌∙◌, sym, ap}
use Rattle.lsa_reader.proofs.FirstFault.{IsSummed, IsSummed-from_code, unsummed-from_code, links_found, links_refused, Gives-err, error_same, takes_room, lsa_at-short, lsa_at-checksum, lsa_at-owner, lsa_at-ok, lsa_from_parts}
use Rattle.lsa_reader.proofs.reading.read.Goals as goal

pub returns-then-bytes-lt-BEFORE_LINKS-clause-gives : goal.returns-then-bytes-lt-BEFORE_LINKS-clause-gives
returns-then-bytes-lt-BEFORE_LINKS-clause-gives c = lsa_at-short c.args.bytes.now c.if-bytes-lt-BEFORE_LINKS.true

pub returns-then-not-has_zero_sums-clause-gives : goal.returns-then-not-has_zero_sums-clause-gives
returns-then-not-has_zero_sums-clause-gives c =
    lsa_at-checksum c.args.bytes.now c.if-bytes-lt-BEFORE_LINKS.false
    (unsummed-from_code c.args.bytes.now _ _ _ c.has_zero_sums.ensures c.split_at.ensures.back c.u16_at-checksum.ensures c.then-not-has_zero_sums.either)

pub returns-in_err-links-clause-gives : goal.returns-in_err-links-clause-gives
returns-in_err-links-clause-gives c =
    let s : IsSummed c.args.bytes.now = IsSummed-from_code c.args.bytes.now _ _ _ c.if-bytes-lt-BEFORE_LINKS.false c.if-not-has_zero_sums.false c.has_zero_sums.ensures c.split_at.ensures.back c.u16_at-checksum.ensures c.if-checksum-eq-NO_CHECKSUM.false in
    Gives-err _ _ _ _ c.from_residual.ensures.1
    (links_refused c.args.bytes.now _ _ _ s c.u16_at.ensures c.split_at-2.ensures.back c.in_err-links.ensures.gives)

pub returns-then-u32_at-router-clause-gives : goal.returns-then-u32_at-router-clause-gives
returns-then-u32_at-router-clause-gives c =
    let s : IsSummed c.args.bytes.now = IsSummed-from_code c.args.bytes.now _ _ _ c.if-bytes-lt-BEFORE_LINKS.false c.if-not-has_zero_sums.false c.has_zero_sums.ensures c.split_at.ensures.back c.u16_at-checksum.ensures c.if-checksum-eq-NO_CHECKSUM.false in
    let found = links_found c.args.bytes.now _ _ _ c.u16_at.ensures c.split_at-2.ensures.back c.in_ok-links.ensures.gives in
    lsa_at-owner c.args.bytes.now _ s found (λ same. c.if-u32_at-router.true (c.u32_at.ensures ∙ same ∙ sym c.u32_at-router.ensures))

pub returns-clause-gives : goal.returns-clause-gives
returns-clause-gives c =
    let s : IsSummed c.args.bytes.now = IsSummed-from_code c.args.bytes.now _ _ _ c.if-bytes-lt-BEFORE_LINKS.false c.if-not-has_zero_sums.false c.has_zero_sums.ensures c.split_at.ensures.back c.u16_at-checksum.ensures c.if-checksum-eq-NO_CHECKSUM.false in
    let found = links_found c.args.bytes.now _ _ _ c.u16_at.ensures c.split_at-2.ensures.back c.in_ok-links.ensures.gives in
    lsa_at-ok c.args.bytes.now _ s found (sym c.u32_at.ensures ∙ c.if-u32_at-router.false ∙ c.u32_at-router.ensures)
    ∙ lsa_from_parts _ _ _ _ _ _ _ _ _ _ c.u32_at-router.ensures c.u16_at-2.ensures c.u16_at-checksum.ensures c.u32_at-2.ensures c.u32_at-2.type_inv c.cast_signed.ensures

pub returns-in_err-links-clause-no_memory : goal.returns-in_err-links-clause-no_memory
returns-in_err-links-clause-no_memory c = λ short.
    let s : IsSummed c.args.bytes.now = IsSummed-from_code c.args.bytes.now _ _ _ c.if-bytes-lt-BEFORE_LINKS.false c.if-not-has_zero_sums.false c.has_zero_sums.ensures c.split_at.ensures.back c.u16_at-checksum.ensures c.if-checksum-eq-NO_CHECKSUM.false in
    takes_room c.args.bytes.now _ _ s c.u16_at.ensures c.split_at-2.ensures.back (c.in_err-links.ensures.no_memory (ap Err (error_same _ _ _ c.from_residual.ensures.1 short)))
