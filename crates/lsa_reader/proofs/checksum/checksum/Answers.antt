use Rattle.std.proofs.Common.{◌≡◌, ◌+◌, ◌-◌, ◌*◌, ◌%◌, ◌∙◌, length, sum, ap, arith}
use Rattle.rcp_model.specs.RouterLsas.{weighted}
use Rattle.lsa_reader.proofs.Sums.{second_zero}
use Rattle.lsa_reader.proofs.checksum.checksum.Goals as goal

pub returns-clause-second : goal.returns-clause-second
returns-clause-second c =
    let octets = c.args.summed.now in
    let k = length octets - 14 - 1 in
    let high = c.nonzero-high.result in
    let low = c.nonzero-low.result in
    let weight_high : length octets - 14 ≡ k + 1 = omega arith in
    let weight_low : length octets - 15 ≡ k = omega arith in
    let both : (c.sums-first.result.0 + (high + low)) % 255 ≡ 0 = omega (arith, c.nonzero-low.ensures.same, c.nonzero-high.ensures.range.1) in
    ap (λ n. (weighted octets + (n * high + (length octets - 15) * low)) % 255) weight_high
    ∙ ap (λ n. (weighted octets + ((k + 1) * high + n * low)) % 255) weight_low
    ∙ second_zero (sum octets) (weighted octets) k c.sums-first.result.0 c.sums-first.result.1 high low
    c.sums-first.ensures.first c.sums-first.ensures.second c.nonzero-high.ensures.same both
