-- The checksum in closed form is the only one that makes the sums 0.
use Rattle.std.proofs.Common.{◌≡◌, ℕ, ◌+◌, ◌-◌, ◌*◌, ◌/◌, ◌%◌, ◌<◌, ◌==◌, Bool, true, false, cond, List, [], ◌∷◌, ◌++◌, length, drop, sum, refl, sym, ap, ◌∙◌, arith, length-append}
use Rattle.std.proofs.lemmas.Bool.{and_parts, and_from, eqb-true, eq-eqb, eqb-false}
use Rattle.std.specs.List.{flat_map}
use Rattle.std.specs.Int.{w16, w32, to_be_bytes, cast_unsigned}
use Rattle.rcp_model.specs.LinkState.{RouterLsa}
use Rattle.rcp_model.specs.RouterLsas.{weighted, has_zero_sums, summed}
use Rattle.lsa_reader.specs.Writing.{link_octets, written_len, octets_with, Spells}
use Rattle.lsa_reader.proofs.Sums.{sum-append, sum-cons, weighted-append}
use Rattle.feed_make.specs.Checksums.{nonzero, high_of, low_of, summed_of, lsa_octets}

-- ---- octets from 1 to 255 by their remainders

nonzero_is : (octet remainder : ℕ) → 0 < octet → octet < 256 → octet % 255 ≡ remainder → octet ≡ nonzero remainder
nonzero_is octet remainder some most is = at_test (remainder == 0) refl where
  at_test : (b : Bool) → (remainder == 0) ≡ b → octet ≡ cond b 255 remainder
  at_test true zero = let none : remainder ≡ 0 = eqb-true remainder 0 zero in omega arith
  at_test false other = let above : remainder ≡ 0 → ⊥ = eqb-false remainder 0 other in omega arith

nonzero_range : (remainder : ℕ) → remainder < 255 → (0 < nonzero remainder) × (nonzero remainder < 256) × (nonzero remainder % 255 ≡ remainder)
nonzero_range remainder below = at_test (remainder == 0) refl where
  at_test : (b : Bool) → (remainder == 0) ≡ b → (0 < cond b 255 remainder) × (cond b 255 remainder < 256) × (cond b 255 remainder % 255 ≡ remainder)
  at_test true zero = let none : remainder ≡ 0 = eqb-true remainder 0 zero in (omega arith, omega arith, omega arith)
  at_test false other = let above : remainder ≡ 0 → ⊥ = eqb-false remainder 0 other in (omega arith, omega arith, omega arith)

-- ---- the octets that are summed, before the checksum and after it

abbrev before_checksum : RouterLsa → List ℕ
before_checksum lsa =
    (2 ∷ 1 ∷ []) ++ to_be_bytes w32 lsa.key ++ to_be_bytes w32 lsa.key ++ to_be_bytes w32 (cast_unsigned w32 lsa.header.sequence)

abbrev after_checksum : RouterLsa → List ℕ
after_checksum lsa =
    to_be_bytes w16 (written_len lsa) ++ (0 ∷ 0 ∷ []) ++ to_be_bytes w16 (length lsa.content) ++ flat_map link_octets lsa.content

summed_parts : (high low : ℕ) (lsa : RouterLsa) → summed (octets_with high low lsa) ≡ before_checksum lsa ++ (high ∷ low ∷ after_checksum lsa)
summed_parts high low lsa = refl

-- ---- the two octets that make both sums 0

module _ (before after : List ℕ) (long : length before ≡ 14) (high low : ℕ) where
  zeros : List ℕ
  zeros = before ++ (0 ∷ 0 ∷ after)

  sum-parts : sum (before ++ (high ∷ low ∷ after)) ≡ sum (before ++ (0 ∷ 0 ∷ after)) + (high + low)
  sum-parts =
      omega (
        arith,
        sum-append before (high ∷ low ∷ after),
        sum-append before (0 ∷ 0 ∷ after),
        sum-cons high (low ∷ after),
        sum-cons low after,
        sum-cons 0 (0 ∷ after),
        sum-cons 0 after,
      )

  weighted-parts : weighted (before ++ (high ∷ low ∷ after)) ≡ weighted (before ++ (0 ∷ 0 ∷ after)) + ((length after + 2) * high + (length after + 1) * low)
  weighted-parts =
      let a = weighted-append before (high ∷ low ∷ after) in
      let b = weighted-append before (0 ∷ 0 ∷ after) in
      let two : length (high ∷ low ∷ after) * high ≡ (length after + 2) * high = ap (λ n. n * high) (omega arith) in
      let one : length (low ∷ after) * low ≡ (length after + 1) * low = ap (λ n. n * low) (omega arith) in
      omega (arith, a, b, two, one)

  ahead : length (before ++ (0 ∷ 0 ∷ after)) - 15 ≡ length after + 1
  ahead = omega (arith, length-append before (0 ∷ 0 ∷ after), long)

-- of octets whose sums are 0 with these two among them, the first is known, and then the second
first_octet : (s w k high low : ℕ) → (s + (high + low)) % 255 ≡ 0 → (w + ((k + 1) * high + k * low)) % 255 ≡ 0
    → high % 255 ≡ (k * (s % 255) + (255 - w % 255)) % 255
first_octet s w k high low first second =
    let t = (s + (high + low)) / 255 in
    let q = s / 255 in
    let all : s + (high + low) ≡ 255 * t = omega arith in
    let split : s ≡ 255 * q + s % 255 = omega arith in
    let times : k * (s + (high + low)) ≡ k * (255 * t) = ap (λ n. k * n) all in
    let parts : k * s ≡ k * (255 * q + s % 255) = ap (λ n. k * n) split in
    omega arith

second_octet : (s high low : ℕ) → high < 256 → (s + (high + low)) % 255 ≡ 0 → low % 255 ≡ (510 - s % 255 - high) % 255
second_octet s high low most first = omega arith

-- the other way
first_zero : (s high low : ℕ) → high < 256 → low % 255 ≡ (510 - s % 255 - high) % 255 → (s + (high + low)) % 255 ≡ 0
first_zero s high low most is = omega arith

second_zero : (s w k high low : ℕ) → (s + (high + low)) % 255 ≡ 0 → high % 255 ≡ (k * (s % 255) + (255 - w % 255)) % 255
    → (w + ((k + 1) * high + k * low)) % 255 ≡ 0
second_zero s w k high low first is =
    let t = (s + (high + low)) / 255 in
    let q = s / 255 in
    let all : s + (high + low) ≡ 255 * t = omega arith in
    let split : s ≡ 255 * q + s % 255 = omega arith in
    let times : k * (s + (high + low)) ≡ k * (255 * t) = ap (λ n. k * n) all in
    let parts : k * s ≡ k * (255 * q + s % 255) = ap (λ n. k * n) split in
    omega arith

module _ (lsa : RouterLsa) where
  before : List ℕ
  before = before_checksum lsa

  after : List ℕ
  after = after_checksum lsa

  -- what is written is the closed form
  pub spelled_once : (octets : List ℕ) → Spells lsa octets → octets ≡ lsa_octets lsa
  unfolding high_of low_of lsa_octets
  spelled_once octets spells =
      let high = spells.high in
      let low = spells.low in
      let parts : summed octets ≡ before_checksum lsa ++ (high ∷ low ∷ after_checksum lsa) = ap summed spells.spelled ∙ summed_parts high low lsa in
      let zero = and_parts _ _ (sym (ap has_zero_sums parts) ∙ spells.sums) in
      let first = eqb-true _ _ zero.0 in
      let second = eqb-true _ _ zero.1 in
      let s = sum (summed_of lsa) in
      let w = weighted (summed_of lsa) in
      let k = length (after_checksum lsa) + 1 in
      let sums : (s + (high + low)) % 255 ≡ 0 = ap (λ n. n % 255) (sym (sum-parts (before_checksum lsa) (after_checksum lsa) refl high low)) ∙ first in
      let weights : (w + ((k + 1) * high + k * low)) % 255 ≡ 0 =
      ap (λ n. (w + (n * high + k * low)) % 255) (omega arith)
      ∙ ap (λ n. n % 255) (sym (weighted-parts (before_checksum lsa) (after_checksum lsa) refl high low)) ∙ second in
      let ahead_is = ahead (before_checksum lsa) (after_checksum lsa) refl high low in
      let is_high : high ≡ high_of (summed_of lsa) =
      nonzero_is high _ spells.high_range.0 spells.high_range.1
      (first_octet s w k high low sums weights ∙ ap (λ n. (n * (s % 255) + (255 - w % 255)) % 255) (sym ahead_is)) in
      let is_low : low ≡ low_of (summed_of lsa) =
      nonzero_is low _ spells.low_range.0 spells.low_range.1
      (second_octet s high low spells.high_range.1 sums ∙ ap (λ n. (510 - s % 255 - n) % 255) is_high) in
      spells.spelled ∙ (λ i. octets_with (is_high i) (is_low i) lsa)

  -- and the closed form is a spelling
  pub closed_spells : Spells lsa (lsa_octets lsa)
  unfolding high_of low_of lsa_octets
  closed_spells =
      let s = sum (summed_of lsa) in
      let w = weighted (summed_of lsa) in
      let k = length (after_checksum lsa) + 1 in
      let high = high_of (summed_of lsa) in
      let low = low_of (summed_of lsa) in
      let high_is = nonzero_range (((length (summed_of lsa) - 15) * (s % 255) + (255 - w % 255)) % 255) (omega arith) in
      let low_is = nonzero_range ((510 - s % 255 - high) % 255) (omega arith) in
      let ahead_is = ahead (before_checksum lsa) (after_checksum lsa) refl high low in
      let sums = first_zero s high low high_is.1 low_is.2 in
      let weights = second_zero s w k high low sums (high_is.2 ∙ ap (λ n. (n * (s % 255) + (255 - w % 255)) % 255) ahead_is) in
      let zero : has_zero_sums (before_checksum lsa ++ (high ∷ low ∷ after_checksum lsa)) ≡ true =
      and_from _ _
      (eq-eqb _ _ (ap (λ n. n % 255) (sum-parts (before_checksum lsa) (after_checksum lsa) refl high low) ∙ sums))
      (eq-eqb _ _ (ap (λ n. n % 255) (weighted-parts (before_checksum lsa) (after_checksum lsa) refl high low)
      ∙ ap (λ n. (w + (n * high + k * low)) % 255) (omega arith) ∙ weights)) in
      record {
        high = high;
        low = low;
        high_range = (high_is.0, high_is.1);
        low_range = (low_is.0, low_is.1);
        spelled = refl;
        sums = ap has_zero_sums (summed_parts high low lsa) ∙ zero;
      }
