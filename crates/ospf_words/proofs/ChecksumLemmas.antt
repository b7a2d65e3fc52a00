-- The sum of numbers of two octets, taken from the front, and the sums of an LSA with its checksum.
use Rattle.std.proofs.Common.{◌≡◌, ◌+◌, ◌-◌, ◌*◌, ◌/◌, ◌%◌, ◌<◌, ◌≤◌, ◌∷◌, [], ◌++◌, ℕ, List, length, length-append, take, drop, get_or, sum, ap, sym, ◌∙◌, arith, refl, true}
use Rattle.std.proofs.lemmas.List.{take_rest, append_assoc}
use Rattle.rcp_model.specs.RouterLsas.{weighted, has_zero_sums}
use Rattle.lsa_reader.proofs.Sums.{sum-append, sum-cons, weighted-append, second_zero}
use Rattle.ospf_words.specs.Checksums.{nonzero, high_of, low_of, lsa_checksum, sum_of_pairs}

pub pair_off : (xs : List ℕ) → 2 ≤ length xs → sum_of_pairs xs ≡ 256 * get_or xs 0 0 + get_or xs 1 0 + sum_of_pairs (take (length xs - 2) (drop 2 xs))
unfolding sum_of_pairs
pair_off [] some = absurd (omega arith)
pair_off (x ∷ []) some = absurd (omega arith)
pair_off (x ∷ y ∷ xs) some = ap (λ (rest : List ℕ). 256 * x + y + sum_of_pairs rest) (sym (take_rest (x ∷ y ∷ xs) 2))

pub last_octet : (xs : List ℕ) → 1 ≤ length xs → length xs < 2 → sum_of_pairs xs ≡ 256 * get_or xs 0 0
unfolding sum_of_pairs
last_octet [] some few = absurd (omega arith)
last_octet (x ∷ []) some few = refl
last_octet (x ∷ y ∷ xs) some few = absurd (omega arith)

pub no_octet : (xs : List ℕ) → length xs < 1 → sum_of_pairs xs ≡ 0
unfolding sum_of_pairs
no_octet [] few = refl
no_octet (x ∷ xs) few = absurd (omega arith)

-- ---- both sums are 0 with the checksum in its place

remainder_times : (k f c : ℕ) → (k % 255 * f + c) % 255 ≡ (k * f + c) % 255
remainder_times k f c =
    let parts : k ≡ 255 * (k / 255) + k % 255 = omega arith in
    let times : k * f ≡ (255 * (k / 255) + k % 255) * f = ap (λ (n : ℕ). n * f) parts in
    omega arith

same_remainder : (r : ℕ) → r < 255 → nonzero r % 255 ≡ r
same_remainder r less = grind arith

at_most : (r : ℕ) → r < 255 → nonzero r ≤ 255
at_most r less = grind arith

pub both_zero : (s w k high low : ℕ) → high ≡ nonzero ((k % 255 * (s % 255) + (255 - w % 255)) % 255) → low ≡ nonzero ((510 - s % 255 - high) % 255)
    → ((s + (high + low)) % 255 ≡ 0) × ((w + ((k + 1) * high + k * low)) % 255 ≡ 0)
both_zero s w k high low is_high is_low =
    let h : high % 255 ≡ (k * (s % 255) + (255 - w % 255)) % 255 =
    ap (λ (n : ℕ). n % 255) is_high ∙ same_remainder _ (omega arith) ∙ remainder_times k (s % 255) (255 - w % 255) in
    let few : high ≤ 255 = rw is_high (at_most ((k % 255 * (s % 255) + (255 - w % 255)) % 255) (omega arith)) in
    let l : low % 255 ≡ (510 - s % 255 - high) % 255 = ap (λ (n : ℕ). n % 255) is_low ∙ same_remainder _ (omega arith) in
    let both : (s % 255 + (high + low)) % 255 ≡ 0 = omega arith in
    (omega arith, second_zero s w k (s % 255) (w % 255) high low refl refl h both)

zero_sums : (xs : List ℕ) → sum xs % 255 ≡ 0 → weighted xs % 255 ≡ 0 → has_zero_sums xs ≡ true
zero_sums xs first second = rw (first, second) refl

pub verified : (before after : List ℕ) → length before ≡ 14 → has_zero_sums (before ++ lsa_checksum (before ++ 0 ∷ 0 ∷ after) ++ after) ≡ true
unfolding lsa_checksum
verified before after fourteen =
    let summed = before ++ 0 ∷ 0 ∷ after in
    let high = high_of summed in
    let low = low_of summed in
    let k = length summed - 15 in
    let len : length summed ≡ 16 + length after = length-append before (0 ∷ 0 ∷ after) ∙ omega arith in
    let zero = both_zero (sum summed) (weighted summed) k high low refl refl in
    let s : sum (before ++ high ∷ low ∷ after) ≡ sum summed + (high + low) =
    sum-append before (high ∷ low ∷ after) ∙ omega (arith, sum-append before (0 ∷ 0 ∷ after), sum-cons 0 (0 ∷ after), sum-cons 0 after, sum-cons high (low ∷ after), sum-cons low after) in
    let high_times : (length after + 2) * high ≡ (k + 1) * high = ap (λ (n : ℕ). n * high) (omega arith) in
    let low_times : (length after + 1) * low ≡ k * low = ap (λ (n : ℕ). n * low) (omega arith) in
    let w : weighted (before ++ high ∷ low ∷ after) ≡ weighted summed + ((k + 1) * high + k * low) =
    weighted-append before (high ∷ low ∷ after) ∙ omega (arith, weighted-append before (0 ∷ 0 ∷ after)) in
    let first : sum (before ++ high ∷ low ∷ after) % 255 ≡ 0 = ap (λ (n : ℕ). n % 255) s ∙ zero.0 in
    let second : weighted (before ++ high ∷ low ∷ after) % 255 ≡ 0 = ap (λ (n : ℕ). n % 255) w ∙ zero.1 in
    ap (λ (octets : List ℕ). has_zero_sums octets) (append_assoc before (high ∷ low ∷ []) after) ∙ zero_sums (before ++ high ∷ low ∷ after) first second
