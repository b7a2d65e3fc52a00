-- The two sums of a checksum, octet by octet.
use Rattle.std.proofs.Common.{◌≡◌, ◌++◌, ◌+◌, ◌*◌, ◌%◌, ◌/◌, ◌-◌, ◌<◌, ◌∙◌, ◌∷◌, [], ℕ, List, length, take, get_or, sum, ap, sym, arith, length-append}
use Rattle.std.proofs.lemmas.List.{take_more}
use Rattle.std.proofs.lemmas.List.Sums.{sum_by-append}
use Rattle.rcp_model.specs.RouterLsas.{weighted}

pub sum-append : (xs ys : List ℕ) → sum (xs ++ ys) ≡ sum xs + sum ys
sum-append xs ys = sum_by-append (λ x. x) xs ys

pub sum-cons : (x : ℕ) (xs : List ℕ) → sum (x ∷ xs) ≡ x + sum xs
sum-cons x xs = omega (arith, sum-append (x ∷ []) xs)

-- what parts of a list add to the sums
pub weighted-append : (xs ys : List ℕ) → weighted (xs ++ ys) ≡ weighted xs + (length ys * sum xs + weighted ys)
weighted-append [] ys = omega arith
weighted-append (x ∷ xs) ys =
    let longer : length (x ∷ (xs ++ ys)) * x ≡ (length (x ∷ xs) + length ys) * x = ap (λ n. n * x) (omega (arith, length-append xs ys)) in
    let larger : length ys * sum (x ∷ xs) ≡ length ys * (x + sum xs) = ap (λ n. length ys * n) (sum-cons x xs) in
    omega (arith, weighted-append xs ys)

-- one octet more
pub sums_more : (xs : List ℕ) (i x first second : ℕ) → i < length xs → x ≡ get_or xs i 0 →
    first ≡ sum (take i xs) % 255 → second ≡ weighted (take i xs) % 255 →
    ((first + x) % 255 ≡ sum (take (i + 1) xs) % 255) × ((second + (first + x) % 255) % 255 ≡ weighted (take (i + 1) xs) % 255)
sums_more xs i x first second less is_x is_first is_second =
    let more : take (i + 1) xs ≡ take i xs ++ x ∷ [] = take_more xs i 0 less ∙ ap (λ y. take i xs ++ y ∷ []) (sym is_x) in
    let s : sum (take (i + 1) xs) ≡ sum (take i xs) + x = ap sum more ∙ sum-append (take i xs) (x ∷ []) ∙ omega (arith, sum-cons x []) in
    let w : weighted (take (i + 1) xs) ≡ weighted (take i xs) + (sum (take i xs) + x) = ap weighted more ∙ weighted-append (take i xs) (x ∷ []) ∙ omega arith in
    (omega arith, omega arith)

-- ---- the two octets that make both sums 0

pub second_zero : (s w k first second high low : ℕ) → first ≡ s % 255 → second ≡ w % 255 →
    high % 255 ≡ (k * first + (255 - second)) % 255 → (first + (high + low)) % 255 ≡ 0 → (w + ((k + 1) * high + k * low)) % 255 ≡ 0
second_zero s w k first second high low is_first is_second is_high both =
    let t = (first + (high + low)) / 255 in
    let all : first + (high + low) ≡ 255 * t = omega arith in
    let times : k * (first + (high + low)) ≡ k * (255 * t) = ap (λ n. k * n) all in
    omega arith
