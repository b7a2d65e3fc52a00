-- Lists over numbers one after another.
use Rattle.std.proofs.Common.{◌≡◌, ℕ, zero, suc, ◌+◌, ◌-◌, ◌<◌, ◌≤◌, List, [], ◌∷◌, ◌++◌, length, get_or, map, refl, sym, ap, ◌∙◌, arith, append_assoc}
use Rattle.std.specs.List.{flat_map, range_with_len}
use Rattle.std.specs.Prelude.{All}
use Rattle.std.proofs.lemmas.List.FromFn.{length-range_with_len, get_or-range_with_len, get_or-map-range_with_len, length-map-range_with_len, map-range_with_len_more, fill_by_all}
use Rattle.feed_make.specs.Numbers.{numbers_from}
use Rattle.std.proofs.lemmas.Grind.{flat_map-append}
use Rattle.std.proofs.lemmas.List.{append-nil}

range-split : (a i rest : ℕ) → range_with_len a (i + rest) ≡ range_with_len a i ++ range_with_len (a + i) rest
range-split a zero rest =
    let none : 0 + rest ≡ rest = omega arith in
    let same : a ≡ a + 0 = omega arith in
    ap (range_with_len a) none ∙ ap (λ n. range_with_len n rest) same
range-split a (suc i) rest =
    let more : suc i + rest ≡ suc (i + rest) = omega arith in
    let next : a + 1 + i ≡ a + suc i = omega arith in
    ap (range_with_len a) more
    ∙ ap (λ (xs : List ℕ). a ∷ xs) (range-split (a + 1) i rest ∙ ap (λ n. range_with_len (a + 1) i ++ range_with_len n rest) next)

pub numbers-none : (a : ℕ) → numbers_from a 0 ≡ []
unfolding numbers_from
numbers-none a = refl

pub numbers-split : (a i rest : ℕ) → numbers_from a (i + rest) ≡ numbers_from a i ++ numbers_from (a + i) rest
unfolding numbers_from
numbers-split a i rest = range-split a i rest

pub numbers-cons : (a n : ℕ) → numbers_from a (suc n) ≡ a ∷ numbers_from (a + 1) n
unfolding numbers_from
numbers-cons a n = refl

pub length-numbers : (a n : ℕ) → length (numbers_from a n) ≡ n
unfolding numbers_from
length-numbers a n = length-range_with_len a n

module _ {X : Type 0} (f : ℕ → X) where
  pub length-map-numbers : (a n : ℕ) → length (map f (numbers_from a n)) ≡ n
  unfolding numbers_from
  length-map-numbers a n = length-map-range_with_len f a n

  pub get_or-map-numbers : (a n i j : ℕ) (d : X) → i < n → a + i ≡ j → get_or (map f (numbers_from a n)) i d ≡ f j
  unfolding numbers_from
  get_or-map-numbers a n i j d less is = get_or-map-range_with_len f a n i j d less is

  pub map-numbers_more : (a n j : ℕ) → a + n ≡ j → map f (numbers_from a (n + 1)) ≡ map f (numbers_from a n) ++ f j ∷ []
  unfolding numbers_from
  map-numbers_more a n j is = map-range_with_len_more f a n j is

  pub filled_by_all : (xs : List X) (n : ℕ) (d : X) → length xs ≡ n → ((k : ℕ) → k < n → get_or xs k d ≡ f k) → xs ≡ map f (numbers_from 0 n)
  unfolding numbers_from
  filled_by_all xs n d long each = fill_by_all f xs n d long each

module _ (f : ℕ → List ℕ) where
  -- one more at the end
  pub range-more : (i : ℕ) → flat_map f (numbers_from 0 (i + 1)) ≡ flat_map f (numbers_from 0 i) ++ f i
  range-more i =
      let first : 0 + i ≡ i = omega arith in
      ap (flat_map f) (numbers-split 0 i 1 ∙ ap (λ (xs : List ℕ). numbers_from 0 i ++ xs) (numbers-cons (0 + i) 0 ∙ ap (λ (xs : List ℕ). (0 + i) ∷ xs) (numbers-none (0 + i + 1))))
      ∙ flat_map-append f (numbers_from 0 i) ((0 + i) ∷ [])
      ∙ ap (λ (xs : List ℕ). flat_map f (numbers_from 0 i) ++ xs) (append-nil (f (0 + i)) ∙ ap f first)

  -- those before one, it, and those after it
  pub range-at : (i n : ℕ) → i < n → flat_map f (numbers_from 0 n) ≡ flat_map f (numbers_from 0 i) ++ (f i ++ flat_map f (numbers_from (i + 1) (n - i - 1)))
  range-at i n less =
      let all : n ≡ i + suc (n - i - 1) = omega arith in
      let first : 0 + i ≡ i = omega arith in
      ap (λ k. flat_map f (numbers_from 0 k)) all
      ∙ ap (flat_map f) (numbers-split 0 i (suc (n - i - 1)) ∙ ap (λ (xs : List ℕ). numbers_from 0 i ++ xs) (numbers-cons (0 + i) (n - i - 1)))
      ∙ flat_map-append f (numbers_from 0 i) ((0 + i) ∷ numbers_from (0 + i + 1) (n - i - 1))
      ∙ ap (λ k. flat_map f (numbers_from 0 i) ++ (f k ++ flat_map f (numbers_from (k + 1) (n - i - 1)))) first

-- octets of lists of records
pub flat_map-flat_map : {X Y : Type 0} (g : Y → List ℕ) (f : X → List Y) (xs : List X) → flat_map g (flat_map f xs) ≡ flat_map (λ x. flat_map g (f x)) xs
flat_map-flat_map g f [] = refl
flat_map-flat_map g f (x ∷ xs) = flat_map-append g (f x) (flat_map f xs) ∙ ap (λ (ys : List ℕ). flat_map g (f x) ++ ys) (flat_map-flat_map g f xs)

-- each of them from a number on
pub numbers-shift : (a b n : ℕ) → map (λ k. a + k) (numbers_from b n) ≡ numbers_from (a + b) n
unfolding numbers_from
numbers-shift a b zero = refl
numbers-shift a b (suc n) =
    let next : a + (b + 1) ≡ a + b + 1 = omega arith in
    ap (λ (xs : List ℕ). (a + b) ∷ xs) (numbers-shift a (b + 1) n ∙ ap (λ c. range_with_len c n) next)

pub flat_map-map : {X Y : Type 0} (g : Y → List ℕ) (f : X → Y) (xs : List X) → flat_map g (map f xs) ≡ flat_map (λ x. g (f x)) xs
flat_map-map g f [] = refl
flat_map-map g f (x ∷ xs) = ap (λ (ys : List ℕ). g (f x) ++ ys) (flat_map-map g f xs)

pub numbers-below : (a n most : ℕ) → a + n ≤ most → All (λ r. r < most) (numbers_from a n)
unfolding numbers_from
numbers-below a n most within i d low =
    let long = length-range_with_len a n in
    let is : get_or (range_with_len a n) i d ≡ a + i = get_or-range_with_len a n i d (omega arith) in
    omega arith
