-- A list of which each element is changed in turn, from the first on.
use Rattle.std.proofs.Common.{◌≡◌, ℕ, zero, suc, ◌<◌, ◌≤◌, ◌+◌, List, [], ◌∷◌, ◌++◌, length, map, take, drop, get_or, refl, sym, ap, subst, ◌∙◌, add-one, arith}
use Rattle.std.specs.Prelude.{All}
use Rattle.std.proofs.Math.ListN.{set}

module _ {S : Type 0} (f : S → S) where
  -- the list of which so many first elements are changed
  abbrev pub changed_to : ℕ → List S → List S
  changed_to zero xs = xs
  changed_to (suc n) [] = []
  changed_to (suc n) (x ∷ xs) = f x ∷ changed_to n xs

  pub length-changed : (n : ℕ) (xs : List S) → length (changed_to n xs) ≡ length xs
  length-changed zero xs = refl
  length-changed (suc n) [] = refl
  length-changed (suc n) (x ∷ xs) = ap suc (length-changed n xs)

  pub changed-at : (n : ℕ) (xs : List S) (d : S) → get_or (changed_to n xs) n d ≡ get_or xs n d
  changed-at zero xs d = refl
  changed-at (suc n) [] d = refl
  changed-at (suc n) (x ∷ xs) d = changed-at n xs d

  pub changed-more : (n : ℕ) (xs : List S) (d : S) → n < length xs → set (changed_to n xs) n (f (get_or xs n d)) ≡ changed_to (suc n) xs
  changed-more n [] d low = absurd (omega (arith, low))
  changed-more zero (x ∷ xs) d low = refl
  changed-more (suc n) (x ∷ xs) d low = ap (λ l. f x ∷ l) (changed-more n xs d (omega (arith, low)))

  -- a turn of the loop: the element at its place is changed
  pub changed-turn : (n : ℕ) (xs now : List S) (x new : S) → now ≡ changed_to n xs → n < length xs → x ≡ get_or now n x → new ≡ f x → set now n new ≡ changed_to (n + 1) xs
  changed-turn n xs now x new done low read made =
      let old : x ≡ get_or xs n x = read ∙ ap (λ l. get_or l n x) done ∙ changed-at n xs x in
      (λ i. set (done i) n ((made ∙ ap f old) i))
      ∙ changed-more n xs x low
      ∙ ap (λ k. changed_to k xs) (sym (add-one n))

  -- the element that a turn finds is as it was
  pub changed-read : (n : ℕ) (xs now : List S) (d : S) → now ≡ changed_to n xs → get_or now n d ≡ get_or xs n d
  changed-read n xs now d done = ap (λ l. get_or l n d) done ∙ changed-at n xs d

  pub changed-all : (n : ℕ) (xs : List S) → length xs ≤ n → changed_to n xs ≡ map f xs
  changed-all zero [] all = refl
  changed-all zero (x ∷ xs) all = absurd (omega (arith, all))
  changed-all (suc n) [] all = refl
  changed-all (suc n) (x ∷ xs) all = ap (λ l. f x ∷ l) (changed-all n xs (omega (arith, all)))

  -- each element is changed, in whatever order
  pub changed-each : (xs ys : List S) → length ys ≡ length xs → ((i : ℕ) (d : S) → i < length xs → get_or ys i d ≡ f (get_or xs i d)) → ys ≡ map f xs
  changed-each [] [] long each = refl
  changed-each [] (y ∷ ys) long each = absurd (omega (arith, long))
  changed-each (x ∷ xs) [] long each = absurd (omega (arith, long))
  changed-each (x ∷ xs) (y ∷ ys) long each =
      let first = each 0 x (omega arith) in
      let others = changed-each xs ys (omega (arith, long)) (λ i d low. each (suc i) d (omega (arith, low))) in
      λ k. first k ∷ others k

-- a list that is written back whole
pub written_back : {S : Type 0} (n : ℕ) (xs ys : List S) → n ≡ length xs → length ys ≡ length xs → take n (ys ++ drop (length ys) xs) ≡ ys
written_back zero [] [] is long = refl
written_back (suc n) [] [] is long = refl
written_back n (x ∷ xs) [] is long = absurd (omega (arith, long))
written_back n [] (y ∷ ys) is long = absurd (omega (arith, long))
written_back zero (x ∷ xs) (y ∷ ys) is long = absurd (omega (arith, is))
written_back (suc n) (x ∷ xs) (y ∷ ys) is long = ap (λ l. y ∷ l) (written_back n xs ys (omega (arith, is)) (omega (arith, long)))

-- ---- a last element

module _ {S : Type 0} where
  read-last : (xs : List S) (x : S) → get_or (xs ++ x ∷ []) (length xs) x ≡ x
  read-last [] x = refl
  read-last (y ∷ xs) x = read-last xs x

  read-front : (xs : List S) (x : S) (k : ℕ) (d : S) → k < length xs → get_or (xs ++ x ∷ []) k d ≡ get_or xs k d
  read-front [] x k d low = absurd (omega (arith, low))
  read-front (y ∷ xs) x zero d low = refl
  read-front (y ∷ xs) x (suc k) d low = read-front xs x k d (omega (arith, low))

  pub length-last : (xs : List S) (x : S) → length (xs ++ x ∷ []) ≡ length xs + 1
  length-last [] x = refl
  length-last (y ∷ xs) x = let rest = length-last xs x in omega (arith, rest)

  pub all-last : (P : S → Type 0) (xs : List S) (x : S) → All P (xs ++ x ∷ []) → P x
  all-last P xs x all = let long = length-last xs x in subst P (read-last xs x) (all (length xs) x (omega (arith, long)))

  pub all-front : (P : S → Type 0) (xs : List S) (x : S) → All P (xs ++ x ∷ []) → All P xs
  all-front P xs x all k d low = let long = length-last xs x in subst P (read-front xs x k d low) (all k d (omega (arith, long, low)))
