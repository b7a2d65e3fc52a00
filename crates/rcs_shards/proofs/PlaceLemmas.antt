-- Lists of shards by their places.
use Rattle.std.proofs.Common.{◌≡◌, ℕ, zero, suc, ◌<◌, ◌⊎◌, List, [], ◌∷◌, length, map, Option, Some, None, refl, sym, ap, ◌∙◌, inl, inr, arith}
use Rattle.std.proofs.Math.ListN.{set}
use Rattle.std.specs.Prelude.{slice_get, option_map}
use Rattle.std.proofs.lemmas.Option.{slice_get-map}

module _ {S T : Type 0} (f : S → T) where
  mapped : (o : Option S) (y : T) → option_map f o ≡ Some y → (x : S) × (o ≡ Some x) × (f x ≡ y)
  mapped None y is = absurd cc
  mapped (Some x) y is = let same : f x ≡ y = cc in (x, refl, same)

  -- what stands at a place of a mapped list is mapped from what stands there
  pub found-map : (xs : List S) (n : ℕ) (y : T) → slice_get (map f xs) n ≡ Some y → (x : S) × (slice_get xs n ≡ Some x) × (f x ≡ y)
  found-map xs n y is = mapped (slice_get xs n) y (sym (slice_get-map f xs n) ∙ is)

  pub map-found : (xs : List S) (n : ℕ) (x : S) → slice_get xs n ≡ Some x → slice_get (map f xs) n ≡ Some (f x)
  map-found xs n x is = slice_get-map f xs n ∙ ap (option_map f) is

module _ {S : Type 0} where
  pub same_found : {o : Option S} (x y : S) → o ≡ Some x → o ≡ Some y → x ≡ y
  same_found {o} x y a b = same (sym a ∙ b) where
    same : Some x ≡ Some y → x ≡ y
    same e = cc

  -- what stands at a place after a write is what was written, or stood there before
  pub found-set : (xs : List S) (k n : ℕ) (x y : S) → slice_get (set xs k x) n ≡ Some y → ((n ≡ k) × (x ≡ y)) ⊎ ((n ≡ k → ⊥) × (slice_get xs n ≡ Some y))
  found-set [] k n x y is = absurd cc
  found-set (z ∷ xs) zero zero x y is = let same : x ≡ y = cc in inl (refl, same)
  found-set (z ∷ xs) zero (suc n) x y is = inr (λ e. omega (arith, e), is)
  found-set (z ∷ xs) (suc k) zero x y is = inr (λ e. omega (arith, e), is)
  found-set (z ∷ xs) (suc k) (suc n) x y is = elim (found-set xs k n x y is) [
    | inl at ↦ inl (ap suc at.0, at.1)
    | inr other ↦ inr (λ e. other.0 (omega (arith, e)), other.1)
  ]

  pub set-found : (xs : List S) (k : ℕ) (x : S) → k < length xs → slice_get (set xs k x) k ≡ Some x
  set-found [] k x low = absurd (omega (arith, low))
  set-found (z ∷ xs) zero x low = refl
  set-found (z ∷ xs) (suc k) x low = set-found xs k x (omega (arith, low))

  pub set-others : (xs : List S) (k n : ℕ) (x : S) → (n ≡ k → ⊥) → slice_get (set xs k x) n ≡ slice_get xs n
  set-others [] k n x other = refl
  set-others (z ∷ xs) zero zero x other = absurd (other refl)
  set-others (z ∷ xs) zero (suc n) x other = refl
  set-others (z ∷ xs) (suc k) zero x other = refl
  set-others (z ∷ xs) (suc k) (suc n) x other = set-others xs k n x (λ e. other (ap suc e))

  -- lists with the same at each place
  pub same_lists : (xs ys : List S) → length xs ≡ length ys → ((n : ℕ) (x : S) → slice_get xs n ≡ Some x → slice_get ys n ≡ Some x) → xs ≡ ys
  same_lists [] [] long same = refl
  same_lists [] (y ∷ ys) long same = absurd (omega (arith, long))
  same_lists (x ∷ xs) [] long same = absurd (omega (arith, long))
  same_lists (x ∷ xs) (y ∷ ys) long same =
      let first : y ≡ x = same_found {o = Some y} y x refl (same 0 x refl) in
      λ i. sym first i ∷ same_lists xs ys (omega (arith, long)) (λ n z is. same (suc n) z is) i

module _ {S T : Type 0} (f : S → T) where
  pub map_over_map : {U : Type 0} (g : T → U) (xs : List S) → map g (map f xs) ≡ map (λ x. g (f x)) xs
  map_over_map g [] = refl
  map_over_map g (x ∷ xs) = ap (λ l. g (f x) ∷ l) (map_over_map g xs)

  -- maps that agree at each place
  pub map-each : (g : S → T) (xs : List S) → ((n : ℕ) (x : S) → slice_get xs n ≡ Some x → f x ≡ g x) → map f xs ≡ map g xs
  map-each g [] same = refl
  map-each g (x ∷ xs) same = λ i. same 0 x refl i ∷ map-each g xs (λ n y is. same (suc n) y is) i
