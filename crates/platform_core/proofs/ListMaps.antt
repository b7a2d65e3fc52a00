-- A list whose entries are those of a map: what is found at a key, put there, and taken away.
use Rattle.std.proofs.Common.{◌≡◌, ℕ, zero, suc, ◌+◌, ◌<◌, ◌≤◌, Bool, true, false, List, [], ◌∷◌, ◌++◌, length, map, filter, get_or, take, drop, Option, Some, None, refl, sym, ap, ◌∙◌, inl, inr, arith}
use Rattle.std.specs.Prelude.{is_some}
use Rattle.std.specs.List.{list_any, position, position_from, remove, AllByRecursion}
use Rattle.std.proofs.Math.ListN.{set}
use Rattle.std.proofs.lemmas.Bool.{cases_Bool, or_parts}
use Rattle.std.proofs.lemmas.Iterator.Adapters.{position_from-zero}
use Rattle.std.proofs.lemmas.List.Quantifiers.{position-Some}
use Rattle.rcp_base.specs.Maps.{get_at, put_at, without}
use Rattle.rcp_base.proofs.MapLemmas.{IsKeyTest}

-- ---- the first place where a test passes

unfoldable pub IsPlace : {X : Type 0} → (X → Bool) → List X → ℕ → Type 0
IsPlace p [] i = ⊥
IsPlace p (x ∷ xs) zero = p x ≡ true
IsPlace p (x ∷ xs) (suc i) = (p x ≡ false) × IsPlace p xs i

first_place : {X : Type 0} (p : X → Bool) (xs : List X) (i : ℕ) (d : X) → i < length xs → p (get_or xs i d) ≡ true → ((k : ℕ) → k < i → p (get_or xs k d) ≡ false) → IsPlace p xs i
unfolding IsPlace
first_place p [] i d within passes below = omega arith
first_place p (x ∷ xs) zero d within passes below = passes
first_place p (x ∷ xs) (suc i) d within passes below =
    (below 0 (omega arith), first_place p xs i d (omega arith) passes (λ k h. below (suc k) (omega arith)))

pub place_is : {X : Type 0} (p : X → Bool) (xs : List X) (i : ℕ) → position p xs ≡ Some i → IsPlace p xs i
place_is p [] i is = absurd cc
place_is p (x ∷ xs) i is = let at = position-Some p (x ∷ xs) i x is in first_place p (x ∷ xs) i x at.0 at.1 at.2

none_from : {X : Type 0} (p : X → Bool) (xs : List X) (i : ℕ) → position_from p i xs ≡ None → list_any p xs ≡ false
none_from p [] i none = refl
none_from p (x ∷ xs) i none =
    elim (cases_Bool (p x)) [
      | inl e ↦ let no : Some i ≡ None = rw e at none in absurd cc
      | inr e ↦ rw e (none_from p xs (i + 1) (rw e at none))
    ]

pub no_place : {X : Type 0} (p : X → Bool) (xs : List X) → position p xs ≡ None → list_any p xs ≡ false
no_place p xs none = none_from p xs 0 (sym (position_from-zero p xs) ∙ none)

-- ---- entries

pub get_found : {X K V : Type 0} (same : K → K → Bool) (f : X → K × V) (key : K) (xs : List X) (i : ℕ) (d : X) → IsPlace (λ x. same key (f x).0) xs i
    → get_at same key (map f xs) ≡ Some (f (get_or xs i d)).1
unfolding IsPlace
get_found same f key [] i d h = absurd h
get_found same f key (x ∷ xs) zero d h = rw h refl
get_found same f key (x ∷ xs) (suc i) d h = rw h.0 (get_found same f key xs i d h.1)

key_found : {X K V : Type 0} (same : K → K → Bool) (f : X → K × V) (key : K) (xs : List X) (i : ℕ) (d : X) → IsPlace (λ x. same key (f x).0) xs i
    → same key (f (get_or xs i d)).0 ≡ true
unfolding IsPlace
key_found same f key [] i d h = absurd h
key_found same f key (x ∷ xs) zero d h = h
key_found same f key (x ∷ xs) (suc i) d h = key_found same f key xs i d h.1

pub put_found : {X K V : Type 0} (same : K → K → Bool) (f : X → K × V) (key : K) (value : V) (xs : List X) (i : ℕ) (y : X) → IsPlace (λ x. same key (f x).0) xs i → f y ≡ (key, value)
    → map f (set xs i y) ≡ put_at same key value (map f xs)
unfolding IsPlace
put_found same f key value [] i y h is = absurd h
put_found same f key value (x ∷ xs) zero y h is = rw h (ap (λ e. e ∷ map f xs) is)
put_found same f key value (x ∷ xs) (suc i) y h is = rw h.0 (ap (λ l. f x ∷ l) (put_found same f key value xs i y h.1 is))

get_none : {X K V : Type 0} (same : K → K → Bool) (f : X → K × V) (key : K) (xs : List X) → list_any (λ x. same key (f x).0) xs ≡ false → get_at same key (map f xs) ≡ None
get_none same f key [] none = refl
get_none same f key (x ∷ xs) none =
    let parts = or_parts (same key (f x).0) (list_any (λ x. same key (f x).0) xs) none in rw parts.0 (get_none same f key xs parts.1)

put_none : {X K V : Type 0} (same : K → K → Bool) (f : X → K × V) (key : K) (value : V) (xs : List X) (y : X) → list_any (λ x. same key (f x).0) xs ≡ false → f y ≡ (key, value)
    → map f (xs ++ y ∷ []) ≡ put_at same key value (map f xs)
put_none same f key value [] y none is = ap (λ e. e ∷ []) is
put_none same f key value (x ∷ xs) y none is =
    let parts = or_parts (same key (f x).0) (list_any (λ x. same key (f x).0) xs) none in
    rw parts.0 (ap (λ l. f x ∷ l) (put_none same f key value xs y parts.1 is))

pub without_found : {X K V : Type 0} (same : K → K → Bool) (f : X → K × V) (key : K) (xs : List X) (i : ℕ) → IsPlace (λ x. same key (f x).0) xs i
    → without (same key) (map f (remove xs i)) ≡ without (same key) (map f xs)
unfolding IsPlace
without_found same f key [] i h = absurd h
without_found same f key (x ∷ xs) zero h = rw h refl
without_found same f key (x ∷ xs) (suc i) h = rw h.0 (ap (λ l. f x ∷ l) (without_found same f key xs i h.1))

without_none : {X K V : Type 0} (same : K → K → Bool) (f : X → K × V) (key : K) (xs : List X) → list_any (λ x. same key (f x).0) xs ≡ false → without (same key) (map f xs) ≡ map f xs
without_none same f key [] none = refl
without_none same f key (x ∷ xs) none =
    let parts = or_parts (same key (f x).0) (list_any (λ x. same key (f x).0) xs) none in
    rw parts.0 (ap (λ l. f x ∷ l) (without_none same f key xs parts.1))

-- ---- what the code knows after a search for the key

module _ {X K V : Type 0} (same : K → K → Bool) (test : IsKeyTest same) (f : X → K × V) (key : K) (xs zs : List X) (read : zs ≡ xs) where
  absent : None ≡ position (λ x. same key (f x).0) zs → list_any (λ x. same key (f x).0) xs ≡ false
  absent none = no_place (λ x. same key (f x).0) xs (ap (position (λ x. same key (f x).0)) (sym read) ∙ sym none)

  present : (i : ℕ) → Some i ≡ position (λ x. same key (f x).0) zs → IsPlace (λ x. same key (f x).0) xs i
  present i some = place_is (λ x. same key (f x).0) xs i (ap (position (λ x. same key (f x).0)) (sym read) ∙ sym some)

  pub nothing_there : None ≡ position (λ x. same key (f x).0) zs → get_at same key (map f xs) ≡ None
  nothing_there none = get_none same f key xs (absent none)

  pub there : (i : ℕ) (old : X) → Some i ≡ position (λ x. same key (f x).0) zs → old ≡ get_or xs i old → get_at same key (map f xs) ≡ Some (f old).1
  there i old some is = get_found same f key xs i old (present i some) ∙ ap (λ (x : X). Some (f x).1) (sym is)

  pub pushed : (value : V) (ys : List X) (y : X) → None ≡ position (λ x. same key (f x).0) zs → ys ≡ xs ++ y ∷ [] → f y ≡ (key, value) → map f ys ≡ put_at same key value (map f xs)
  pushed value ys y none more is = ap (map f) more ∙ put_none same f key value xs y (absent none) is

  pub replaced : (value : V) (i : ℕ) (old y : X) → Some i ≡ position (λ x. same key (f x).0) zs → old ≡ get_or xs i old → f y ≡ ((f old).0, value)
      → map f (set xs i y) ≡ put_at same key value (map f xs)
  replaced value i old y some is new =
      let place = present i some in
      let key_is : key ≡ (f old).0 = test.sound key (f old).0 (ap (λ (x : X). same key (f x).0) is ∙ key_found same f key xs i old place) in
      put_found same f key value xs i y place (new ∙ ap (λ (k : K). (k, value)) (sym key_is))

  pub taken : (i : ℕ) → Some i ≡ position (λ x. same key (f x).0) zs → without (same key) (map f (remove xs i)) ≡ without (same key) (map f xs)
  taken i some = without_found same f key xs i (present i some)

  pub nothing_taken : None ≡ position (λ x. same key (f x).0) zs → without (same key) (map f xs) ≡ map f xs
  nothing_taken none = without_none same f key xs (absent none)

  pub is_there : (found : Option ℕ) → found ≡ position (λ x. same key (f x).0) zs → is_some found ≡ is_some (get_at same key (map f xs))
  unfolding IsPlace
  is_there None none = ap is_some (sym (nothing_there none))
  is_there (Some i) some = ap is_some (sym (get_found same f key xs i (first_of xs (present i some)) (present i some))) where
    first_of : (l : List X) → IsPlace (λ x. same key (f x).0) l i → X
    first_of [] h = absurd h
    first_of (x ∷ l) h = x

  pub written : (value : V) (i : ℕ) (y : X) → Some i ≡ position (λ x. same key (f x).0) zs → f y ≡ (key, value) → map f (set xs i y) ≡ put_at same key value (map f xs)
  written value i y some is = put_found same f key value xs i y (present i some) is

pub all_removed : {X : Type 0} (P : X → Type 0) (xs : List X) (i : ℕ) → AllByRecursion P xs → AllByRecursion P (remove xs i)
all_removed P [] zero all = all
all_removed P [] (suc i) all = all
all_removed P (x ∷ xs) zero all = all.1
all_removed P (x ∷ xs) (suc i) all = (all.0, all_removed P xs i all.1)

-- ---- lists that are changed from the front on, place by place

-- an element that is changed at its place
pub changed_at : {X E : Type 0} (g : X → E) (f : E → E) (i : ℕ) (before : List E) (xs : List X) (x y : X) → i < length xs → x ≡ get_or xs i x
    → map g xs ≡ map f (take i before) ++ drop i before → g y ≡ f (g x)
    → (drop i before ≡ g x ∷ drop (suc i) before) × (map g (set xs i y) ≡ map f (take (suc i) before) ++ drop (suc i) before)
changed_at g f i before [] x y within is all changed = absurd (omega arith)
changed_at g f zero [] (z ∷ xs) x y within is all changed = absurd cc
changed_at g f zero (e ∷ before) (z ∷ xs) x y within is all changed =
    let first : g z ≡ e = cc in
    let rest : map g xs ≡ before = cc in
    let here : g x ≡ e = ap g is ∙ first in
    (ap (λ d. d ∷ before) (sym here), ap (λ d. d ∷ map g xs) (changed ∙ ap f here) ∙ ap (λ l. f e ∷ l) rest)
changed_at g f (suc i) [] (z ∷ xs) x y within is all changed = absurd cc
changed_at g f (suc i) (e ∷ before) (z ∷ xs) x y within is all changed =
    let first : g z ≡ f e = cc in
    let rest : map g xs ≡ map f (take i before) ++ drop i before = cc in
    let more = changed_at g f i before xs x y (omega arith) is rest changed in
    (more.0, ap (λ d. d ∷ map g (set xs i y)) first ∙ ap (λ l. f e ∷ l) more.1)

-- all are changed where none is left
pub changed_all : {X E : Type 0} (g : X → E) (f : E → E) (i : ℕ) (before : List E) (xs : List X) → length xs ≤ i → map g xs ≡ map f (take i before) ++ drop i before → length before ≤ i
changed_all g f i [] xs few all = omega arith
changed_all g f zero (e ∷ before) [] few all = absurd cc
changed_all g f zero (e ∷ before) (x ∷ xs) few all = absurd (omega (arith, few))
changed_all g f (suc i) (e ∷ before) [] few all = absurd cc
changed_all g f (suc i) (e ∷ before) (x ∷ xs) few all =
    let rest : map g xs ≡ map f (take i before) ++ drop i before = cc in omega (arith, changed_all g f i before xs (omega (arith, few)) rest)

-- ---- a key that isn't there

pub put_new : {K V : Type 0} (same : K → K → Bool) (key : K) (value : V) (m : List (K × V)) → get_at same key m ≡ None → put_at same key value m ≡ m ++ (key, value) ∷ []
put_new same key value [] none = refl
put_new same key value (e ∷ m) none =
    elim (cases_Bool (same key e.0)) [
      | inl t ↦ let no : Some e.1 ≡ None = rw t at none in absurd cc
      | inr f ↦ rw f (ap (λ l. e ∷ l) (put_new same key value m (rw f at none)))
    ]

pub without_nothing : {K V : Type 0} (same : K → K → Bool) (key : K) (m : List (K × V)) → get_at same key m ≡ None → without (same key) m ≡ m
without_nothing same key [] none = refl
without_nothing same key (e ∷ m) none =
    elim (cases_Bool (same key e.0)) [
      | inl t ↦ let no : Some e.1 ≡ None = rw t at none in absurd cc
      | inr f ↦ rw f (ap (λ l. e ∷ l) (without_nothing same key m (rw f at none)))
    ]

-- ---- what is left by a filter

pub all_filter : {X : Type 0} (P : X → Type 0) (test : X → Bool) (xs : List X) → AllByRecursion P xs → AllByRecursion P (filter test xs)
all_filter P test [] all = tt
all_filter P test (x ∷ xs) all =
    elim (cases_Bool (test x)) [
      | inl e ↦ rw e (all.0, all_filter P test xs all.1)
      | inr e ↦ rw e (all_filter P test xs all.1)
    ]
