-- Members of lists: those that pass a test, and tests of some member.
use Rattle.std.proofs.Common.{◌≡◌, ◌≢◌, ℕ, zero, suc, ◌<◌, Bool, true, false, cond, ◌&&◌, ◌||◌, ◌⊎◌, List, [], ◌∷◌, length, get_or, filter, Contains, refl, sym, ap, subst, ◌∙◌, inl, inr, arith}
use Rattle.std.specs.List.{list_any}
use Rattle.std.proofs.lemmas.Bool.{false≢true}

-- ---- the first member, and the others

pub Contains-head : {X : Type 0} (x : X) (xs : List X) → Contains (x ∷ xs) x
Contains-head x xs = (0, omega arith, refl)

pub Contains-tail : {X : Type 0} (x : X) (xs : List X) (y : X) → Contains xs y → Contains (x ∷ xs) y
Contains-tail x xs y member = (suc member.0, omega arith, member.2)

pub Contains-cases : {X : Type 0} (x : X) (xs : List X) (y : X) → Contains (x ∷ xs) y → (x ≡ y) ⊎ Contains xs y
Contains-cases x xs y member = at_place x xs y member.0 member.1 member.2 where
  at_place : {X : Type 0} (x : X) (xs : List X) (y : X) (k : ℕ) → k < length (x ∷ xs) → get_or (x ∷ xs) k y ≡ y → (x ≡ y) ⊎ Contains xs y
  at_place x xs y zero within same = inl same
  at_place x xs y (suc k) within same = inr (k, omega arith, same)

pub Contains-none : {X : Type 0} (y : X) → Contains [] y → ⊥
Contains-none y member = omega arith

-- a list that has a member isn't empty, and the other way round
pub Contains-filled : {X : Type 0} (xs : List X) (y : X) → Contains xs y → xs ≢ []
Contains-filled xs y member empty = Contains-none y (subst (λ xs. Contains xs y) empty member)

pub member_of : {X : Type 0} (xs : List X) → xs ≢ [] → (x : X) × Contains xs x
member_of [] filled = absurd (filled refl)
member_of (x ∷ xs) filled = (x, Contains-head x xs)

-- ---- a test of some member

pub any_member : {X : Type 0} (p : X → Bool) (xs : List X) → list_any p xs ≡ true → (x : X) × Contains xs x × (p x ≡ true)
any_member p [] any = absurd (false≢true any)
any_member {X} p (x ∷ xs) any = at_test (p x) refl (any_member p xs) any where
  at_test : (b : Bool) → p x ≡ b → (list_any p xs ≡ true → (y : X) × Contains xs y × (p y ≡ true)) → (b || list_any p xs) ≡ true → (y : X) × Contains (x ∷ xs) y × (p y ≡ true)
  at_test true passes rest any = (x, Contains-head x xs, passes)
  at_test false passes rest any = let found = rest any in (found.0, Contains-tail x xs found.0 found.1, found.2)

pub any_from_member : {X : Type 0} (p : X → Bool) (xs : List X) (y : X) → Contains xs y → p y ≡ true → list_any p xs ≡ true
any_from_member p [] y member passes = absurd (Contains-none y member)
any_from_member p (x ∷ xs) y member passes = elim (Contains-cases x xs y member) [
  | inl same ↦ rw (ap p same ∙ passes) refl
  | inr rest ↦ either (p x) (list_any p xs) (any_from_member p xs y rest passes)
] where
  either : (b c : Bool) → c ≡ true → (b || c) ≡ true
  either true c h = refl
  either false c h = h

pub none_at_member : {X : Type 0} (p : X → Bool) (xs : List X) (y : X) → list_any p xs ≡ false → Contains xs y → p y ≡ false
none_at_member p xs y none member = at_test (p y) refl where
  at_test : (b : Bool) → p y ≡ b → p y ≡ false
  at_test true passes = absurd (false≢true (sym none ∙ any_from_member p xs y member passes))
  at_test false fails = fails

pub none_from_members : {X : Type 0} (p : X → Bool) (xs : List X) → ((x : X) → Contains xs x → p x ≡ false) → list_any p xs ≡ false
none_from_members p [] none = refl
none_from_members p (x ∷ xs) none = rw (none x (Contains-head x xs)) (none_from_members p xs (λ y member. none y (Contains-tail x xs y member)))

-- ---- the members that pass a test

pub filter_member : {X : Type 0} (p : X → Bool) (xs : List X) (y : X) → Contains xs y → p y ≡ true → Contains (filter p xs) y
filter_member p [] y member passes = absurd (Contains-none y member)
filter_member p (x ∷ xs) y member passes = elim (Contains-cases x xs y member) [
  | inl same ↦ subst (λ z. Contains (filter p (x ∷ xs)) z) same (rw (ap p same ∙ passes) (Contains-head x (filter p xs)))
  | inr rest ↦ either (p x) (filter_member p xs y rest passes)
] where
  either : (b : Bool) → Contains (filter p xs) y → Contains (cond b (x ∷ filter p xs) (filter p xs)) y
  either true h = Contains-tail x (filter p xs) y h
  either false h = h

pub member_of_filter : {X : Type 0} (p : X → Bool) (xs : List X) (y : X) → Contains (filter p xs) y → Contains xs y × (p y ≡ true)
member_of_filter p [] y member = absurd (Contains-none y member)
member_of_filter p (x ∷ xs) y member = at_test (p x) refl (member_of_filter p xs y) member where
  at_test : (b : Bool) → p x ≡ b → (Contains (filter p xs) y → Contains xs y × (p y ≡ true)) → Contains (cond b (x ∷ filter p xs) (filter p xs)) y → Contains (x ∷ xs) y × (p y ≡ true)
  at_test true passes rest member = elim (Contains-cases x (filter p xs) y member) [
    | inl same ↦ (subst (λ z. Contains (x ∷ xs) z) same (Contains-head x xs), ap p (sym same) ∙ passes)
    | inr later ↦ let found = rest later in (Contains-tail x xs y found.0, found.1)
  ]
  at_test false fails rest member = let found = rest member in (Contains-tail x xs y found.0, found.1)

-- tests that agree on the members leave the same
pub filter_alike : {X : Type 0} (p q : X → Bool) (xs : List X) → ((x : X) → Contains xs x → p x ≡ q x) → filter p xs ≡ filter q xs
filter_alike p q [] alike = refl
filter_alike p q (x ∷ xs) alike =
    rw (alike x (Contains-head x xs)) (ap (λ rest. cond (q x) (x ∷ rest) rest) (filter_alike p q xs (λ y member. alike y (Contains-tail x xs y member))))

-- one test after another
pub filter-filter : {X : Type 0} (p q : X → Bool) (xs : List X) → filter q (filter p xs) ≡ filter (λ x. p x && q x) xs
filter-filter p q [] = refl
filter-filter p q (x ∷ xs) = at_test (p x) (filter-filter p q xs) where
  at_test : (b : Bool) → filter q (filter p xs) ≡ filter (λ x. p x && q x) xs → filter q (cond b (x ∷ filter p xs) (filter p xs)) ≡ cond (b && q x) (x ∷ filter (λ x. p x && q x) xs) (filter (λ x. p x && q x) xs)
  at_test true rest = ap (λ rest. cond (q x) (x ∷ rest) rest) rest
  at_test false rest = rest
