-- Maps from routers as lists in which no router stands twice, in whatever order.
use Rattle.std.proofs.Common.{◌≡◌, ℕ, Bool, true, false, cond, ◌==◌, ◌⊎◌, List, [], ◌∷◌, filter, Contains, Some, None, Less, nat_cmp, refl, sym, ap, subst, ◌∙◌, inl, inr, arith, eqb-true, eq-eqb}
use Rattle.std.specs.List.{AllByRecursion}
use Rattle.std.specs.Ordering.{is_eq}
use Rattle.std.specs.BTreeMap.{is_at}
use Rattle.std.specs.Map.{keys_of, lookup}
use Rattle.std.proofs.lemmas.Map.Entries.{option_filter}
use Rattle.std.proofs.Common.{ap₂, ◌≢◌, ◌<◌, ◌≤◌, length, AllPairs}
use Rattle.std.proofs.lemmas.Map.Entries.{length-keys_of}
use Rattle.std.proofs.lemmas.List.Kept.{AllPairs-cons}
use Rattle.rcp_model.proofs.GraphLemmas.{All-from_members, apart_within}
use Rattle.rcp_model.proofs.MemberLemmas.{Contains-tail, Contains-cases, Contains-none}
use Rattle.std.specs.List.Sorted.{IsStrictlySortedBy}
use Rattle.std.proofs.lemmas.Bool.{false≢true}
use Rattle.std.proofs.lemmas.Bool.Decides.{nat_tests}
use Rattle.rcp_base.specs.Maps.{get_at, put_at}
use Rattle.rcp_model.specs.LinkState.{Kept, same_number}
use Rattle.rcp_base.proofs.MapLemmas.{IsKeyTest, get_at-put_at_other}
use Rattle.lsdb.specs.Databases.{IsOnce}

pub number_test : IsKeyTest same_number
number_test = record { itself = λ k. eq-eqb k k refl; sound = λ j k. eqb-true j k }

some-same : (a b : Kept) → Some a ≡ Some b → a ≡ b
some-same a b same = cc

-- ---- what the tree answers

pub is_eq-number : (k j : ℕ) → is_eq (nat_cmp k j) ≡ (k == j)
is_eq-number k j = grind (arith, nat_tests)

pub lookup_is : {V : Type 0} (k : ℕ) (entries : List (ℕ × V)) → lookup (is_at (nat_cmp k)) entries ≡ get_at same_number k entries
lookup_is k [] = refl
lookup_is k (entry ∷ entries) = rw (is_eq-number k entry.0, lookup_is k entries) refl

below-other : (k j : ℕ) → nat_cmp k j ≡ Less → (k == j) ≡ false
below-other k j h = grind (arith, nat_tests)

none_below : (k : ℕ) (entries : List (ℕ × Kept)) → AllByRecursion (λ j. nat_cmp k j ≡ Less) (keys_of entries) → get_at same_number k entries ≡ None
none_below k [] below = refl
none_below k (entry ∷ entries) below = rw (below-other k entry.0 below.0) (none_below k entries below.1)

pub once-rising : (entries : List (ℕ × Kept)) → IsStrictlySortedBy nat_cmp (keys_of entries) → IsOnce entries
unfolding IsStrictlySortedBy
once-rising [] rising = tt
once-rising (entry ∷ entries) rising = (none_below entry.0 entries rising.0, once-rising entries rising.1)

-- ---- an entry put in, and entries taken out

none-put : (k key : ℕ) (value : Kept) (entries : List (ℕ × Kept)) → (k == key) ≡ false → get_at same_number k entries ≡ None → get_at same_number k (put_at same_number key value entries) ≡ None
none-put k key value entries other none = get_at-put_at_other same_number number_test key k value entries other ∙ none

once-put_here : (key : ℕ) (value : Kept) (entry : ℕ × Kept) (entries : List (ℕ × Kept)) → IsOnce (entry ∷ entries) → IsOnce (put_at same_number key value entries) → (t : Bool) → (key == entry.0) ≡ t
    → IsOnce (cond t ((key, value) ∷ entries) (entry ∷ put_at same_number key value entries))
once-put_here key value entry entries once rest true same = (subst (λ k. get_at same_number k entries ≡ None) (sym (eqb-true key entry.0 same)) once.0, once.1)
once-put_here key value entry entries once rest false other = (none-put entry.0 key value entries (turned (entry.0 == key) refl) once.0, rest) where
  turned : (t : Bool) → (entry.0 == key) ≡ t → (entry.0 == key) ≡ false
  turned true same = absurd (false≢true (sym other ∙ eq-eqb key entry.0 (sym (eqb-true entry.0 key same))))
  turned false differs = differs

pub once-put : (key : ℕ) (value : Kept) (entries : List (ℕ × Kept)) → IsOnce entries → IsOnce (put_at same_number key value entries)
once-put key value [] once = (refl, tt)
once-put key value (entry ∷ entries) once = once-put_here key value entry entries once (once-put key value entries once.1) (key == entry.0) refl

none-filter : (k : ℕ) (p : ℕ × Kept → Bool) (entries : List (ℕ × Kept)) → get_at same_number k entries ≡ None → get_at same_number k (filter p entries) ≡ None
none-filter k p [] none = refl
none-filter k p (entry ∷ entries) none = at_tests (k == entry.0) refl (p entry) (none-filter k p entries) none where
  at_tests : (s : Bool) → (k == entry.0) ≡ s → (t : Bool) → (get_at same_number k entries ≡ None → get_at same_number k (filter p entries) ≡ None) → cond s (Some entry.1) (get_at same_number k entries) ≡ None
      → get_at same_number k (cond t (entry ∷ filter p entries) (filter p entries)) ≡ None
  at_tests true is t rest none = absurd cc
  at_tests false is true rest none = rw is (rest none)
  at_tests false is false rest none = rest none

pub once-filter : (p : ℕ × Kept → Bool) (entries : List (ℕ × Kept)) → IsOnce entries → IsOnce (filter p entries)
once-filter p [] once = tt
once-filter p (entry ∷ entries) once = at_test (p entry) (once-filter p entries once.1) where
  at_test : (t : Bool) → IsOnce (filter p entries) → IsOnce (cond t (entry ∷ filter p entries) (filter p entries))
  at_test true rest = (none-filter entry.0 p entries once.0, rest)
  at_test false rest = rest

-- what a test of the values leaves at a key
pub get-filter : (k : ℕ) (p : Kept → Bool) (entries : List (ℕ × Kept)) → IsOnce entries
    → get_at same_number k (filter (λ entry. p entry.1) entries) ≡ option_filter p (get_at same_number k entries)
get-filter k p [] once = refl
get-filter k p (entry ∷ entries) once = at_tests (k == entry.0) refl (p entry.1) refl (get-filter k p entries once.1) where
  at_tests : (s : Bool) → (k == entry.0) ≡ s → (t : Bool) → p entry.1 ≡ t → get_at same_number k (filter (λ entry. p entry.1) entries) ≡ option_filter p (get_at same_number k entries)
      → get_at same_number k (cond t (entry ∷ filter (λ entry. p entry.1) entries) (filter (λ entry. p entry.1) entries)) ≡ option_filter p (cond s (Some entry.1) (get_at same_number k entries))
  at_tests true is true passes rest = rw (is, passes) refl
  at_tests true is false fails rest = rw fails (none-filter k (λ entry. p entry.1) entries (subst (λ j. get_at same_number j entries ≡ None) (sym (eqb-true k entry.0 is)) once.0))
  at_tests false is true passes rest = rw is rest
  at_tests false is false fails rest = rest

-- ---- what is a member

pub get_member : (k : ℕ) (kept : Kept) (entries : List (ℕ × Kept)) → get_at same_number k entries ≡ Some kept → Contains entries (k, kept)
get_member k kept [] found = absurd cc
get_member k kept (entry ∷ entries) found = at_test (k == entry.0) (eqb-true k entry.0) (get_member k kept entries) found where
  at_test : (s : Bool) → (s ≡ true → k ≡ entry.0) → (get_at same_number k entries ≡ Some kept → Contains entries (k, kept)) → cond s (Some entry.1) (get_at same_number k entries) ≡ Some kept
      → Contains (entry ∷ entries) (k, kept)
  at_test true is rest found = (0, omega arith, ap₂ (λ (j : ℕ) (v : Kept). (j, v)) (sym (is refl)) (some-same entry.1 kept found))
  at_test false is rest found = Contains-tail entry entries (k, kept) (rest found)

pub member_get : (k : ℕ) (kept : Kept) (entries : List (ℕ × Kept)) → IsOnce entries → Contains entries (k, kept) → get_at same_number k entries ≡ Some kept
member_get k kept [] once member = absurd (Contains-none (k, kept) member)
member_get k kept (entry ∷ entries) once member = by_cases (Contains-cases entry entries (k, kept) member) (member_get k kept entries once.1) where
  by_cases : (entry ≡ (k, kept)) ⊎ Contains entries (k, kept) → (Contains entries (k, kept) → get_at same_number k entries ≡ Some kept) → get_at same_number k (entry ∷ entries) ≡ Some kept
  by_cases (inl same) rest = rw (eq-eqb k entry.0 (sym (ap (λ (e : ℕ × Kept). e.0) same))) (ap (λ (e : ℕ × Kept). Some e.1) same)
  by_cases (inr later) rest = at_test (k == entry.0) refl (rest later) where
    at_test : (s : Bool) → (k == entry.0) ≡ s → get_at same_number k entries ≡ Some kept → get_at same_number k (entry ∷ entries) ≡ Some kept
    at_test true is found = let none : get_at same_number k entries ≡ None = subst (λ j. get_at same_number j entries ≡ None) (sym (eqb-true k entry.0 is)) once.0 in absurd cc
    at_test false is found = rw is found

-- ---- how many routers there are

key_get : (k : ℕ) (entries : List (ℕ × Kept)) → Contains (keys_of entries) k → (kept : Kept) × (get_at same_number k entries ≡ Some kept)
key_get k [] member = absurd (Contains-none k member)
key_get k (entry ∷ entries) member = at_test (k == entry.0) (eq-eqb k entry.0) (Contains-cases entry.0 (keys_of entries) k member) (key_get k entries) where
  at_test : (s : Bool) → (k ≡ entry.0 → s ≡ true) → (entry.0 ≡ k) ⊎ Contains (keys_of entries) k → (Contains (keys_of entries) k → (kept : Kept) × (get_at same_number k entries ≡ Some kept))
      → (kept : Kept) × (cond s (Some entry.1) (get_at same_number k entries) ≡ Some kept)
  at_test true is cases rest = (entry.1, refl)
  at_test false is (inl same) rest = absurd (false≢true (is (sym same)))
  at_test false is (inr later) rest = rest later

pub get_key : (k : ℕ) (kept : Kept) (entries : List (ℕ × Kept)) → get_at same_number k entries ≡ Some kept → Contains (keys_of entries) k
get_key k kept [] found = absurd cc
get_key k kept (entry ∷ entries) found = at_test (k == entry.0) (eqb-true k entry.0) (get_key k kept entries) found where
  at_test : (s : Bool) → (s ≡ true → k ≡ entry.0) → (get_at same_number k entries ≡ Some kept → Contains (keys_of entries) k) → cond s (Some entry.1) (get_at same_number k entries) ≡ Some kept
      → Contains (entry.0 ∷ keys_of entries) k
  at_test true is rest found = (0, omega arith, sym (is refl))
  at_test false is rest found = Contains-tail entry.0 (keys_of entries) k (rest found)

keys_apart : (entries : List (ℕ × Kept)) → IsOnce entries → AllPairs (λ a b. a ≢ b) (keys_of entries)
keys_apart [] once = λ i j d less within. absurd (omega arith)
keys_apart (entry ∷ entries) once =
    AllPairs-cons (λ a b. a ≢ b) entry.0 (keys_of entries) (All-from_members (λ b. entry.0 ≢ b) (keys_of entries)
    (λ b member same. let found = key_get b entries member in none_some found.0 (sym (subst (λ k. get_at same_number k entries ≡ None) same once.0) ∙ found.1)))
    (keys_apart entries once.1) where
      none_some : (kept : Kept) → None ≡ Some kept → ⊥
      none_some kept e = cc

no_more : (entries others : List (ℕ × Kept)) → IsOnce entries → ((k : ℕ) → get_at same_number k entries ≡ get_at same_number k others) → length entries ≤ length others
no_more entries others once same =
    let within = apart_within (keys_of entries) (keys_of others) (keys_apart entries once)
    (λ k member. let found = key_get k entries member in get_key k found.0 others (sym (same k) ∙ found.1)) in
    omega (arith, within, length-keys_of entries, length-keys_of others)

pub same-length : (entries others : List (ℕ × Kept)) → IsOnce entries → IsOnce others → ((k : ℕ) → get_at same_number k entries ≡ get_at same_number k others) → length entries ≡ length others
same-length entries others once once' same = omega (arith, no_more entries others once same, no_more others entries once' (λ k. sym (same k)))

filter-no_more : {X : Type 0} (p : X → Bool) (xs : List X) → length (filter p xs) ≤ length xs
filter-no_more p [] = omega arith
filter-no_more p (x ∷ xs) = at_test (p x) (filter-no_more p xs) where
  at_test : (t : Bool) → length (filter p xs) ≤ length xs → length (cond t (x ∷ filter p xs) (filter p xs)) ≤ length (x ∷ xs)
  at_test true rest = omega (arith, rest)
  at_test false rest = omega (arith, rest)

-- what passes a test is everything or less
pub filter-less : {X : Type 0} (p : X → Bool) (xs : List X) → filter p xs ≢ xs → length (filter p xs) < length xs
filter-less p [] other = absurd (other refl)
filter-less p (x ∷ xs) other = at_test (p x) other (filter-less p xs) (filter-no_more p xs) where
  at_test : (t : Bool) → cond t (x ∷ filter p xs) (filter p xs) ≢ x ∷ xs → (filter p xs ≢ xs → length (filter p xs) < length xs) → length (filter p xs) ≤ length xs
      → length (cond t (x ∷ filter p xs) (filter p xs)) < length (x ∷ xs)
  at_test true other rest le = let less = rest (λ same. other (ap (λ l. x ∷ l) same)) in omega (arith, less)
  at_test false other rest le = omega (arith, le)
