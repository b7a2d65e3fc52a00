-- What a map has at a key after a change, and what is among rising prefixes.
use Rattle.std.proofs.Common.{◌≡◌, ℕ, Bool, true, false, cond, ◌||◌, eqb, List, [], ◌∷◌, Option, Some, None, refl, ap, ◌∙◌, inl, inr}
use Rattle.std.proofs.lemmas.Bool.{cases_Bool, and_parts, and_from, eqb-true, eq-eqb, both_ways}
use Rattle.rcp_base.specs.IpPrefix.{IpPrefix}
use Rattle.rcp_base.specs.Maps.{get_at, put_at, without, set_at, same_prefix, is_before, include, include_all, is_among}

-- a test of equal keys
pub record IsKeyTest {K : Type 0} (same : K → K → Bool) : Type 0 where
  pub itself : (k : K) → same k k ≡ true
  pub sound : (j k : K) → same j k ≡ true → j ≡ k

pub get_at-put_at_same : {K V : Type 0} (same : K → K → Bool) → IsKeyTest same → (key : K) (value : V) (m : List (K × V)) → get_at same key (put_at same key value m) ≡ Some value
get_at-put_at_same same test key value [] = rw (test.itself key) refl
get_at-put_at_same same test key value (entry ∷ m) =
    elim (cases_Bool (same key entry.0)) [
      | inl e ↦ rw (e, test.itself key) refl
      | inr e ↦ rw (e, e) (get_at-put_at_same same test key value m)
    ]

pub get_at-put_at_other : {K V : Type 0} (same : K → K → Bool) → IsKeyTest same → (key other : K) (value : V) (m : List (K × V)) → same other key ≡ false → get_at same other (put_at same key value m) ≡ get_at same other m
get_at-put_at_other same test key other value [] h = rw h refl
get_at-put_at_other same test key other value (entry ∷ m) h =
    elim (cases_Bool (same key entry.0)) [
      | inl e ↦ let k : key ≡ entry.0 = test.sound key entry.0 e in
          let g : same other entry.0 ≡ false = rw (← k) h in
          rw (e, h, g) refl
      | inr e ↦ rw e (ap (cond (same other entry.0) (Some entry.1)) (get_at-put_at_other same test key other value m h))
    ]

pub get_at-without_passed : {K V : Type 0} (same : K → K → Bool) → IsKeyTest same → (test : K → Bool) (key : K) (m : List (K × V)) → test key ≡ true → get_at same key (without test m) ≡ None
get_at-without_passed same is_test test key [] h = refl
get_at-without_passed same is_test test key (entry ∷ m) h =
    elim (cases_Bool (test entry.0)) [
      | inl e ↦ rw e (get_at-without_passed same is_test test key m h)
      | inr e ↦ rw e (
          elim (cases_Bool (same key entry.0)) [
            | inl s ↦ let k : key ≡ entry.0 = is_test.sound key entry.0 s in
                absurd (both_ways (test entry.0) e (rw (← k) h))
            | inr s ↦ rw s (get_at-without_passed same is_test test key m h)
          ])
    ]

pub get_at-without_left : {K V : Type 0} (same : K → K → Bool) → IsKeyTest same → (test : K → Bool) (key : K) (m : List (K × V)) → test key ≡ false → get_at same key (without test m) ≡ get_at same key m
get_at-without_left same is_test test key [] h = refl
get_at-without_left same is_test test key (entry ∷ m) h =
    elim (cases_Bool (test entry.0)) [
      | inl e ↦
          let g : same key entry.0 ≡ false = elim (cases_Bool (same key entry.0)) [
            | inl s ↦ let k : key ≡ entry.0 = is_test.sound key entry.0 s in
                absurd (both_ways (test entry.0) (rw (← k) h) e)
            | inr s ↦ s
          ] in
          rw (e, g) (get_at-without_left same is_test test key m h)
      | inr e ↦ rw e (ap (cond (same key entry.0) (Some entry.1)) (get_at-without_left same is_test test key m h))
    ]

pub get_at-set_at_same : {K V : Type 0} (same : K → K → Bool) → IsKeyTest same → (key : K) (value : Option V) (m : List (K × V)) → get_at same key (set_at same key value m) ≡ value
get_at-set_at_same same test key None m = get_at-without_passed same test (same key) key m (test.itself key)
get_at-set_at_same same test key (Some value) m = get_at-put_at_same same test key value m

pub get_at-set_at_other : {K V : Type 0} (same : K → K → Bool) → IsKeyTest same → (key other : K) (value : Option V) (m : List (K × V)) → same other key ≡ false → same key other ≡ false → get_at same other (set_at same key value m) ≡ get_at same other m
get_at-set_at_other same test key other None m h g = get_at-without_left same test (same key) other m g
get_at-set_at_other same test key other (Some value) m h g = get_at-put_at_other same test key other value m h

-- ---- prefixes

pub same_prefix-is : (p q : IpPrefix) → same_prefix p q ≡ true → p ≡ q
same_prefix-is p q e =
    let parts = and_parts (eqb p.addr q.addr) (eqb p.len q.len) e in
    let addr : p.addr ≡ q.addr = eqb-true _ _ parts.0 in
    let len : p.len ≡ q.len = eqb-true _ _ parts.1 in
    ap (λ (a : ℕ). let r : IpPrefix = record { addr = a; len = p.len } in r) addr ∙ ap (λ (l : ℕ). let r : IpPrefix = record { addr = q.addr; len = l } in r) len

pub same_prefix-itself : (p : IpPrefix) → same_prefix p p ≡ true
same_prefix-itself p = and_from _ _ (eq-eqb p.addr p.addr refl) (eq-eqb p.len p.len refl)

pub prefix_test : IsKeyTest same_prefix
prefix_test = record { itself = same_prefix-itself; sound = same_prefix-is }

pub same_prefix-other : (p q : IpPrefix) → same_prefix p q ≡ false → same_prefix q p ≡ false
same_prefix-other p q h =
    elim (cases_Bool (same_prefix q p)) [
      | inl e ↦ let k : q ≡ p = same_prefix-is q p e in
          absurd (both_ways (same_prefix p q) h (rw k (same_prefix-itself p)))
      | inr e ↦ e
    ]

absorbed : (a b : Bool) → (a || b) ≡ (a || (a || b))
absorbed true b = refl
absorbed false b = refl

swapped : (a b c : Bool) → (a || (b || c)) ≡ (b || (a || c))
swapped true true c = refl
swapped true false c = refl
swapped false b c = refl

moved : (a b c : Bool) → (a || (b || c)) ≡ ((b || a) || c)
moved true true c = refl
moved true false c = refl
moved false true c = refl
moved false false c = refl

-- what is among a rising list with one prefix more
pub is_among-include : (p q : IpPrefix) (ps : List IpPrefix) → is_among (include p ps) q ≡ (same_prefix q p || is_among ps q)
is_among-include p q [] = refl
is_among-include p q (r ∷ ps) =
    elim (cases_Bool (same_prefix p r)) [
      | inl e ↦ let k : p ≡ r = same_prefix-is p r e in
          rw (e, k) (absorbed (same_prefix q r) (is_among ps q))
      | inr e ↦ rw e (
          elim (cases_Bool (is_before p r)) [
            | inl b ↦ rw b refl
            | inr b ↦ rw (b, is_among-include p q ps) (swapped (same_prefix q r) (same_prefix q p) (is_among ps q))
          ])
    ]

pub is_among-include_all : (ps qs : List IpPrefix) (q : IpPrefix) → is_among (include_all ps qs) q ≡ (is_among ps q || is_among qs q)
is_among-include_all [] qs q = refl
is_among-include_all (p ∷ ps) qs q =
    is_among-include_all ps (include p qs) q ∙ rw (is_among-include p q qs) (moved (is_among ps q) (same_prefix q p) (is_among qs q))
