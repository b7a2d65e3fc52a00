-- The prefixes of each slot after a change.
use Rattle.std.proofs.Common.{◌≡◌, ◌≢◌, ℕ, zero, suc, ◌<◌, ◌≤◌, ◌&&◌, ◌==◌, Bool, true, false, cond, List, [], ◌∷◌, ◌++◌, length, get_or, set, slice_get, Some, IsTrue, refl, sym, ap, ◌∙◌, inl, inr, arith}
use Rattle.std.specs.BTreeMap.{is_at}
use Rattle.std.specs.BTreeSet as tree_set
use Rattle.std.specs.BTreeSet.{BTreeSet}
use Rattle.std.specs.List.{list_any}
use Rattle.std.specs.Ordering.{eq_by_cmp}
use Rattle.std.proofs.lemmas.Bool.{cases_eq, eq-eqb, ne_eqb}
use Rattle.std.proofs.lemmas.Option.{slice_get_past}
use Rattle.rcp_base.specs.IpPrefix.{IpPrefix, prefix_cmp}
use Rattle.rcp_model.specs.Ribs.{rib_cmp}
use Rattle.rcp_model.proofs.RibLemmas.{rib_tied}
use Rattle.route_store.specs.Rows.{Seats, is_in, has_seat, SeatsThen, SameSeats}
use Rattle.route_store.proofs.NumberLemmas.{tied_prefixes}
use Rattle.route_store.proofs.StoreLemmas.{is_key}

-- a slot without prefixes is added
pushed : (s : BTreeSet IpPrefix) → s.keys ≡ [] → (seats : Seats) (p : IpPrefix) (i : ℕ) → is_in p (slice_get (seats ++ s ∷ []) i) ≡ is_in p (slice_get seats i)
pushed s empty [] p zero = ap (list_any (is_at (prefix_cmp p))) empty
pushed s empty [] p (suc i) = refl
pushed s empty (x ∷ seats) p zero = refl
pushed s empty (x ∷ seats) p (suc i) = pushed s empty seats p i

pub push_seat : (old seats : Seats) (s : BTreeSet IpPrefix) → SameSeats old seats → s.keys ≡ [] → SameSeats old (seats ++ s ∷ [])
push_seat old seats s same empty key = pushed s empty seats key.0 key.1 ∙ same key

-- ---- the prefixes of one slot change

here : (seats : Seats) (i : ℕ) (x : BTreeSet IpPrefix) → i < length seats → x ≡ get_or seats i x → slice_get seats i ≡ Some x
here [] i x lt e = absurd (omega arith)
here (y ∷ seats) zero x lt e = ap (λ (s : BTreeSet IpPrefix). Some s) (sym e)
here (y ∷ seats) (suc i) x lt e = here seats i x (omega arith) e

set_here : (seats : Seats) (i : ℕ) (x : BTreeSet IpPrefix) → i < length seats → slice_get (set seats i x) i ≡ Some x
set_here [] i x lt = absurd (omega arith)
set_here (y ∷ seats) zero x lt = refl
set_here (y ∷ seats) (suc i) x lt = set_here seats i x (omega arith)

set_other : (seats : Seats) (i j : ℕ) (x : BTreeSet IpPrefix) → j ≢ i → slice_get (set seats i x) j ≡ slice_get seats j
set_other [] i j x h = refl
set_other (y ∷ seats) zero zero x h = absurd (h refl)
set_other (y ∷ seats) zero (suc j) x h = refl
set_other (y ∷ seats) (suc i) zero x h = refl
set_other (y ∷ seats) (suc i) (suc j) x h = set_other seats i j x (λ e. h (ap suc e))

with_test : (s t : Bool) (x y : Bool) → t ≡ true → cond s x y ≡ cond (s && t) x y
with_test true t x y e = sym (ap (λ (b : Bool). cond b x y) e)
with_test false t x y e = refl

without_test : (s t : Bool) (x y : Bool) → t ≡ false → y ≡ cond (s && t) x y
without_test true t x y e = sym (ap (λ (b : Bool). cond b x y) e)
without_test false t x y e = refl

pub seat_then : (seats : Seats) (i : ℕ) (x new : BTreeSet IpPrefix) (p : IpPrefix) (there : Bool) → i < length seats → x ≡ get_or seats i x
    → ((q : IpPrefix) → tree_set.contains prefix_cmp new q ≡ cond (is_at (prefix_cmp p) q) there (tree_set.contains prefix_cmp x q))
    → SeatsThen seats (set seats i new) (p, i) there
seat_then seats i x new p there lt e changed key =
    elim (cases_eq key.1 i) [
      | inl same ↦
          ap (λ (j : ℕ). is_in key.0 (slice_get (set seats i new) j)) same ∙ ap (is_in key.0) (set_here seats i new lt) ∙ changed key.0
          ∙ ap (cond (eq_by_cmp prefix_cmp p key.0) there) (sym (ap (λ (j : ℕ). is_in key.0 (slice_get seats j)) same ∙ ap (is_in key.0) (here seats i x lt e)))
          ∙ with_test (eq_by_cmp prefix_cmp p key.0) (key.1 == i) there (has_seat seats key) (eq-eqb key.1 i same)
      | inr other ↦
          ap (is_in key.0) (set_other seats i key.1 new other)
          ∙ without_test (eq_by_cmp prefix_cmp p key.0) (key.1 == i) there (has_seat seats key) (ne_eqb key.1 i other)
    ]
    ∙ ap (λ (b : Bool). cond b there (has_seat seats key)) (ap (λ (b : Bool). b && key.1 == i) (tied_prefixes p key.0) ∙ sym (rib_tied key (p, i)))

-- what the prefixes of a slot have
pub seat_is : (seats : Seats) (i : ℕ) (x : BTreeSet IpPrefix) (p : IpPrefix) → i < length seats → x ≡ get_or seats i x → has_seat seats (p, i) ≡ tree_set.contains prefix_cmp x p
seat_is seats i x p lt e = ap (is_in p) (here seats i x lt e)

-- the same prefixes written again
pub seat_same : (seats : Seats) (i : ℕ) (x new : BTreeSet IpPrefix) → i < length seats → x ≡ get_or seats i x → new.keys ≡ x.keys → SameSeats seats (set seats i new)
seat_same seats i x new lt e same key = elim (cases_eq key.1 i) [
  | inl at ↦
      ap (λ (j : ℕ). is_in key.0 (slice_get (set seats i new) j)) at ∙ ap (is_in key.0) (set_here seats i new lt)
      ∙ ap (list_any (is_at (prefix_cmp key.0))) same
      ∙ sym (ap (λ (j : ℕ). is_in key.0 (slice_get seats j)) at ∙ ap (is_in key.0) (here seats i x lt e))
  | inr other ↦ ap (is_in key.0) (set_other seats i key.1 new other)
]

-- a slot that isn't there has no prefix
pub seat_past : (seats : Seats) (p : IpPrefix) (i : ℕ) → length seats ≤ i → SeatsThen seats seats (p, i) false
seat_past seats p i past key = at_test (eq_by_cmp rib_cmp key (p, i)) refl where
  at_test : (b : Bool) → eq_by_cmp rib_cmp key (p, i) ≡ b → has_seat seats key ≡ cond b false (has_seat seats key)
  at_test true is = ap (has_seat seats) (is_key key (p, i) is) ∙ ap (is_in p) (slice_get_past seats i past)
  at_test false is = refl

-- a slot without prefixes has none
none_in : (test : IpPrefix → Bool) (keys : List IpPrefix) → (0 < length keys → ⊥) → list_any test keys ≡ false
none_in test [] empty = refl
none_in test (k ∷ keys) empty = absurd (empty (omega arith))

pub empty_slot : (seats : Seats) (i : ℕ) (q : IpPrefix) (x : BTreeSet IpPrefix) → i < length seats → x ≡ get_or seats i x → (0 < length x.keys → ⊥) → IsTrue (has_seat seats (q, i)) → ⊥
empty_slot seats i q x lt e empty there =
    let no : has_seat seats (q, i) ≡ false = ap (is_in q) (here seats i x lt e) ∙ none_in (is_at (prefix_cmp q)) x.keys empty in
    absurd cc
