-- The dirty cells of a shard after work on some prefixes: those that were dirty, and those whose route is another one than before.
use Rattle.std.proofs.Common.{◌≡◌, ℕ, Bool, true, false, cond, not, ◌&&◌, ◌||◌, ◌⊎◌, eqb, List, [], ◌∷◌, map, Option, Some, None, refl, sym, ap, ◌∙◌, inl, inr}
use Rattle.std.specs.Prelude.{filter}
use Rattle.std.specs.FinSet as set_of
use Rattle.std.specs.List.{list_any}
use Rattle.std.specs.Ordering.{nat_cmp, eq_by_cmp}
use Rattle.std.specs.Cmp.{unsigned_tied}
use Rattle.std.proofs.lemmas.Bool.{eqb-true}
use Rattle.rcp_base.specs.IpPrefix.{IpPrefix}
use Rattle.rcp_base.specs.Maps.{same_prefix, is_among}
use Rattle.rcp_base.proofs.MapLemmas.{same_prefix-is}
use Rattle.rcp_model.specs.Ribs.{rib_cmp}
use Rattle.rcp_model.specs.Routes.{RouteFields}
use Rattle.rcp_model.specs.ServerRibs.{Reader, same_values, same_route, Work, Ribs, at_prefix, is_up, offered, ribs_after, ribs_after_all}
use Rattle.rcp_model.proofs.RibLemmas.{rib_total}
use Rattle.rib_laws.proofs.RibLookups.{key_tied}
use Rattle.rib_laws.proofs.PendingLemmas.{route_exact}
use Rattle.platform_laws.specs.Work.{works}
use Rattle.platform_laws.specs.Dirty.{Cells, has_changed, dirty_with, dirty_over}
use Rattle.platform_laws.proofs.ShardWork.{cells-after}

-- ---- tests

abbrev Same : Option RouteFields → Option RouteFields → Bool
Same a b = same_values same_route a b

same-itself : (o : Option RouteFields) → Same o o ≡ true
same-itself None = refl
same-itself (Some route) = route_exact.itself route

or-false : (b : Bool) → (b || false) ≡ b
or-false true = refl
or-false false = refl

and-false : (b : Bool) → false ≡ (b && false)
and-false true = refl
and-false false = refl

with_slot : (b k a t : Bool) → (k ≡ true → t ≡ true) → ((b && k) || (b && (a && t))) ≡ (b && ((k || a) && t))
with_slot false k a t is = refl
with_slot true true a t is = sym (is refl)
with_slot true false a t is = refl

no_slot : (b k a t : Bool) → (k ≡ true → t ≡ false) → (b && (a && t)) ≡ (b && ((k || a) && t))
no_slot false k a t is = refl
no_slot true false a t is = refl
no_slot true true true t is = refl
no_slot true true false t is = sym (is refl)

any-of : (p : IpPrefix) (test : ℕ → Bool) (slots : List ℕ) (q : IpPrefix) (s : ℕ)
    → list_any (eq_by_cmp rib_cmp (q, s)) (map (λ e. (p, e)) (filter test slots)) ≡ (same_prefix q p && (list_any (eq_by_cmp nat_cmp s) slots && test s))
any-of p test [] q s = and-false (same_prefix q p)
any-of p test (e ∷ slots) q s = at_test (test e) refl (any-of p test slots q s) ∙ ap (λ k. same_prefix q p && ((k || list_any (eq_by_cmp nat_cmp s) slots) && test s)) (sym (unsigned_tied s e)) where
  at_test : (t : Bool) → test e ≡ t
      → list_any (eq_by_cmp rib_cmp (q, s)) (map (λ e. (p, e)) (filter test slots)) ≡ (same_prefix q p && (list_any (eq_by_cmp nat_cmp s) slots && test s))
      → list_any (eq_by_cmp rib_cmp (q, s)) (map (λ e. (p, e)) (cond t (e ∷ filter test slots) (filter test slots)))
      ≡ (same_prefix q p && ((eqb s e || list_any (eq_by_cmp nat_cmp s) slots) && test s))
  at_test true is rest =
      (λ i. key_tied (q, s) (p, e) i || rest i)
      ∙ with_slot (same_prefix q p) (eqb s e) (list_any (eq_by_cmp nat_cmp s) slots) (test s) (λ same. ap test (eqb-true s e same) ∙ is)
  at_test false is rest = rest ∙ no_slot (same_prefix q p) (eqb s e) (list_any (eq_by_cmp nat_cmp s) slots) (test s) (λ same. ap test (eqb-true s e same) ∙ is)

-- ---- values

module _ (reader : Reader RouteFields) (q : IpPrefix) (s : ℕ) where
  abbrev value_of : Ribs RouteFields → Option RouteFields
  value_of ribs = at_prefix ribs.given q s

  either_way : (b : Bool) (x : Option RouteFields) → cond b x x ≡ x
  either_way true x = refl
  either_way false x = refl

  both_works : (here later up : Bool) (x y z : Option RouteFields) → (here ≡ true → x ≡ y) → cond (later && up) y (cond (here && up) x z) ≡ cond ((here || later) && up) y z
  both_works true true true x y z same = refl
  both_works true true false x y z same = refl
  both_works true false true x y z same = same refl
  both_works true false false x y z same = refl
  both_works false later up x y z same = refl

  -- the cells after work on some prefixes
  cells-all : (ps : List IpPrefix) (ribs : Ribs RouteFields) → value_of (ribs_after_all reader (works ps) ribs) ≡ cond (is_among ps q && is_up ribs s) (offered reader ribs q s) (value_of ribs)
  unfolding ribs_after ribs_after_all
  cells-all [] ribs = refl
  cells-all (p ∷ ps) ribs =
      cells-all ps (ribs_after reader (Work p) ribs)
      ∙ ap (cond (is_among ps q && is_up ribs s) (offered reader ribs q s)) (cells-after reader ribs p q s)
      ∙ both_works (same_prefix q p) (is_among ps q) (is_up ribs s) (offered reader ribs p s) (offered reader ribs q s) (value_of ribs) (λ e. ap (λ r. offered reader ribs r s) (sym (same_prefix-is q p e)))

  -- a value changes at the first work on its prefix, or later, but not at both
  one_change : (p : IpPrefix) (ps : List IpPrefix) (ribs : Ribs RouteFields)
      → (value_of (ribs_after reader (Work p) ribs) ≡ value_of ribs) ⊎ (value_of (ribs_after_all reader (works ps) (ribs_after reader (Work p) ribs)) ≡ value_of (ribs_after reader (Work p) ribs))
  unfolding ribs_after
  one_change p ps ribs = at_test (same_prefix q p) refl (is_up ribs s) refl where
    next : Ribs RouteFields
    next = ribs_after reader (Work p) ribs

    at_test : (here : Bool) → same_prefix q p ≡ here → (up : Bool) → is_up ribs s ≡ up → (value_of next ≡ value_of ribs) ⊎ (value_of (ribs_after_all reader (works ps) next) ≡ value_of next)
    at_test true is true up =
        let now : value_of next ≡ offered reader ribs q s =
        cells-after reader ribs p q s
        ∙ (λ i. cond (is i && up i) (offered reader ribs p s) (value_of ribs))
        ∙ ap (λ r. offered reader ribs r s) (sym (same_prefix-is q p is)) in
        inr (cells-all ps next ∙ ap (λ o. cond (is_among ps q && is_up ribs s) o (value_of next)) (sym now) ∙ either_way (is_among ps q && is_up ribs s) (value_of next))
    at_test true is false down = inl (cells-after reader ribs p q s ∙ (λ i. cond (is i && down i) (offered reader ribs p s) (value_of ribs)))
    at_test false other up_ up = inl (cells-after reader ribs p q s ∙ (λ i. cond (other i && is_up ribs s) (offered reader ribs p s) (value_of ribs)))

-- ---- one work

module _ (reader : Reader RouteFields) (ribs : Ribs RouteFields) (p q : IpPrefix) (s : ℕ) where
  unchanged : at_prefix (ribs_after reader (Work p) ribs).given q s ≡ at_prefix ribs.given q s → false ≡ has_changed ribs (ribs_after reader (Work p) ribs) s q
  unchanged same = sym (ap (λ o. not (Same (at_prefix ribs.given q s) o)) same ∙ ap not (same-itself (at_prefix ribs.given q s)))

  differs_at : (here : Bool) → same_prefix q p ≡ here → (up : Bool) → is_up ribs s ≡ up
      → (here && (up && has_changed ribs (ribs_after reader (Work p) ribs) s p)) ≡ has_changed ribs (ribs_after reader (Work p) ribs) s q
  differs_at true is true up = ap (has_changed ribs (ribs_after reader (Work p) ribs) s) (sym (same_prefix-is q p is))
  differs_at true is false down = unchanged (cells-after reader ribs p q s ∙ (λ i. cond (is i && down i) (offered reader ribs p s) (at_prefix ribs.given q s)))
  differs_at false other up_ up = unchanged (cells-after reader ribs p q s ∙ (λ i. cond (other i && is_up ribs s) (offered reader ribs p s) (at_prefix ribs.given q s)))

  dirty-one : (dirty : Cells) → set_of.contains (dirty_with reader p ribs dirty) (q, s) ≡ (set_of.contains dirty (q, s) || has_changed ribs (ribs_after reader (Work p) ribs) s q)
  dirty-one dirty =
      let cells = map (λ slot. (p, slot)) (filter (λ slot. has_changed ribs (ribs_after reader (Work p) ribs) slot p) (set_of.items ribs.connected)) in
      set_of.contains-union rib_total dirty (set_of.from_list cells) (q, s)
      ∙ ap (λ b. set_of.contains dirty (q, s) || b)
      (set_of.contains-from_list rib_total cells (q, s)
      ∙ any-of p (λ e. has_changed ribs (ribs_after reader (Work p) ribs) e p) (set_of.items ribs.connected) q s
      ∙ ap (λ b. same_prefix q p && (b && has_changed ribs (ribs_after reader (Work p) ribs) s p)) (sym (set_of.contains-items ribs.connected s))
      ∙ differs_at (same_prefix q p) refl (is_up ribs s) refl)

-- ---- all work

grouped : (a b c : Bool) → ((a || b) || c) ≡ (a || (b || c))
grouped true b c = refl
grouped false b c = refl

joined : (x y z : Option RouteFields) → (y ≡ x) ⊎ (z ≡ y) → (not (Same x y) || not (Same y z)) ≡ not (Same x z)
joined x y z (inl first) = (λ i. not (Same x (first i)) || not (Same (first i) z)) ∙ ap (λ b. not b || not (Same x z)) (same-itself x)
joined x y z (inr later) = (λ i. not (Same x y) || not (Same y (later i))) ∙ ap (λ b. not (Same x y) || not b) (same-itself y) ∙ or-false (not (Same x y)) ∙ (λ i. not (Same x (sym later i)))

pub dirty-all : (reader : Reader RouteFields) (ps : List IpPrefix) (ribs : Ribs RouteFields) (dirty : Cells) (q : IpPrefix) (s : ℕ)
    → set_of.contains (dirty_over reader ps ribs dirty) (q, s) ≡ (set_of.contains dirty (q, s) || has_changed ribs (ribs_after_all reader (works ps) ribs) s q)
unfolding dirty_over ribs_after_all
dirty-all reader [] ribs dirty q s = sym (ap (λ b. set_of.contains dirty (q, s) || not b) (same-itself (at_prefix ribs.given q s)) ∙ or-false (set_of.contains dirty (q, s)))
dirty-all reader (p ∷ ps) ribs dirty q s =
    let next = ribs_after reader (Work p) ribs in
    let last = ribs_after_all reader (works ps) next in
    dirty-all reader ps next (dirty_with reader p ribs dirty) q s
    ∙ ap (λ b. b || has_changed next last s q) (dirty-one reader ribs p q s dirty)
    ∙ grouped (set_of.contains dirty (q, s)) (has_changed ribs next s q) (has_changed next last s q)
    ∙ ap (λ b. set_of.contains dirty (q, s) || b) (joined (at_prefix ribs.given q s) (at_prefix next.given q s) (at_prefix last.given q s) (one_change reader q s p ps ribs))
