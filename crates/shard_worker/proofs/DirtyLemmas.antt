-- The dirty cells of a slot: the least one first, and what the others are once it is clean.
use Rattle.std.proofs.Common.{◌≡◌, ℕ, Bool, true, false, not, ◌&&◌, eqb, List, [], ◌∷◌, map, Option, Some, None, refl, sym, ap, ◌∙◌, inl, inr}
use Rattle.std.specs.FinSet as set_of
use Rattle.std.specs.List.{list_any}
use Rattle.std.specs.Ordering.{eq_by_cmp}
use Rattle.std.proofs.lemmas.Bool.{and_parts, and_from, or_cases, or_left, or_right, eqb-true, eq-eqb, ne_eqb, false≢true}
use Rattle.rcp_base.specs.IpPrefix.{IpPrefix, prefix_cmp}
use Rattle.rcp_base.specs.Maps.{same_prefix}
use Rattle.rcp_model.specs.Assigned.{IsLeast}
use Rattle.rcp_model.specs.Ribs.{RibKey, rib_cmp}
use Rattle.rcp_model.proofs.RibLemmas.{prefix_total, prefix_exact, rib_total, rib_exact}
use Rattle.rib_laws.proofs.RibLookups.{same_test, prefix_tied, key_tied}
use Rattle.platform_laws.specs.Asked.{rising_of}
use Rattle.platform_laws.proofs.PendingLists.{least-first, none-least}
use Rattle.rcs_shard.specs.Shards.{ShardOf, CellSet, is_dirty, IsLeastDirty, taken}
use Rattle.shard_worker.specs.Offers.{dirty_prefixes, dirty_of}

-- ---- the set of a slot's dirty prefixes

any_key : (keys : List RibKey) (p : IpPrefix) → list_any (eq_by_cmp prefix_cmp p) (map (λ k. k.0) keys) ≡ true → (slot : ℕ) × (list_any (eq_by_cmp rib_cmp (p, slot)) keys ≡ true)
any_key [] p any = absurd (false≢true any)
any_key (k ∷ keys) p any = elim (or_cases (eq_by_cmp prefix_cmp p k.0) (list_any (eq_by_cmp prefix_cmp p) (map (λ l. l.0) keys)) any) [
  | inl here ↦ (
    k.1,
    or_left (eq_by_cmp rib_cmp (p, k.1) k) (list_any (eq_by_cmp rib_cmp (p, k.1)) keys)
        (key_tied (p, k.1) k ∙ and_from (same_prefix p k.0) (eqb k.1 k.1) (sym (prefix_tied p k.0) ∙ here) (eq-eqb k.1 k.1 refl)),
  )
  | inr later ↦ let found = any_key keys p later in (found.0, or_right (eq_by_cmp rib_cmp (p, found.0) k) (list_any (eq_by_cmp rib_cmp (p, found.0)) keys) found.1)
]

key_any : (keys : List RibKey) (p : IpPrefix) (slot : ℕ) → list_any (eq_by_cmp rib_cmp (p, slot)) keys ≡ true → list_any (eq_by_cmp prefix_cmp p) (map (λ k. k.0) keys) ≡ true
key_any [] p slot any = absurd (false≢true any)
key_any (k ∷ keys) p slot any = elim (or_cases (eq_by_cmp rib_cmp (p, slot) k) (list_any (eq_by_cmp rib_cmp (p, slot)) keys) any) [
  | inl here ↦ or_left (eq_by_cmp prefix_cmp p k.0) (list_any (eq_by_cmp prefix_cmp p) (map (λ l. l.0) keys))
      (prefix_tied p k.0 ∙ (and_parts (same_prefix p k.0) (eqb slot k.1) (sym (key_tied (p, slot) k) ∙ here)).0)
  | inr later ↦ or_right (eq_by_cmp prefix_cmp p k.0) (list_any (eq_by_cmp prefix_cmp p) (map (λ l. l.0) keys)) (key_any keys p slot later)
]

pub contains-retained : (dirty : CellSet) (test : RibKey → Bool) (key : RibKey) → set_of.contains (set_of.retain dirty test) key ≡ (set_of.contains dirty key && test key)
contains-retained dirty test key = set_of.contains-retain dirty test key (λ x tied. sym (ap test (rib_exact key x tied)))

module _ (shard : ShardOf) (slot : ℕ) (p : IpPrefix) where
  own : CellSet
  own = set_of.retain shard.dirty (λ key. eqb key.1 slot)

  in_own : (other : ℕ) → set_of.contains own (p, other) ≡ (set_of.contains shard.dirty (p, other) && eqb other slot)
  unfolding own
  in_own other = contains-retained shard.dirty (λ key. eqb key.1 slot) (p, other)

  from_prefixes : set_of.contains (dirty_prefixes shard slot) p ≡ true → is_dirty shard slot p ≡ true
  unfolding own
  from_prefixes inside =
      let found = any_key (set_of.items own) p (sym (set_of.contains-from_list prefix_total (map (λ k. k.0) (set_of.items own)) p) ∙ inside) in
      let both = and_parts (set_of.contains shard.dirty (p, found.0)) (eqb found.0 slot) (sym (in_own found.0) ∙ set_of.contains-items own (p, found.0) ∙ found.1) in
      ap (λ s. set_of.contains shard.dirty (p, s)) (sym (eqb-true found.0 slot both.1)) ∙ both.0

  to_prefixes : is_dirty shard slot p ≡ true → set_of.contains (dirty_prefixes shard slot) p ≡ true
  unfolding own
  to_prefixes dirty =
      set_of.contains-from_list prefix_total (map (λ k. k.0) (set_of.items own)) p
      ∙ key_any (set_of.items own) p slot (sym (set_of.contains-items own (p, slot)) ∙ in_own slot ∙ and_from (set_of.contains shard.dirty (p, slot)) (eqb slot slot) dirty (eq-eqb slot slot refl))

  pub dirty_at : set_of.contains (dirty_prefixes shard slot) p ≡ is_dirty shard slot p
  dirty_at = same_test (set_of.contains (dirty_prefixes shard slot) p) (is_dirty shard slot p) from_prefixes to_prefixes

-- shards with the same dirty cells of a slot
pub same_dirty : (a b : ShardOf) (slot other : ℕ) → ((p : IpPrefix) → is_dirty a slot p ≡ is_dirty b other p) → dirty_of a slot ≡ dirty_of b other
same_dirty a b slot other same =
    ap rising_of (set_of.same_set prefix_total prefix_exact (dirty_prefixes a slot) (dirty_prefixes b other) (λ p. dirty_at a slot p ∙ same p ∙ sym (dirty_at b other p)))

-- ---- the least one goes first

least_in : (shard : ShardOf) (slot : ℕ) (least : Option IpPrefix) → IsLeastDirty shard slot least → IsLeast (λ p. set_of.contains (dirty_prefixes shard slot) p ≡ true) least
least_in shard slot None none = λ q inside. none q (sym (dirty_at shard slot q) ∙ inside)
least_in shard slot (Some p) least = (dirty_at shard slot p ∙ least.0, λ q inside before. least.1 q (sym (dirty_at shard slot q) ∙ inside) before)

module _ (shard : ShardOf) (slot : ℕ) (p : IpPrefix) where
  pub dirty_after : (other : ℕ) (q : IpPrefix) → is_dirty (taken slot (Some p) shard) other q ≡ (not (same_prefix q p && eqb other slot) && is_dirty shard other q)
  dirty_after other q = set_of.contains-remove rib_total shard.dirty (p, slot) (q, other) ∙ ap (λ b. not b && is_dirty shard other q) (key_tied (q, other) (p, slot))

  own_after : (q : IpPrefix) → set_of.contains (dirty_prefixes (taken slot (Some p) shard) slot) q ≡ set_of.contains (set_of.remove (dirty_prefixes shard slot) p) q
  own_after q =
      dirty_at (taken slot (Some p) shard) slot q ∙ dirty_after slot q
      ∙ ap (λ b. not (same_prefix q p && b) && is_dirty shard slot q) (eq-eqb slot slot refl)
      ∙ ap (λ b. not b && is_dirty shard slot q) (and-true (same_prefix q p))
      ∙ sym (set_of.contains-remove prefix_total (dirty_prefixes shard slot) p q
      ∙ (λ i. not (prefix_tied q p i) && dirty_at shard slot q i)) where
        and-true : (b : Bool) → (b && true) ≡ b
        and-true true = refl
        and-true false = refl

  pub dirty_first : IsLeastDirty shard slot (Some p) → dirty_of shard slot ≡ p ∷ dirty_of (taken slot (Some p) shard) slot
  dirty_first least =
      least-first (dirty_prefixes shard slot) p (least_in shard slot (Some p) least)
      ∙ ap (λ s. p ∷ rising_of s) (sym (set_of.same_set prefix_total prefix_exact (dirty_prefixes (taken slot (Some p) shard) slot) (set_of.remove (dirty_prefixes shard slot) p) own_after))

  pub others_stay : (other : ℕ) → (other ≡ slot → ⊥) → dirty_of (taken slot (Some p) shard) other ≡ dirty_of shard other
  others_stay other differs =
      same_dirty (taken slot (Some p) shard) shard other other (λ q.
      dirty_after other q ∙ ap (λ b. not (same_prefix q p && b) && is_dirty shard other q) (ne_eqb other slot differs) ∙ ap (λ b. not b && is_dirty shard other q) (and-false (same_prefix q p))) where
        and-false : (b : Bool) → (b && false) ≡ false
        and-false true = refl
        and-false false = refl

pub none_dirty : (shard : ShardOf) (slot : ℕ) → IsLeastDirty shard slot None → dirty_of shard slot ≡ []
none_dirty shard slot none = none-least (dirty_prefixes shard slot) (least_in shard slot None none)
