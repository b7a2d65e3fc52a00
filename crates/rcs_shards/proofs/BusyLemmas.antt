-- The places of the shards that have a dirty cell.
use Rattle.std.proofs.Common.{◌≡◌, ◌≢◌, ℕ, ◌+◌, ◌<◌, ◌≤◌, true, false, eqb, List, [], ◌∷◌, ◌++◌, length, map, get_or, Option, Some, None, refl, sym, ap, ◌∙◌, subst, arith, ◌⊎◌, inl, inr}
use Rattle.std.proofs.Math.ListN.{set}
use Rattle.std.specs.Prelude.{All, Contains, slice_get}
use Rattle.std.specs.FinSet as set_of
use Rattle.std.proofs.lemmas.Bool.{false≢true, cases_eq}
use Rattle.std.proofs.lemmas.List.{length-map, length-set, length_push, get_or-set_same, get_or-set_other, get_or_append_left, get_or_push, get_or_default}
use Rattle.std.proofs.lemmas.List.Elements.{All-nil, All-push}
use Rattle.std.proofs.lemmas.Option.{slice_get_within, slice_get-get_or, get_or_from_slice_get}
use Rattle.rcp_base.specs.IpPrefix.{IpPrefix}
use Rattle.rcp_base.specs.Roster.{RosterOf}
use Rattle.cost_rows.specs.Views.{ViewOf}
use Rattle.rcp_model.specs.Assigned.{IsLeast}
use Rattle.platform_laws.specs.Parts.{shard_number}
use Rattle.rcs_shard.specs.Shards.{ShardOf, is_dirty, taken}
use Rattle.rcs_shards.specs.Dirty.{sliced, sliced_found, sliced_at, dirty_in, has_dirty, cleaned, ArePending, AreBusy}
use Rattle.rcs_shards.specs.Joins.{AreTogether}
use Rattle.rcs_shards.specs.Least.{lesser_of, HasSome}
use Rattle.rcs_shards.proofs.LeastLemmas.{HasBelow, least-same, least-none, least-turn, least-all}
use Rattle.rcs_shards.proofs.PlaceLemmas.{found-map, found-set, set-found, set-others}
use Rattle.rcs_shards.proofs.WorkLemmas.{slice-none}

-- ---- after work

-- no cell of a shard is dirty where none was pending
idle : (s t : ShardOf) (slot : ℕ) (p : IpPrefix) → s.dirty ≡ set_of.empty → set_of.len s.ribs.pending ≡ 0 → sliced (set_of.len s.ribs.pending) s ≡ t → is_dirty t slot p ≡ true → ⊥
idle s t slot p clean none made dirty =
    let same : s ≡ t = sym (slice-none s) ∙ ap (λ n. sliced n s) (sym none) ∙ made in
    false≢true (sym (ap (λ d. set_of.contains d (p, slot)) (sym (ap (λ (u : ShardOf). u.dirty) same) ∙ clean) ∙ set_of.contains-empty _ (p, slot)) ∙ dirty)

module _ (roster : RosterOf) (view : ViewOf) (connected : ℕ) (shards : List ShardOf) (h : AreTogether roster view connected shards) where
  clean_at : (n : ℕ) (s : ShardOf) → slice_get shards n ≡ Some s → s.dirty ≡ set_of.empty
  clean_at n s here = (h.placed n s here).clean

  -- all shards are worked
  pub busy-all : (now : List ShardOf) (places : List ℕ) (count : ℕ) → ArePending shards places count → length shards ≤ count → now ≡ map (λ (s : ShardOf). sliced (set_of.len s.ribs.pending) s) shards → AreBusy roster now places
  busy-all now places count pending all made = record {
    within = subst (λ n. All (λ k. k < n) places) (sym (ap length made ∙ length-map shards (λ (s : ShardOf). sliced (set_of.len s.ribs.pending) s))) pending.within;
    listed = λ slot p dirty. at slot p (slice_get now (shard_number roster p)) refl dirty;
  } where
    at : (slot : ℕ) (p : IpPrefix) (o : Option ShardOf) → slice_get now (shard_number roster p) ≡ o → dirty_in o slot p ≡ true → Contains places (shard_number roster p)
    at slot p None none dirty = absurd (false≢true dirty)
    at slot p (Some t) here dirty =
        let found = found-map (λ (s : ShardOf). sliced (set_of.len s.ribs.pending) s) shards (shard_number roster p) t (sym (ap (λ l. slice_get l (shard_number roster p)) made) ∙ here) in
        let low = slice_get_within shards (shard_number roster p) found.0 found.1 in
        elim (pending.listed (shard_number roster p) found.0 (omega (arith, low, all)) found.1) [
          | inl listed ↦ listed
          | inr none ↦ absurd (idle found.0 t slot p (clean_at (shard_number roster p) found.0 found.1) none found.2 dirty)
        ]

  -- one shard is worked, where it stands at the place
  pub busy-at : (now : List ShardOf) (place most : ℕ) (places : List ℕ) → All (λ n. n < length shards) places → (place < length shards → Contains places place) → now ≡ sliced_at place most shards → AreBusy roster now places
  busy-at now place most places within there made = by_found (slice_get shards place) refl made where
    no_dirty : (slot : ℕ) (p : IpPrefix) (s : ShardOf) → slice_get shards (shard_number roster p) ≡ Some s → is_dirty s slot p ≡ true → ⊥
    no_dirty slot p s here dirty = false≢true (sym (ap (λ d. set_of.contains d (p, slot)) (clean_at (shard_number roster p) s here) ∙ set_of.contains-empty _ (p, slot)) ∙ dirty)

    by_found : (o : Option ShardOf) → slice_get shards place ≡ o → now ≡ sliced_found place most o shards → AreBusy roster now places
    by_found None none same = record { within = subst (λ (l : List ShardOf). All (λ n. n < length l) places) (sym same) within; listed = λ slot p dirty. at slot p (slice_get now (shard_number roster p)) refl dirty } where
      at : (slot : ℕ) (p : IpPrefix) (o : Option ShardOf) → slice_get now (shard_number roster p) ≡ o → dirty_in o slot p ≡ true → Contains places (shard_number roster p)
      at slot p None none dirty = absurd (false≢true dirty)
      at slot p (Some t) here dirty = absurd (no_dirty slot p t (ap (λ l. slice_get l (shard_number roster p)) (sym same) ∙ here) dirty)
    by_found (Some s) found same = record {
      within = subst (λ n. All (λ k. k < n) places) (sym (ap length same ∙ length-set shards place (sliced most s))) within;
      listed = λ slot p dirty. at slot p (slice_get now (shard_number roster p)) refl dirty;
    } where
      at : (slot : ℕ) (p : IpPrefix) (o : Option ShardOf) → slice_get now (shard_number roster p) ≡ o → dirty_in o slot p ≡ true → Contains places (shard_number roster p)
      at slot p None none dirty = absurd (false≢true dirty)
      at slot p (Some t) here dirty = elim (found-set shards place (shard_number roster p) (sliced most s) t (sym (ap (λ l. slice_get l (shard_number roster p)) same) ∙ here)) [
        | inl is ↦ subst (Contains places) (sym is.0) (there (slice_get_within shards place s found))
        | inr other ↦ absurd (no_dirty slot p t other.1 dirty)
      ]

-- ---- turns of the loop over the shards

pub pending-none : (shards : List ShardOf) → ArePending shards [] 0
pending-none shards = record { within = All-nil (λ n. n < length shards); listed = λ n s low. absurd (omega (arith, low)) }

contains_more : (places : List ℕ) (n m : ℕ) → Contains places n → Contains (places ++ m ∷ []) n
contains_more places n m has = let low = has.1 in (has.0, omega (arith, low, length_push places m), get_or_append_left places (m ∷ []) n has.0 has.1 ∙ has.2)

contains_last : (places : List ℕ) (n : ℕ) → Contains (places ++ n ∷ []) n
contains_last places n = (length places, omega (arith, length_push places n), get_or_push places n n (length places) refl)

pub pending-more : (shards : List ShardOf) (places : List ℕ) (count : ℕ) → ArePending shards places count → count < length shards → ArePending shards (places ++ count ∷ []) (count + 1)
pending-more shards places count so_far low = record {
  within = All-push (λ n. n < length shards) places count so_far.within low;
  listed = λ n s below here. at n s here (cases_eq n count) below;
} where
  at : (n : ℕ) (s : ShardOf) → slice_get shards n ≡ Some s → (n ≡ count) ⊎ (n ≢ count) → n < count + 1 → Contains (places ++ count ∷ []) n ⊎ (set_of.len s.ribs.pending ≡ 0)
  at n s here (inl same) below = inl (subst (Contains (places ++ count ∷ [])) (sym same) (contains_last places count))
  at n s here (inr other) below = elim (so_far.listed n s (omega (arith, below)) here) [ inl listed ↦ inl (contains_more places n count listed) | inr none ↦ inr none ]

pub pending-skip : (shards : List ShardOf) (places : List ℕ) (count : ℕ) (shard : ShardOf) → ArePending shards places count → shard ≡ get_or shards count shard → count < length shards → set_of.len shard.ribs.pending ≡ 0
    → ArePending shards places (count + 1)
pending-skip shards places count shard so_far read low none = record { within = so_far.within; listed = λ n s below here. at n s here (cases_eq n count) below } where
  at : (n : ℕ) (s : ShardOf) → slice_get shards n ≡ Some s → (n ≡ count) ⊎ (n ≢ count) → n < count + 1 → Contains places n ⊎ (set_of.len s.ribs.pending ≡ 0)
  at n s here (inl same) below =
      let s_is : s ≡ shard = sym (get_or_from_slice_get shards n s s here) ∙ ap (λ k. get_or shards k s) same ∙ get_or_default shards count s shard low ∙ sym read in
      inr (ap (λ (u : ShardOf). set_of.len u.ribs.pending) s_is ∙ none)
  at n s here (inr other) below = so_far.listed n s (omega (arith, below)) here
