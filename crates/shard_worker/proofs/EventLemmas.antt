-- What each event does to what a shard answers of its connected slots, its cells and the dirty ones.
use Rattle.std.proofs.Common.{◌≡◌, ℕ, Bool, true, false, cond, not, ◌&&◌, ◌||◌, eqb, List, [], ◌∷◌, Option, Some, None, refl, sym, ap, ◌∙◌}
use Rattle.std.specs.FinSet as set_of
use Rattle.std.specs.Cmp.{unsigned_tied}
use Rattle.std.proofs.lemmas.Cmp.{nat_cmp_total}
use Rattle.std.proofs.lemmas.Bool.{false≢true}
use Rattle.rcp_base.specs.IpPrefix.{IpPrefix}
use Rattle.rcp_base.specs.declared.names.Edge.{Edge}
use Rattle.rcp_model.specs.Routes.{RouteFields}
use Rattle.rcp_model.specs.ServerRibs.{Up, Down, Change, Links, Work, same_values, same_route, at_prefix, is_up, with_value, route_reader, ribs_after, ribs_after_all}
use Rattle.rib_laws.proofs.RibLookups.{get-without_slot}
use Rattle.rib_laws.proofs.PendingLemmas.{route_exact}
use Rattle.platform_laws.specs.Dirty.{dirty_over}
use Rattle.platform_laws.proofs.DirtyCells.{dirty-all}
use Rattle.rcs_shard.specs.Shards.{ShardOf, is_connected, is_dirty, given_at, acted}
use Rattle.shard_worker.proofs.DirtyLemmas.{contains-retained}

module _ (shard : ShardOf) (slot : ℕ) where
  -- ---- Up

  pub up_connected : (s : ℕ) → is_connected (acted (Up slot) shard) s ≡ (eqb s slot || is_connected shard s)
  unfolding ribs_after
  up_connected s = set_of.contains-insert nat_cmp_total shard.ribs.connected slot s ∙ ap (λ b. b || is_connected shard s) (unsigned_tied s slot)

  pub up_given : (s : ℕ) (p : IpPrefix) → given_at (acted (Up slot) shard) s p ≡ cond (eqb s slot) None (given_at shard s p)
  unfolding ribs_after
  up_given s p = get-without_slot slot shard.ribs.given (p, s)

  pub up_dirty : (s : ℕ) (p : IpPrefix) → is_dirty (acted (Up slot) shard) s p ≡ (is_dirty shard s p && not (eqb s slot))
  up_dirty s p = contains-retained shard.dirty (λ key. not (eqb key.1 slot)) (p, s)

  -- ---- Down

  pub down_connected : (s : ℕ) → is_connected (acted (Down slot) shard) s ≡ (not (eqb s slot) && is_connected shard s)
  unfolding ribs_after
  down_connected s = set_of.contains-remove nat_cmp_total shard.ribs.connected slot s ∙ ap (λ b. not b && is_connected shard s) (unsigned_tied s slot)

  pub down_given : (s : ℕ) (p : IpPrefix) → given_at (acted (Down slot) shard) s p ≡ cond (eqb s slot) None (given_at shard s p)
  unfolding ribs_after
  down_given s p = get-without_slot slot shard.ribs.given (p, s)

  pub down_dirty : (s : ℕ) (p : IpPrefix) → is_dirty (acted (Down slot) shard) s p ≡ (is_dirty shard s p && not (eqb s slot))
  down_dirty s p = contains-retained shard.dirty (λ key. not (eqb key.1 slot)) (p, s)

  -- ---- Change

  module _ (q : IpPrefix) (value : Option RouteFields) where
    pub change_connected : (s : ℕ) → is_connected (acted (Change slot q value) shard) s ≡ is_connected shard s
    unfolding ribs_after
    change_connected s = at_test (is_up shard.ribs slot && not (same_values same_route (at_prefix shard.ribs.announced q slot) value)) where
      at_test : (b : Bool) → is_up (cond b (record shard.ribs {
        announced = with_value (q, slot) value shard.ribs.announced;
        pending = set_of.insert shard.ribs.pending q;
      }) shard.ribs) s ≡ is_up shard.ribs s
      at_test true = refl
      at_test false = refl

    pub change_given : (s : ℕ) (p : IpPrefix) → given_at (acted (Change slot q value) shard) s p ≡ given_at shard s p
    unfolding ribs_after
    change_given s p = at_test (is_up shard.ribs slot && not (same_values same_route (at_prefix shard.ribs.announced q slot) value)) where
      at_test : (b : Bool) → at_prefix (cond b (record shard.ribs {
        announced = with_value (q, slot) value shard.ribs.announced;
        pending = set_of.insert shard.ribs.pending q;
      }) shard.ribs).given p s ≡ at_prefix shard.ribs.given p s
      at_test true = refl
      at_test false = refl

-- ---- Links

pub links_connected : (shard : ShardOf) (edges : List Edge) (s : ℕ) → is_connected (acted (Links edges) shard) s ≡ is_connected shard s
unfolding ribs_after
links_connected shard edges s = refl

pub links_given : (shard : ShardOf) (edges : List Edge) (s : ℕ) (p : IpPrefix) → given_at (acted (Links edges) shard) s p ≡ given_at shard s p
unfolding ribs_after
links_given shard edges s p = refl

-- ---- Work

module _ (shard : ShardOf) (q : IpPrefix) where
  pub work_connected : (s : ℕ) → is_connected (acted (Work q) shard) s ≡ is_connected shard s
  unfolding ribs_after
  work_connected s = refl

  -- a cell that isn't dirty afterwards wasn't so before, and has the route that it had
  pub work_dirty : (s : ℕ) (p : IpPrefix)
      → is_dirty (acted (Work q) shard) s p ≡ (is_dirty shard s p || not (same_values same_route (given_at shard s p) (given_at (acted (Work q) shard) s p)))
  unfolding dirty_over ribs_after_all
  work_dirty s p = dirty-all (route_reader shard.members) (q ∷ []) shard.ribs shard.dirty p s

  clean : (dirty same : Bool) → (dirty || not same) ≡ false → (dirty ≡ false) × (same ≡ true)
  clean true same is = absurd (false≢true (sym is))
  clean false true is = (refl, refl)
  clean false false is = absurd (false≢true (sym is))

  equal : (a b : Option RouteFields) → same_values same_route a b ≡ true → a ≡ b
  equal None None same = refl
  equal None (Some b) same = absurd (false≢true same)
  equal (Some a) None same = absurd (false≢true same)
  equal (Some a) (Some b) same = ap Some (route_exact.sound a b same)

  pub work_clean : (s : ℕ) (p : IpPrefix) → is_dirty (acted (Work q) shard) s p ≡ false → (is_dirty shard s p ≡ false) × (given_at (acted (Work q) shard) s p ≡ given_at shard s p)
  work_clean s p quiet =
      let both = clean (is_dirty shard s p) (same_values same_route (given_at shard s p) (given_at (acted (Work q) shard) s p)) (sym (work_dirty s p) ∙ quiet) in
      (both.0, sym (equal (given_at shard s p) (given_at (acted (Work q) shard) s p) both.1))
