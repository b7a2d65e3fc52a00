-- Events on all shards.
use Rattle.std.proofs.Common.{◌≡◌, ℕ, zero, suc, ◌+◌, ◌-◌, ◌<◌, ◌≤◌, Bool, true, false, cond, ◌&&◌, not, ◌⊎◌, eqb, ltb, List, [], ◌∷◌, length, map, Option, Some, refl, sym, ap, ◌∙◌, inl, inr, subst, arith}
use Rattle.std.proofs.Math.ListN.{set}
use Rattle.std.specs.Prelude.{slice_get}
use Rattle.std.specs.FinSet as set_of
use Rattle.std.specs.Ordering.{nat_cmp}
use Rattle.std.specs.Ordering.{eq_by_cmp}
use Rattle.std.specs.Cmp.{unsigned_tied}
use Rattle.std.proofs.lemmas.Bool.{false≢true, and_parts, or_cases, eq-eqb, eqb-true}
use Rattle.std.proofs.lemmas.Bool.Decides.{nat_tests}
use Rattle.std.proofs.lemmas.Cmp.{nat_cmp_total}
use Rattle.std.proofs.lemmas.Map.Lookups.{exact_unsigned}
use Rattle.std.proofs.lemmas.List.{map-set}
use Rattle.rcp_base.specs.IpPrefix.{IpPrefix}
use Rattle.rcp_base.specs.Roster.{RosterOf}
use Rattle.rcp_base.specs.declared.names.Edge.{Edge}
use Rattle.cost_rows.specs.Views.{ViewOf}
use Rattle.rcp_model.specs.Ribs.{RibKey, rib_cmp}
use Rattle.rcp_model.specs.Routes.{RouteFields}
use Rattle.rcp_model.specs.Telling.{IsRouteOf}
use Rattle.rcp_model.specs.ServerRibs.{RibEvent, Up, Down, Change, Links, Work, Ribs, ribs_after, concerns}
use Rattle.rcp_model.proofs.RibLemmas.{rib_total, rib_exact}
use Rattle.platform_laws.specs.Parts.{roster_reader, shard_number, shards_after, Announces, AreSound, edges_after, connected_after}
use Rattle.platform_laws.proofs.PartEvents.{on-each, on-one}
use Rattle.platform_laws.proofs.SoundShards.{sound-after}
use Rattle.rcs_shard.specs.Shards.{ShardOf, CellSet, dirty_after, without_cells_of}
use Rattle.rcs_shard.specs.Shards as shard
use Rattle.rcs_shards.specs.Servers.{IsSoundServer, connected_in, edges_in}
use Rattle.rcs_shards.specs.Dirty.{ribs_in}
use Rattle.rcs_shards.specs.Joins.{IsPlaced, ArePlaced, IsSeat, AreTogether}
use Rattle.rcs_shards.proofs.PlaceLemmas.{found-map, map-found, found-set, map_over_map, map-each}

-- ---- what each shard has after an event

module _ (roster : RosterOf) where
  -- an event of all shards
  pub all-act : (event : RibEvent RouteFields) → ((owns : IpPrefix → Bool) → concerns owns event ≡ true) → (shards : List ShardOf) → ArePlaced roster shards
      → ribs_in (map (shard.acted event) shards) ≡ shards_after roster event (ribs_in shards)
  all-act event all shards placed =
      map_over_map (shard.acted event) (λ s. s.ribs) shards
      ∙ map-each (λ s. (shard.acted event s).ribs) (λ s. ribs_after (roster_reader roster) event s.ribs) shards (λ n s is. ap (λ m. ribs_after (record { members = m; route = λ route. route; same = (roster_reader roster).same }) event s.ribs) (placed n s is).members_are)
      ∙ sym (map_over_map (λ (s : ShardOf). s.ribs) (ribs_after (roster_reader roster) event) shards)
      ∙ sym (on-each roster event all 0 (ribs_in shards))

  -- an event of one prefix
  pub one-acts : (slot : ℕ) (p : IpPrefix) (route : Option RouteFields) (shards : List ShardOf) → ArePlaced roster shards → (s : ShardOf) → slice_get shards (shard_number roster p) ≡ Some s
      → ribs_in (set shards (shard_number roster p) (shard.acted (Change slot p route) s)) ≡ shards_after roster (Change slot p route) (ribs_in shards)
  one-acts slot p route shards placed s is =
      map-set (λ (t : ShardOf). t.ribs) shards (shard_number roster p) (shard.acted (Change slot p route) s)
      ∙ ap (λ m. set (ribs_in shards) (shard_number roster p) (ribs_after (record { members = m; route = λ route. route; same = (roster_reader roster).same }) (Change slot p route) s.ribs)) (placed (shard_number roster p) s is).members_are
      ∙ sym (on-one roster (Change slot p route) (shard_number roster p) (λ n. refl) (shard_number roster p) 0 (ribs_in shards) s.ribs (omega arith) (map-found (λ (t : ShardOf). t.ribs) shards (shard_number roster p) s is))

  -- ---- places

  pub placed-map : (f : ShardOf → ShardOf) → ((n : ℕ) (s : ShardOf) → IsPlaced roster n s → IsPlaced roster n (f s)) → (shards : List ShardOf) → ArePlaced roster shards → ArePlaced roster (map f shards)
  placed-map f kept shards placed n s is =
      let found = found-map f shards n s is in
      subst (IsPlaced roster n) found.2 (kept n found.0 (placed n found.0 found.1))

  pub placed-set : (k : ℕ) (new : ShardOf) (shards : List ShardOf) → IsPlaced roster k new → ArePlaced roster shards → ArePlaced roster (set shards k new)
  placed-set k new shards new_placed placed n s is = elim (found-set shards k n new s is) [
    | inl here ↦ subst (λ m. IsPlaced roster m s) (sym here.0) (subst (IsPlaced roster k) here.1 new_placed)
    | inr other ↦ placed n s other.1
  ]

-- ---- clean cells

nothing_left : (b : Bool) → (false && b) ≡ false
nothing_left b = refl

pub none-without : (slot : ℕ) (dirty : CellSet) → dirty ≡ set_of.empty → without_cells_of slot dirty ≡ set_of.empty
none-without slot dirty clean =
    ap (without_cells_of slot) clean
    ∙ set_of.same_set rib_total rib_exact (without_cells_of slot set_of.empty) set_of.empty (λ (q : RibKey).
    set_of.contains-retain set_of.empty (λ (key : RibKey). not (eqb key.1 slot)) q (λ x tied. ap (λ (key : RibKey). not (eqb key.1 slot)) (sym (rib_exact q x tied)))
    ∙ ap (λ b. b && not (eqb q.1 slot)) (set_of.contains-empty rib_cmp q) ∙ sym (set_of.contains-empty rib_cmp q))

-- an event but work
abbrev pub IsNoWork : RibEvent RouteFields → Type 0
IsNoWork (Work p) = ⊥
IsNoWork event = Unit {0}

clean-after : (event : RibEvent RouteFields) → IsNoWork event → (before now : Ribs RouteFields) (dirty : CellSet) → dirty ≡ set_of.empty → dirty_after event before now dirty ≡ set_of.empty
clean-after (Up slot) other before now dirty clean = none-without slot dirty clean
clean-after (Down slot) other before now dirty clean = none-without slot dirty clean
clean-after (Change slot p route) other before now dirty clean = clean
clean-after (Links edges) other before now dirty clean = clean
clean-after (Work p) other before now dirty clean = absurd other

pub place-kept : (roster : RosterOf) (event : RibEvent RouteFields) → IsNoWork event → (n : ℕ) (s : ShardOf) → IsPlaced roster n s → IsPlaced roster n (shard.acted event s)
place-kept roster event other n s placed = record {
  number_is = placed.number_is;
  shards_are = placed.shards_are;
  members_are = placed.members_are;
  clean = clean-after event other s.ribs (shard.acted event s).ribs s.dirty placed.clean;
}

-- ---- the edges and the connected slots of sound shards

pub sound-edges : (roster : RosterOf) (edges : List Edge) (connected : set_of.FinSet nat_cmp) (shards : List (Ribs RouteFields)) → AreSound roster edges connected shards
    → (edges_in shards ≡ edges) × (connected_in shards ≡ connected)
sound-edges roster edges connected [] h = let some = h.some in let count = h.count in absurd (omega (arith, some, count))
sound-edges roster edges connected (ribs ∷ shards) h = (h.each.0.edges_are, h.each.0.connected_are)

pub sound-again : (roster : RosterOf) (edges : List Edge) (connected : set_of.FinSet nat_cmp) (shards : List (Ribs RouteFields)) → AreSound roster edges connected shards
    → IsSoundServer (record { roster = roster; shards = shards })
sound-again roster edges connected shards h =
    let same = sound-edges roster edges connected shards h in
    subst (λ e. AreSound roster e (connected_in shards) shards) (sym same.0) (subst (λ c. AreSound roster edges c shards) (sym same.1) h)

-- ---- all shards after an event

module _ (roster : RosterOf) (view after : ViewOf) (count later : ℕ) (shards now : List ShardOf) (h : AreTogether roster view count shards) where
  abbrev edges_now : List Edge
  edges_now = edges_in (ribs_in shards)

  abbrev connected_now : set_of.FinSet nat_cmp
  connected_now = connected_in (ribs_in shards)

  pub together-after : (event : RibEvent RouteFields) → Announces (IsRouteOf roster.as_number) event → ribs_in now ≡ shards_after roster event (ribs_in shards) → ArePlaced roster now
      → ((slot : ℕ) → set_of.contains (connected_after event connected_now) slot ≡ true → IsSeat roster slot)
      → after.members ≡ roster.members → after.edges ≡ edges_after event edges_now → later ≡ set_of.len (connected_after event connected_now)
      → AreTogether roster after later now
  together-after event good acts placed seats members edges counted =
      let sound : AreSound roster (edges_after event edges_now) (connected_after event connected_now) (ribs_in now) =
      subst (AreSound roster (edges_after event edges_now) (connected_after event connected_now)) (sym acts) (sound-after roster edges_now connected_now event (ribs_in shards) good h.sound) in
      let same = sound-edges roster (edges_after event edges_now) (connected_after event connected_now) (ribs_in now) sound in
      record {
        placed = placed;
        sound = sound-again roster (edges_after event edges_now) (connected_after event connected_now) (ribs_in now) sound;
        seats = λ slot inside. seats slot (sym (ap (λ c. set_of.contains c slot) same.1) ∙ inside);
        few = h.few;
        members = members;
        edges = edges ∙ sym same.0;
        counted = counted ∙ ap set_of.len (sym same.1);
      }

-- ---- how many slots are connected

pub low_or_last : (k m : ℕ) → k < suc m → (k < m) ⊎ (k ≡ m)
low_or_last k m low = elim (ltb k m) as (λ b. ltb k m ≡ b → (k < m) ⊎ (k ≡ m)) [ true ↦ λ e. inl (grind (arith, nat_tests)) | false ↦ λ e. inr (grind (arith, nat_tests)) ] refl

not_true : (b : Bool) → (b ≡ true → ⊥) → b ≡ false
not_true true h = absurd (h refl)
not_true false h = refl

-- a set of numbers below another has no more
pub len-below : (m : ℕ) (s : set_of.FinSet nat_cmp) → ((k : ℕ) → set_of.contains s k ≡ true → k < m) → set_of.len s ≤ m
len-below zero s low =
    let none : s ≡ set_of.empty = set_of.same_set nat_cmp_total exact_unsigned s set_of.empty (λ q. not_true (set_of.contains s q) (λ inside. omega (arith, low q inside)) ∙ sym (set_of.contains-empty nat_cmp q)) in
    let len : set_of.len s ≡ 0 = ap set_of.len none ∙ set_of.len-empty nat_cmp in
    omega (arith, len)
len-below (suc m) s low = by_last (set_of.contains s m) refl (len-below m (set_of.remove s m) rest_low) (λ out. len-below m s (all_low out)) where
  rest_low : (k : ℕ) → set_of.contains (set_of.remove s m) k ≡ true → k < m
  rest_low k inside =
      let both = and_parts (not (eq_by_cmp nat_cmp k m)) (set_of.contains s k) (sym (set_of.contains-remove nat_cmp_total s m k) ∙ inside) in
      elim (low_or_last k m (low k both.1)) [
        | inl less ↦ less
        | inr last ↦ absurd (false≢true (ap not (sym (unsigned_tied k m ∙ eq-eqb k m last)) ∙ both.0))
      ]

  all_low : set_of.contains s m ≡ false → (k : ℕ) → set_of.contains s k ≡ true → k < m
  all_low out k inside = elim (low_or_last k m (low k inside)) [
    | inl less ↦ less
    | inr last ↦ absurd (false≢true (sym out ∙ ap (set_of.contains s) (sym last) ∙ inside))
  ]

  by_last : (b : Bool) → set_of.contains s m ≡ b → set_of.len (set_of.remove s m) ≤ m → (set_of.contains s m ≡ false → set_of.len s ≤ m) → set_of.len s ≤ suc m
  by_last true inside rest others =
      let len : set_of.len (set_of.remove s m) ≡ set_of.len s - 1 = set_of.len-remove nat_cmp_total s m ∙ ap (λ b. cond b (set_of.len s - 1) (set_of.len s)) inside in
      omega (arith, rest, len)
  by_last false outside rest others = let all = others outside in omega (arith, all)

-- one slot more, or one less
pub len-up : (s : set_of.FinSet nat_cmp) (slot : ℕ) (b : Bool) → set_of.contains s slot ≡ b → set_of.len (set_of.insert s slot) ≡ cond b (set_of.len s) (set_of.len s + 1)
len-up s slot b is = set_of.len-insert nat_cmp_total s slot ∙ ap (λ c. cond c (set_of.len s) (set_of.len s + 1)) is

pub len-down : (s : set_of.FinSet nat_cmp) (slot : ℕ) → set_of.contains s slot ≡ true → (set_of.len (set_of.remove s slot) ≡ set_of.len s - 1) × (1 ≤ set_of.len s)
len-down s slot inside = (
  set_of.len-remove nat_cmp_total s slot ∙ ap (λ c. cond c (set_of.len s - 1) (set_of.len s)) inside,
  some (set_of.len s) refl,
) where
  some : (n : ℕ) → set_of.len s ≡ n → 1 ≤ n
  some zero none = absurd (false≢true (sym (ap (λ t. set_of.contains t slot) (set_of.empty_of_len s none) ∙ set_of.contains-empty nat_cmp slot) ∙ inside))
  some (suc n) is = omega arith

-- ---- seats

module _ (roster : RosterOf) (connected : set_of.FinSet nat_cmp) (slot : ℕ) (seats : (s : ℕ) → set_of.contains connected s ≡ true → IsSeat roster s) where
  pub seats-up : slot < length roster.members → (s : ℕ) → set_of.contains (set_of.insert connected slot) s ≡ true → IsSeat roster s
  seats-up member s inside = elim (or_cases (eq_by_cmp nat_cmp s slot) (set_of.contains connected s) (sym (set_of.contains-insert nat_cmp_total connected slot s) ∙ inside)) [
    | inl same ↦ let is : s ≡ slot = eqb-true s slot (sym (unsigned_tied s slot) ∙ same) in omega (arith, is, member)
    | inr before ↦ seats s before
  ]

  pub seats-down : (s : ℕ) → set_of.contains (set_of.remove connected slot) s ≡ true → IsSeat roster s
  seats-down s inside = seats s (and_parts (not (eq_by_cmp nat_cmp s slot)) (set_of.contains connected s) (sym (set_of.contains-remove nat_cmp_total connected slot s) ∙ inside)).1

  pub few-up : set_of.len connected ≤ length roster.members
  few-up = len-below (length roster.members) connected seats
