-- Each event keeps what a shard keeps.
use Rattle.std.proofs.Common.{◌≡◌, ℕ, zero, suc, ◌+◌, Bool, true, false, cond, not, ◌&&◌, List, [], ◌∷◌, replicate, ◌≤◌, Option, Some, None, IfSome, IsSome, is_some, refl, sym, ap, ◌∙◌, subst, arith}
use Rattle.std.specs.Prelude.{slice_get}
use Rattle.std.specs.FinMap as map_of
use Rattle.std.specs.FinSet as set_of
use Rattle.std.specs.Ordering.{nat_cmp}
use Rattle.std.proofs.lemmas.Bool.{and_parts, eqb-true, false≢true}
use Rattle.std.proofs.lemmas.List.{length-replicate}
use Rattle.rcp_base.specs.IpPrefix.{IpPrefix, prefix_cmp}
use Rattle.rcp_base.specs.declared.names.Edge.{Edge}
use Rattle.rcp_base.specs.Roster.{RosterOf}
use Rattle.rcp_model.specs.Ribs.{rib_cmp}
use Rattle.rcp_model.specs.Routes.{RouteFields}
use Rattle.rcp_model.specs.Telling.{IsRouteOf}
use Rattle.rcp_model.specs.ServerRibs.{Reader, RibEvent, Up, Down, Change, Links, Work, Ribs, at_prefix, with_value, same_values, is_up, has_pending, empty_ribs, ribs_after, part, is_of, concerns}
use Rattle.rib_laws.proofs.JoinLemmas.{ribs_by_answers}
use Rattle.rib_laws.proofs.PartLemmas.{part_after, get-owned, contains-owned}
use Rattle.rib_laws.proofs.SettledLemmas.{settled_after, settled_empty}
use Rattle.platform_laws.specs.Parts.{shard_number, roster_reader, shards_from, shards_after, Announces, IsSoundShard, AreSoundFrom, AreSound, edges_after, connected_after}
use Rattle.platform_laws.proofs.EachValue.{each-after}
use Rattle.platform_laws.proofs.PartEvents.{from-length}
use Rattle.platform_laws.proofs.IdleSlots.{idle-after}

change-edges : {V : Type 0} (b : Bool) (slot : ℕ) (q : IpPrefix) (value : Option V) (ribs : Ribs V)
    → (cond b (record ribs { announced = with_value (q, slot) value ribs.announced; pending = set_of.insert ribs.pending q }) ribs).edges ≡ ribs.edges
change-edges true slot q value ribs = refl
change-edges false slot q value ribs = refl

change-connected : {V : Type 0} (b : Bool) (slot : ℕ) (q : IpPrefix) (value : Option V) (ribs : Ribs V)
    → (cond b (record ribs { announced = with_value (q, slot) value ribs.announced; pending = set_of.insert ribs.pending q }) ribs).connected ≡ ribs.connected
change-connected true slot q value ribs = refl
change-connected false slot q value ribs = refl

edges-then : (reader : Reader RouteFields) (event : RibEvent RouteFields) (ribs : Ribs RouteFields) → (ribs_after reader event ribs).edges ≡ edges_after event ribs.edges
unfolding ribs_after
edges-then reader (Up slot) ribs = refl
edges-then reader (Down slot) ribs = refl
edges-then reader (Change slot q value) ribs = change-edges (is_up ribs slot && not (same_values reader.same (map_of.get ribs.announced (q, slot)) value)) slot q value ribs
edges-then reader (Links edges) ribs = refl
edges-then reader (Work q) ribs = refl

connected-then : (reader : Reader RouteFields) (event : RibEvent RouteFields) (ribs : Ribs RouteFields) → (ribs_after reader event ribs).connected ≡ connected_after event ribs.connected
unfolding ribs_after
connected-then reader (Up slot) ribs = refl
connected-then reader (Down slot) ribs = refl
connected-then reader (Change slot q value) ribs = change-connected (is_up ribs slot && not (same_values reader.same (map_of.get ribs.announced (q, slot)) value)) slot q value ribs
connected-then reader (Links edges) ribs = refl
connected-then reader (Work q) ribs = refl

module _ (roster : RosterOf) (edges : List Edge) (connected : set_of.FinSet nat_cmp) (number : ℕ) (ribs : Ribs RouteFields) (h : IsSoundShard roster edges connected number ribs) where
  owns : IpPrefix → Bool
  owns = is_of (shard_number roster) number

  taken : (event : RibEvent RouteFields) → concerns owns event ≡ true → Announces (IsRouteOf roster.as_number) event
      → IsSoundShard roster (edges_after event edges) (connected_after event connected) number (ribs_after (roster_reader roster) event ribs)
  unfolding owns
  taken event concerned good = record {
    own = part_after (is_of (shard_number roster) number) (roster_reader roster) event ribs
        ∙ (λ i. cond (concerned i) (ribs_after (roster_reader roster) event (h.own i)) (h.own i));
    edges_are = edges-then (roster_reader roster) event ribs ∙ ap (edges_after event) h.edges_are;
    connected_are = connected-then (roster_reader roster) event ribs ∙ ap (connected_after event) h.connected_are;
    routes = each-after (IsRouteOf roster.as_number) (roster_reader roster) event ribs good h.routes;
    idle = idle-after (roster_reader roster) ribs h.idle event;
    settled = settled_after (roster_reader roster) event ribs h.settled;
  }

  either : (event : RibEvent RouteFields) (b : Bool) → concerns owns event ≡ b → IsSoundShard roster (edges_after event edges) (connected_after event connected) number (ribs_after (roster_reader roster) event ribs)
      → IsSoundShard roster (edges_after event edges) (connected_after event connected) number ribs
      → IsSoundShard roster (edges_after event edges) (connected_after event connected) number (cond b (ribs_after (roster_reader roster) event ribs) ribs)
  either event true is now before = now
  either event false is now before = before

  pub sound-one : (event : RibEvent RouteFields) → Announces (IsRouteOf roster.as_number) event
      → IsSoundShard roster (edges_after event edges) (connected_after event connected) number
      (cond (concerns (is_of (shard_number roster) number) event) (ribs_after (roster_reader roster) event ribs) ribs)
  unfolding owns
  sound-one (Up slot) good = taken (Up slot) refl good
  sound-one (Down slot) good = taken (Down slot) refl good
  sound-one (Links new) good = taken (Links new) refl good
  sound-one (Change slot p value) good = at_test (is_of (shard_number roster) number p) refl where
    at_test : (b : Bool) → is_of (shard_number roster) number p ≡ b → IsSoundShard roster edges connected number (cond b (ribs_after (roster_reader roster) (Change slot p value) ribs) ribs)
    at_test true is = taken (Change slot p value) is good
    at_test false is = h
  sound-one (Work p) good = at_test (is_of (shard_number roster) number p) refl where
    at_test : (b : Bool) → is_of (shard_number roster) number p ≡ b → IsSoundShard roster edges connected number (cond b (ribs_after (roster_reader roster) (Work p) ribs) ribs)
    at_test true is = taken (Work p) is good
    at_test false is = h

sound-from : (roster : RosterOf) (edges : List Edge) (connected : set_of.FinSet nat_cmp) (event : RibEvent RouteFields) (number : ℕ) (shards : List (Ribs RouteFields)) → Announces (IsRouteOf roster.as_number) event
    → AreSoundFrom roster edges connected number shards → AreSoundFrom roster (edges_after event edges) (connected_after event connected) number (shards_from roster event number shards)
sound-from roster edges connected event number [] good h = tt
sound-from roster edges connected event number (ribs ∷ shards) good h =
    (sound-one roster edges connected number ribs h.0 event good, sound-from roster edges connected event (suc number) shards good h.1)

pub sound-after : (roster : RosterOf) (edges : List Edge) (connected : set_of.FinSet nat_cmp) (event : RibEvent RouteFields) (shards : List (Ribs RouteFields)) → Announces (IsRouteOf roster.as_number) event
    → AreSound roster edges connected shards → AreSound roster (edges_after event edges) (connected_after event connected) (shards_after roster event shards)
sound-after roster edges connected event shards good h = record {
  some = h.some;
  count = from-length roster event 0 shards ∙ h.count;
  each = sound-from roster edges connected event 0 shards good h.each;
}

pub sound-at : (roster : RosterOf) (edges : List Edge) (connected : set_of.FinSet nat_cmp) (number n : ℕ) (shards : List (Ribs RouteFields)) (ribs : Ribs RouteFields) → AreSoundFrom roster edges connected number shards
    → slice_get shards n ≡ Some ribs → IsSoundShard roster edges connected (n + number) ribs
sound-at roster edges connected number n [] ribs h is = absurd cc
sound-at roster edges connected number zero (first ∷ shards) ribs h is =
    let first_is : first ≡ ribs = cc in
    let same : number ≡ 0 + number = omega arith in
    subst (λ k. IsSoundShard roster edges connected k ribs) same (subst (IsSoundShard roster edges connected number) first_is h.0)
sound-at roster edges connected number (suc n) (first ∷ shards) ribs h is =
    let same : n + suc number ≡ suc n + number = omega arith in
    subst (λ k. IsSoundShard roster edges connected k ribs) same (sound-at roster edges connected (suc number) n shards ribs h.1 is)

-- ---- own prefixes

module _ (roster : RosterOf) (edges : List Edge) (connected : set_of.FinSet nat_cmp) (number : ℕ) (ribs : Ribs RouteFields) (h : IsSoundShard roster edges connected number ribs) where
  in_part : (b : Bool) (o : Option RouteFields) → is_some (cond b o None) ≡ true → b ≡ true
  in_part true o some = refl
  in_part false o some = absurd (false≢true some)

  pub own-announced : (p : IpPrefix) (slot : ℕ) → IsSome (at_prefix ribs.announced p slot) → shard_number roster p ≡ number
  own-announced p slot some = eqb-true (shard_number roster p) number (in_part (is_of (shard_number roster) number p) (at_prefix ribs.announced p slot)
      (ap is_some (sym (get-owned (is_of (shard_number roster) number) ribs.announced p slot) ∙ ap (λ (r : Ribs RouteFields). at_prefix r.announced p slot) h.own) ∙ some))

  pub own-given : (p : IpPrefix) (slot : ℕ) → IsSome (at_prefix ribs.given p slot) → shard_number roster p ≡ number
  own-given p slot some = eqb-true (shard_number roster p) number (in_part (is_of (shard_number roster) number p) (at_prefix ribs.given p slot)
      (ap is_some (sym (get-owned (is_of (shard_number roster) number) ribs.given p slot) ∙ ap (λ (r : Ribs RouteFields). at_prefix r.given p slot) h.own) ∙ some))

  pub own-pending : (p : IpPrefix) → has_pending ribs p ≡ true → shard_number roster p ≡ number
  own-pending p inside = eqb-true (shard_number roster p) number (and_parts (has_pending ribs p) (is_of (shard_number roster) number p)
      (sym (contains-owned (is_of (shard_number roster) number) ribs.pending p) ∙ ap (λ (r : Ribs RouteFields). has_pending r p) h.own ∙ inside)).1

-- ---- the beginning

no_routes : Ribs RouteFields → Type 0
no_routes ribs = (p : IpPrefix) (slot : ℕ) → (at_prefix ribs.announced p slot ≡ None) × (at_prefix ribs.given p slot ≡ None)

if_none : (P : RouteFields → Type 0) (o : Option RouteFields) → o ≡ None → IfSome o P
if_none P o none = subst (λ x. IfSome x P) (sym none) tt

none_in_part : (b : Bool) (o : Option RouteFields) → o ≡ None → cond b o None ≡ o
none_in_part true o none = refl
none_in_part false o none = sym none

nothing : (edges : List Edge) → no_routes (empty_ribs edges)
unfolding no_routes
nothing edges p slot = (map_of.get-empty rib_cmp (p, slot), map_of.get-empty rib_cmp (p, slot))

sound-empty : (roster : RosterOf) (edges : List Edge) (number : ℕ) → IsSoundShard roster edges set_of.empty number (empty_ribs edges)
unfolding no_routes
sound-empty roster edges number =
    let empty : Ribs RouteFields = empty_ribs edges in
    record {
      own = ribs_by_answers (part (is_of (shard_number roster) number) empty) empty (λ s. refl)
          (λ p s. get-owned (is_of (shard_number roster) number) empty.announced p s ∙ none_in_part (is_of (shard_number roster) number p) (at_prefix empty.announced p s) (nothing edges p s).0)
          (λ p s. get-owned (is_of (shard_number roster) number) empty.given p s ∙ none_in_part (is_of (shard_number roster) number p) (at_prefix empty.given p s) (nothing edges p s).1)
          (λ p. contains-owned (is_of (shard_number roster) number) empty.pending p ∙ ap (λ b. b && is_of (shard_number roster) number p) (set_of.contains-empty prefix_cmp p) ∙ sym (set_of.contains-empty prefix_cmp p))
          refl;
      edges_are = refl;
      connected_are = refl;
      routes = record {
        announced = λ p s. if_none (IsRouteOf roster.as_number) (at_prefix empty.announced p s) (nothing edges p s).0;
        given = λ p s. if_none (IsRouteOf roster.as_number) (at_prefix empty.given p s) (nothing edges p s).1;
      };
      idle = λ slot p down. nothing edges p slot;
      settled = settled_empty (roster_reader roster) edges;
    }

empties-sound : (roster : RosterOf) (edges : List Edge) (number count : ℕ) → AreSoundFrom roster edges set_of.empty number (replicate count (empty_ribs edges))
empties-sound roster edges number zero = tt
empties-sound roster edges number (suc count) = (sound-empty roster edges number, empties-sound roster edges (suc number) count)

pub sound-new : (roster : RosterOf) (edges : List Edge) → 1 ≤ roster.shards → AreSound roster edges set_of.empty (replicate roster.shards (empty_ribs edges))
sound-new roster edges some = record { some = some; count = length-replicate roster.shards (empty_ribs edges); each = empties-sound roster edges 0 roster.shards }
