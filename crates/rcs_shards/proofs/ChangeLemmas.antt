-- The cells that work on some prefixes changes, over all shards.
use Rattle.std.proofs.Common.{◌≡◌, ℕ, zero, suc, ◌+◌, Bool, true, false, cond, ◌&&◌, ◌||◌, not, ◌⊎◌, List, [], ◌∷◌, ◌++◌, length, take, Option, Some, refl, sym, ap, ◌∙◌, inl, inr, arith}
use Rattle.std.specs.Prelude.{filter, slice_get}
use Rattle.std.specs.List.{flat_map}
use Rattle.std.specs.FinSet as set_of
use Rattle.std.specs.Ordering.{nat_cmp}
use Rattle.std.proofs.lemmas.Bool.{false≢true, and_parts, or_cases, or_left, or_right, eq-eqb, eqb-true, ne_eqb}
use Rattle.std.proofs.lemmas.List.{length-map}
use Rattle.std.proofs.lemmas.Option.{slice_get_within}
use Rattle.rcp_base.specs.IpPrefix.{IpPrefix}
use Rattle.rcp_base.specs.Maps.{same_prefix, is_among}
use Rattle.rcp_base.specs.Roster.{RosterOf}
use Rattle.rcp_base.specs.declared.names.Edge.{Edge}
use Rattle.rcp_base.proofs.MapLemmas.{same_prefix-itself, is_among-include_all}
use Rattle.rcp_model.specs.Rising.{IsRising}
use Rattle.rcp_model.specs.Routes.{RouteFields}
use Rattle.rcp_model.specs.ServerRibs.{same_values, same_route, Work, Ribs, has_pending, ribs_after_all, is_of, route_reader}
use Rattle.rcp_model.proofs.RisingLemmas.{rising-filter, rising-include_all}
use Rattle.rib_laws.proofs.RibLookups.{same_test}
use Rattle.platform_laws.specs.Parts.{roster_reader, shard_number, shards_after_all, shards_after, AreSound}
use Rattle.platform_laws.specs.Asked.{rising_of, all_pending, given_in}
use Rattle.platform_laws.specs.Work.{works, is_changed, changed_prefixes}
use Rattle.platform_laws.proofs.ShardAnswers.{found_at, number-below}
use Rattle.platform_laws.proofs.SoundShards.{sound-after, sound-at, own-pending}
use Rattle.platform_laws.proofs.RisingLists.{among-filter, among-items, among-rising_of, rising_of-is}
use Rattle.rcs_shard.specs.Shards.{ShardOf}
use Rattle.rcs_shard.specs.Shards as shard
use Rattle.rcs_shards.specs.Servers.{IsSoundServer, connected_in, edges_in}
use Rattle.rcs_shards.specs.Dirty.{ribs_in, dirty_in, has_dirty, AreReady, AreDirty}
use Rattle.rcs_shards.specs.Joins.{server_of, ArePlaced, IsSeat}
use Rattle.rcs_shards.proofs.PlaceLemmas.{same_found, map-found, found-map}
use Rattle.rcs_shards.proofs.WorkLemmas.{own_of, work-is, worked_on, dirty-is, dirty-worked}

abbrev not_same : Option RouteFields → Option RouteFields → Bool
not_same a b = not (same_values same_route a b)

-- ---- work on some prefixes, each in its shard

module _ (roster : RosterOf) (shards now : List ShardOf) (ps : List IpPrefix) (placed : ArePlaced roster shards) (sound : IsSoundServer (server_of roster shards))
    (seats : (slot : ℕ) → set_of.contains (connected_in (ribs_in shards)) slot ≡ true → IsSeat roster slot)
    (long : length now ≡ length shards)
    (each : (n : ℕ) (s : ShardOf) → slice_get shards n ≡ Some s → slice_get now n ≡ Some (worked_on (own_of roster n ps) s)) where
  read : (s : ShardOf) (n : ℕ) → slice_get shards n ≡ Some s → (worked_on (own_of roster n ps) s).ribs ≡ ribs_after_all (roster_reader roster) (works (own_of roster n ps)) s.ribs
  read s n is = ap (λ m. ribs_after_all (route_reader m) (works (own_of roster n ps)) s.ribs) (placed n s is).members_are

  pub all-worked : ribs_in now ≡ shards_after_all roster (works ps) (ribs_in shards)
  all-worked = work-is roster ps (ribs_in shards) (ribs_in now) (length-map now (λ (s : ShardOf). s.ribs) ∙ long ∙ sym (length-map shards (λ (s : ShardOf). s.ribs))) (λ n ribs is.
      let found = found-map (λ (s : ShardOf). s.ribs) shards n ribs is in
      map-found (λ (s : ShardOf). s.ribs) now n (worked_on (own_of roster n ps) found.0) (each n found.0 found.1)
      ∙ ap (λ r. Some r) (read found.0 n found.1 ∙ ap (λ r. ribs_after_all (roster_reader roster) (works (own_of roster n ps)) r) found.2))

  long_is : length shards ≡ roster.shards
  long_is = sym (length-map shards (λ (s : ShardOf). s.ribs)) ∙ sound.count

  -- the shard of a prefix
  shard_at : (p : IpPrefix) → (s : ShardOf) × (slice_get shards (shard_number roster p) ≡ Some s)
  shard_at p = found_at shards (shard_number roster p) (let below = number-below roster p sound.some in omega (arith, below, long_is))

  pub dirty-changed : (slot : ℕ) (p : IpPrefix) → has_dirty roster now slot p ≡ is_changed roster (ribs_in shards) (ribs_in now) slot p
  dirty-changed slot p =
      let n = shard_number roster p in
      let found = shard_at p in
      let s = found.0 in
      let t = worked_on (own_of roster n ps) s in
      ap (λ o. dirty_in o slot p) (each n s found.1)
      ∙ dirty-is s (placed n s found.1).clean (own_of roster n ps) slot p
      ∙ sym (λ i. not_same (given_in (map-found (λ (u : ShardOf). u.ribs) shards n s found.1 i) p slot) (given_in (map-found (λ (u : ShardOf). u.ribs) now n t (each n s found.1) i) p slot))

  -- what stands at a place came of what stood there
  pub found_before : (n : ℕ) (t : ShardOf) → slice_get now n ≡ Some t → (s : ShardOf) × (slice_get shards n ≡ Some s) × (worked_on (own_of roster n ps) s ≡ t)
  found_before n t is =
      let low = slice_get_within now n t is in
      let found = found_at shards n (omega (arith, low, long)) in
      (found.0, found.1, same_found {o = slice_get now n} (worked_on (own_of roster n ps) found.0) t (each n found.0 found.1) is)

  -- a dirty cell is of a worked prefix of the shard's own, and of a connected slot
  dirty-own : (n : ℕ) (t : ShardOf) → slice_get now n ≡ Some t → (slot : ℕ) (p : IpPrefix) → shard.is_dirty t slot p ≡ true
      → (is_among ps p ≡ true) × (shard_number roster p ≡ n) × IsSeat roster slot
  dirty-own n t is slot p dirty =
      let found = found_before n t is in
      let s = found.0 in
      let both = dirty-worked s (placed n s found.1).clean (own_of roster n ps) slot p (ap (λ u. shard.is_dirty u slot p) found.2 ∙ dirty) in
      let parts = and_parts (is_among ps p) (is_of (shard_number roster) n p) (sym (among-filter (is_of (shard_number roster) n) ps p) ∙ both.0) in
      let here = sound-at roster (edges_in (ribs_in shards)) (connected_in (ribs_in shards)) 0 n (ribs_in shards) s.ribs sound.each (map-found (λ (u : ShardOf). u.ribs) shards n s found.1) in
      (parts.0, eqb-true (shard_number roster p) n parts.1, seats slot (ap (λ c. set_of.contains c slot) (sym here.connected_are) ∙ both.1))

  pub worked-ready : AreReady roster now
  worked-ready = record {
    count = long ∙ long_is;
    each = λ n t is.
        let found = found_before n t is in
        record {
          members = ap (λ (u : ShardOf). u.members) (sym found.2) ∙ (placed n found.0 found.1).members_are;
          seated = λ slot p dirty. (dirty-own n t is slot p dirty).2;
          own = λ slot p dirty. (dirty-own n t is slot p dirty).1;
        };
  }

  pub worked-dirty : IsRising ps → (slot : ℕ) → AreDirty roster now slot (changed_prefixes roster ps (ribs_in shards) (ribs_in now) slot)
  worked-dirty rising slot = record {
    rising = rising-filter (is_changed roster (ribs_in shards) (ribs_in now) slot) ps rising;
    exact = λ p.
        among-filter (is_changed roster (ribs_in shards) (ribs_in now) slot) ps p
        ∙ ap (λ b. is_among ps p && b) (sym (dirty-changed slot p))
        ∙ with_premise (is_among ps p) (has_dirty roster now slot p) (λ dirty.
        (dirty-own (shard_number roster p) (worked_on (own_of roster (shard_number roster p) ps) (shard_at p).0) (each (shard_number roster p) (shard_at p).0 (shard_at p).1) slot p
        (ap (λ o. dirty_in o slot p) (sym (each (shard_number roster p) (shard_at p).0 (shard_at p).1)) ∙ dirty)).0);
  } where
    with_premise : (a b : Bool) → (b ≡ true → a ≡ true) → (a && b) ≡ b
    with_premise true b h = refl
    with_premise false true h = h refl
    with_premise false false h = refl

-- ---- soundness

pub sound-worked : (roster : RosterOf) (edges : List Edge) (connected : set_of.FinSet nat_cmp) (ps : List IpPrefix) (shards : List (Ribs RouteFields)) → AreSound roster edges connected shards
    → AreSound roster edges connected (shards_after_all roster (works ps) shards)
unfolding shards_after_all
sound-worked roster edges connected [] shards h = h
sound-worked roster edges connected (p ∷ ps) shards h = sound-worked roster edges connected ps (shards_after roster (Work p) shards) (sound-after roster edges connected (Work p) shards tt h)

-- ---- all pending prefixes

among-append : (ps qs : List IpPrefix) (p : IpPrefix) → is_among (ps ++ qs) p ≡ (is_among ps p || is_among qs p)
among-append [] qs p = refl
among-append (q ∷ ps) qs p = ap (λ b. same_prefix p q || b) (among-append ps qs p) ∙ grouped (same_prefix p q) (is_among ps p) (is_among qs p) where
  grouped : (a b c : Bool) → (a || (b || c)) ≡ ((a || b) || c)
  grouped true b c = refl
  grouped false b c = refl

or_false : (b : Bool) → (b || false) ≡ b
or_false true = refl
or_false false = refl

abbrev items_of : List (Ribs RouteFields) → List IpPrefix
items_of shards = flat_map (λ ribs. set_of.items ribs.pending) shards

some-pending : (shards : List (Ribs RouteFields)) (p : IpPrefix) → is_among (items_of shards) p ≡ true → (n : ℕ) × (ribs : Ribs RouteFields) × (slice_get shards n ≡ Some ribs) × (has_pending ribs p ≡ true)
some-pending [] p among = absurd (false≢true among)
some-pending (ribs ∷ shards) p among = by_first (or_cases (is_among (set_of.items ribs.pending) p) (is_among (items_of shards) p) (sym (among-append (set_of.items ribs.pending) (items_of shards) p) ∙ among)) (some-pending shards p) where
  by_first : (is_among (set_of.items ribs.pending) p ≡ true) ⊎ (is_among (items_of shards) p ≡ true)
      → (is_among (items_of shards) p ≡ true → (n : ℕ) × (r : Ribs RouteFields) × (slice_get shards n ≡ Some r) × (has_pending r p ≡ true))
      → (n : ℕ) × (r : Ribs RouteFields) × (slice_get (ribs ∷ shards) n ≡ Some r) × (has_pending r p ≡ true)
  by_first (inl here) rest = (0, ribs, refl, sym (among-items ribs.pending p) ∙ here)
  by_first (inr later) rest = let found = rest later in (suc found.0, found.1, found.2, found.3)

pending-some : (shards : List (Ribs RouteFields)) (p : IpPrefix) (n : ℕ) (ribs : Ribs RouteFields) → slice_get shards n ≡ Some ribs → has_pending ribs p ≡ true → is_among (items_of shards) p ≡ true
pending-some [] p n ribs is has = absurd cc
pending-some (first ∷ shards) p zero ribs is has =
    let first_is : first ≡ ribs = cc in
    among-append (set_of.items first.pending) (items_of shards) p
    ∙ or_left (is_among (set_of.items first.pending) p) (is_among (items_of shards) p) (among-items first.pending p ∙ ap (λ (r : Ribs RouteFields). has_pending r p) first_is ∙ has)
pending-some (first ∷ shards) p (suc n) ribs is has =
    among-append (set_of.items first.pending) (items_of shards) p
    ∙ or_right (is_among (set_of.items first.pending) p) (is_among (items_of shards) p) (pending-some shards p n ribs is has)

pub rising-all : (shards : List (Ribs RouteFields)) → IsRising (all_pending shards)
rising-all shards = rising-include_all (items_of shards) [] tt

module _ (roster : RosterOf) (edges : List Edge) (connected : set_of.FinSet nat_cmp) (shards : List (Ribs RouteFields)) (h : AreSound roster edges connected shards) where
  pending-own : (n : ℕ) (ribs : Ribs RouteFields) → slice_get shards n ≡ Some ribs → (p : IpPrefix) → has_pending ribs p ≡ true → shard_number roster p ≡ n
  pending-own n ribs is p has =
      let same : n + 0 ≡ n = omega arith in
      own-pending roster edges connected (n + 0) ribs (sound-at roster edges connected 0 n shards ribs h.each is) p has ∙ same

  -- those of a number are those of its shard
  pub own-all : (n : ℕ) (ribs : Ribs RouteFields) → slice_get shards n ≡ Some ribs → own_of roster n (all_pending shards) ≡ rising_of ribs.pending
  own-all n ribs is = rising_of-is ribs.pending (own_of roster n (all_pending shards)) (rising-filter (is_of (shard_number roster) n) (all_pending shards) (rising-all shards)) (λ p.
      among-filter (is_of (shard_number roster) n) (all_pending shards) p
      ∙ ap (λ b. b && is_of (shard_number roster) n p) (is_among-include_all (items_of shards) [] p ∙ or_false (is_among (items_of shards) p))
      ∙ same_test (is_among (items_of shards) p && is_of (shard_number roster) n p) (has_pending ribs p)
      (λ both.
      let parts = and_parts (is_among (items_of shards) p) (is_of (shard_number roster) n p) both in
      let some = some-pending shards p parts.0 in
      let at : some.0 ≡ n = sym (pending-own some.0 some.1 some.2 p some.3) ∙ eqb-true (shard_number roster p) n parts.1 in
      let same : some.1 ≡ ribs = same_found {o = slice_get shards n} some.1 ribs (ap (slice_get shards) (sym at) ∙ some.2) is in
      ap (λ (r : Ribs RouteFields). has_pending r p) (sym same) ∙ some.3)
      (λ has. let among = pending-some shards p n ribs is has in let own = eq-eqb (shard_number roster p) n (pending-own n ribs is p has) in λ i. among i && own i))

  head-among : (p : IpPrefix) (ps : List IpPrefix) → is_among (p ∷ ps) p ≡ true
  head-among p ps = or_left (same_prefix p p) (is_among ps p) (same_prefix-itself p)

  -- so many of one shard are of its number alone
  among-take : (count : ℕ) (ps : List IpPrefix) (p : IpPrefix) → is_among (take count ps) p ≡ true → is_among ps p ≡ true
  among-take zero ps p among = absurd (false≢true among)
  among-take (suc count) [] p among = among
  among-take (suc count) (q ∷ ps) p among = elim (or_cases (same_prefix p q) (is_among (take count ps) p) among) [
    | inl same ↦ or_left (same_prefix p q) (is_among ps p) same
    | inr later ↦ or_right (same_prefix p q) (is_among ps p) (among-take count ps p later)
  ]

  keep-all : (test : IpPrefix → Bool) (ps : List IpPrefix) → ((p : IpPrefix) → is_among ps p ≡ true → test p ≡ true) → filter test ps ≡ ps
  keep-all test [] all = refl
  keep-all test (p ∷ ps) all =
      ap (λ b. cond b (p ∷ filter test ps) (filter test ps)) (all p (head-among p ps))
      ∙ ap (λ l. p ∷ l) (keep-all test ps (λ q among. all q (or_right (same_prefix q p) (is_among ps q) among)))

  keep-none : (test : IpPrefix → Bool) (ps : List IpPrefix) → ((p : IpPrefix) → is_among ps p ≡ true → test p ≡ false) → filter test ps ≡ []
  keep-none test [] none = refl
  keep-none test (p ∷ ps) none =
      ap (λ b. cond b (p ∷ filter test ps) (filter test ps)) (none p (head-among p ps))
      ∙ keep-none test ps (λ q among. none q (or_right (same_prefix q p) (is_among ps q) among))

  module _ (n count : ℕ) (ribs : Ribs RouteFields) (is : slice_get shards n ≡ Some ribs) where
    abbrev least : List IpPrefix
    least = take count (rising_of ribs.pending)

    least-own : (p : IpPrefix) → is_among least p ≡ true → shard_number roster p ≡ n
    least-own p among = pending-own n ribs is p (sym (among-rising_of ribs.pending p) ∙ among-take count (rising_of ribs.pending) p among)

    pub own-least : own_of roster n least ≡ least
    own-least = keep-all (is_of (shard_number roster) n) least (λ p among. eq-eqb (shard_number roster p) n (least-own p among))

    pub other-least : (k : ℕ) → (k ≡ n → ⊥) → own_of roster k least ≡ []
    other-least k other = keep-none (is_of (shard_number roster) k) least (λ p among. ne_eqb (shard_number roster p) k (λ e. other (sym e ∙ least-own p among)))
