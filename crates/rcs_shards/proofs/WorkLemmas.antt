-- Work on pending prefixes, shard by shard.
use Rattle.std.proofs.Common.{◌≡◌, ℕ, zero, suc, ◌+◌, ◌-◌, ◌<◌, ◌≤◌, Bool, true, false, cond, ◌&&◌, ◌||◌, not, List, [], ◌∷◌, length, take, get_or, Option, Some, None, is_some, refl, sym, ap, ◌∙◌, arith}
use Rattle.std.proofs.Math.ListN.{set}
use Rattle.std.specs.Prelude.{filter, slice_get, MatchOption}
use Rattle.std.specs.FinSet as set_of
use Rattle.std.proofs.lemmas.Bool.{false≢true, and_parts}
use Rattle.std.proofs.lemmas.Option.{slice_get_within, slice_get_past, slice_get-get_or}
use Rattle.rcp_base.specs.IpPrefix.{IpPrefix}
use Rattle.rcp_base.specs.Maps.{same_prefix, is_among}
use Rattle.rcp_base.specs.Roster.{RosterOf}
use Rattle.rcp_model.specs.Routes.{RouteFields}
use Rattle.rcp_model.specs.ServerRibs.{Reader, RibEvent, Work, Ribs, at_prefix, is_up, offered, ribs_after, ribs_after_all, same_values, same_route, concerns, is_of, route_reader}
use Rattle.rib_laws.proofs.PendingLemmas.{route_exact}
use Rattle.platform_laws.specs.Parts.{roster_reader, shard_number, shards_from, shards_after, shards_after_all}
use Rattle.platform_laws.specs.Asked.{rising_of}
use Rattle.platform_laws.specs.Work.{works}
use Rattle.platform_laws.specs.Dirty.{has_changed, dirty_over}
use Rattle.platform_laws.proofs.PartEvents.{from-length}
use Rattle.platform_laws.proofs.ShardWork.{cells-after}
use Rattle.platform_laws.proofs.DirtyCells.{dirty-all}
use Rattle.platform_laws.proofs.RisingLists.{among-rising_of, rising-rising_of, len-set}
use Rattle.platform_laws.proofs.PendingLists.{least-first, none-least}
use Rattle.rcs_shard.specs.Shards.{ShardOf, IsLeastPending}
use Rattle.rcs_shard.specs.Shards as shard
use Rattle.rcs_shards.specs.Dirty.{sliced, sliced_found, sliced_at}
use Rattle.rcs_shards.proofs.PlaceLemmas.{same_lists}

-- ---- one shard, prefix by prefix

pub slice-none : (s : ShardOf) → sliced 0 s ≡ s
unfolding ribs_after_all dirty_over
slice-none s = refl

pub slice-more : (count : ℕ) (s : ShardOf) (p : IpPrefix) → IsLeastPending s (Some p) → sliced (suc count) s ≡ sliced count (shard.acted (Work p) s)
unfolding ribs_after ribs_after_all dirty_over
slice-more count s p least = ap (λ ps. record s {
  ribs = ribs_after_all (route_reader s.members) (works (take (suc count) ps)) s.ribs;
  dirty = dirty_over (route_reader s.members) (take (suc count) ps) s.ribs s.dirty;
}) (least-first s.ribs.pending p least)

pub slice-done : (count : ℕ) (s : ShardOf) → IsLeastPending s None → sliced count s ≡ s
unfolding ribs_after_all dirty_over
slice-done zero s none = refl
slice-done (suc count) s none = ap (λ ps. record s {
  ribs = ribs_after_all (route_reader s.members) (works (take (suc count) ps)) s.ribs;
  dirty = dirty_over (route_reader s.members) (take (suc count) ps) s.ribs s.dirty;
}) (none-least s.ribs.pending none)

-- a turn of the loop
pub slice-turn : (most counter : ℕ) → counter < most → (s : ShardOf) (p : IpPrefix) (now : ShardOf) → IsLeastPending s (Some p) → now ≡ shard.acted (Work p) s → sliced (most - (counter + 1)) now ≡ sliced (most - counter) s
slice-turn most counter low s p now least is =
    let left : most - counter ≡ suc (most - (counter + 1)) = omega (arith, low) in
    ap (sliced (most - (counter + 1))) is ∙ sym (slice-more (most - (counter + 1)) s p least) ∙ ap (λ n. sliced n s) (sym left)

-- a turn, or the last one, where nothing is pending
module _ (most counter : ℕ) (s now : ShardOf) (o : Option IpPrefix) (none : Bool) (is_none : is_some o ≡ not none) (least : IsLeastPending s o)
    (is : MatchOption o (now ≡ s) (λ p. now ≡ shard.acted (Work p) s)) where
  pub work-turn : none ≡ false → counter < most → sliced (most - (counter + 1)) now ≡ sliced (most - counter) s
  work-turn more low = by_case o (is_none ∙ ap not more) least is where
    by_case : (q : Option IpPrefix) → is_some q ≡ true → IsLeastPending s q → MatchOption q (now ≡ s) (λ p. now ≡ shard.acted (Work p) s) → sliced (most - (counter + 1)) now ≡ sliced (most - counter) s
    by_case None none_q least_q is_q = absurd (false≢true none_q)
    by_case (Some p) some_q least_q is_q = slice-turn most counter low s p now least_q is_q

  pub work-last : none ≡ true → now ≡ sliced (most - counter) s
  work-last end = by_case o (is_none ∙ ap not end) least is where
    by_case : (q : Option IpPrefix) → is_some q ≡ false → IsLeastPending s q → MatchOption q (now ≡ s) (λ p. now ≡ shard.acted (Work p) s) → now ≡ sliced (most - counter) s
    by_case None none_q least_q is_q = is_q ∙ sym (slice-done (most - counter) s least_q)
    by_case (Some p) some_q least_q is_q = absurd (false≢true (sym some_q))

pub work-over : (most counter : ℕ) (s : ShardOf) → most ≤ counter → s ≡ sliced (most - counter) s
work-over most counter s over = let none : most - counter ≡ 0 = omega (arith, over) in sym (ap (λ n. sliced n s) none ∙ slice-none s)

take_all : {X : Type 0} (xs : List X) (n : ℕ) → n ≡ length xs → take n xs ≡ xs
take_all [] zero is = refl
take_all [] (suc n) is = refl
take_all (x ∷ xs) zero is = absurd (omega (arith, is))
take_all (x ∷ xs) (suc n) is = ap (λ l. x ∷ l) (take_all xs n (omega (arith, is)))

-- as many as are pending are all
pub take-pending : (ribs : Ribs RouteFields) → take (set_of.len ribs.pending) (rising_of ribs.pending) ≡ rising_of ribs.pending
take-pending ribs = take_all (rising_of ribs.pending) (set_of.len ribs.pending) (len-set ribs.pending (rising_of ribs.pending) (rising-rising_of ribs.pending) (among-rising_of ribs.pending))

-- ---- the shard at a place

none_past : {X : Type 0} (xs : List X) (n : ℕ) → n < length xs → slice_get xs n ≡ None → ⊥
none_past [] n low none = omega (arith, low)
none_past (x ∷ xs) zero low none = cc
none_past (x ∷ xs) (suc n) low none = none_past xs n (omega (arith, low)) none

module _ (roster : RosterOf) where
  event-at : (event : RibEvent RouteFields) (number n : ℕ) (shards : List (Ribs RouteFields)) (ribs : Ribs RouteFields) → slice_get shards n ≡ Some ribs
      → slice_get (shards_from roster event number shards) n ≡ Some (cond (concerns (is_of (shard_number roster) (n + number)) event) (ribs_after (roster_reader roster) event ribs) ribs)
  event-at event number n [] ribs is = absurd cc
  event-at event number zero (first ∷ shards) ribs is =
      let first_is : first ≡ ribs = cc in
      let same : number ≡ 0 + number = omega arith in
      λ i. Some (cond (concerns (is_of (shard_number roster) (same i)) event) (ribs_after (roster_reader roster) event (first_is i)) (first_is i))
  event-at event number (suc n) (first ∷ shards) ribs is =
      let same : n + suc number ≡ suc n + number = omega arith in
      event-at event (suc number) n shards ribs is ∙ ap (λ k. Some (cond (concerns (is_of (shard_number roster) k) event) (ribs_after (roster_reader roster) event ribs) ribs)) same

  -- the prefixes of a number
  abbrev pub own_of : ℕ → List IpPrefix → List IpPrefix
  own_of n ps = filter (is_of (shard_number roster) n) ps

  pub work-at : (ps : List IpPrefix) (n : ℕ) (shards : List (Ribs RouteFields)) (ribs : Ribs RouteFields) → slice_get shards n ≡ Some ribs
      → slice_get (shards_after_all roster (works ps) shards) n ≡ Some (ribs_after_all (roster_reader roster) (works (own_of n ps)) ribs)
  unfolding shards_after_all ribs_after_all
  work-at [] n shards ribs is = is
  work-at (p ∷ ps) n shards ribs is =
      let same : n + 0 ≡ n = omega arith in
      let next : slice_get (shards_after roster (Work p) shards) n ≡ Some (cond (is_of (shard_number roster) n p) (ribs_after (roster_reader roster) (Work p) ribs) ribs) =
      event-at (Work p) 0 n shards ribs is ∙ ap (λ k. Some (cond (is_of (shard_number roster) k p) (ribs_after (roster_reader roster) (Work p) ribs) ribs)) same in
      work-at ps n (shards_after roster (Work p) shards) (cond (is_of (shard_number roster) n p) (ribs_after (roster_reader roster) (Work p) ribs) ribs) next
      ∙ ap (λ r. Some r) (at_test (is_of (shard_number roster) n p)) where
        at_test : (b : Bool) → ribs_after_all (roster_reader roster) (works (own_of n ps)) (cond b (ribs_after (roster_reader roster) (Work p) ribs) ribs)
            ≡ ribs_after_all (roster_reader roster) (works (cond b (p ∷ own_of n ps) (own_of n ps))) ribs
        at_test true = refl
        at_test false = refl

  pub length-work : (ps : List IpPrefix) (shards : List (Ribs RouteFields)) → length (shards_after_all roster (works ps) shards) ≡ length shards
  unfolding shards_after_all
  length-work [] shards = refl
  length-work (p ∷ ps) shards = length-work ps (shards_after roster (Work p) shards) ∙ from-length roster (Work p) 0 shards

  -- shards are those after work, where each is at its place
  pub work-is : (ps : List IpPrefix) (shards now : List (Ribs RouteFields)) → length now ≡ length shards
      → ((n : ℕ) (ribs : Ribs RouteFields) → slice_get shards n ≡ Some ribs → slice_get now n ≡ Some (ribs_after_all (roster_reader roster) (works (own_of n ps)) ribs))
      → now ≡ shards_after_all roster (works ps) shards
  work-is ps shards now long each = sym (same_lists (shards_after_all roster (works ps) shards) now (length-work ps shards ∙ sym long) same) where
    at : (n : ℕ) (x : Ribs RouteFields) → slice_get (shards_after_all roster (works ps) shards) n ≡ Some x → (o : Option (Ribs RouteFields)) → slice_get shards n ≡ o → slice_get now n ≡ Some x
    at n x is None none = let low = slice_get_within (shards_after_all roster (works ps) shards) n x is in absurd (past (omega (arith, low, length-work ps shards)) none) where
      past : n < length shards → slice_get shards n ≡ None → ⊥
      past low none = none_past shards n low none
    at n x is (Some ribs) here = each n ribs here ∙ sym (work-at ps n shards ribs here) ∙ is

    same : (n : ℕ) (x : Ribs RouteFields) → slice_get (shards_after_all roster (works ps) shards) n ≡ Some x → slice_get now n ≡ Some x
    same n x is = at n x is (slice_get shards n) refl

-- ---- what one shard's work changes

-- the shard after work on some prefixes
abbrev pub worked_on : List IpPrefix → ShardOf → ShardOf
worked_on ps s = record s {
  ribs = ribs_after_all (route_reader s.members) (works ps) s.ribs;
  dirty = dirty_over (route_reader s.members) ps s.ribs s.dirty;
}

pub no_work : (s : ShardOf) → worked_on [] s ≡ s
unfolding ribs_after_all dirty_over
no_work s = refl

module _ (reader : Reader RouteFields) (q : IpPrefix) (slot : ℕ) where
  abbrev value_of : Ribs RouteFields → Option RouteFields
  value_of ribs = at_prefix ribs.given q slot

  -- a cell stays where its prefix isn't worked or its slot isn't connected
  cells-kept : (ps : List IpPrefix) (ribs : Ribs RouteFields) → (is_among ps q && is_up ribs slot) ≡ false → value_of (ribs_after_all reader (works ps) ribs) ≡ value_of ribs
  unfolding ribs_after ribs_after_all
  cells-kept [] ribs out = refl
  cells-kept (p ∷ ps) ribs out =
      cells-kept ps (ribs_after reader (Work p) ribs) (later (same_prefix q p) (is_among ps q) (is_up ribs slot) out)
      ∙ cells-after reader ribs p q slot
      ∙ ap (λ b. cond b (offered reader ribs p slot) (value_of ribs)) (first (same_prefix q p) (is_among ps q) (is_up ribs slot) out) where
        later : (a b u : Bool) → ((a || b) && u) ≡ false → (b && u) ≡ false
        later true true u out = out
        later true false u out = refl
        later false b u out = out

        first : (a b u : Bool) → ((a || b) && u) ≡ false → (a && u) ≡ false
        first true b u out = out
        first false b u out = refl

same-itself : (o : Option RouteFields) → same_values same_route o o ≡ true
same-itself None = refl
same-itself (Some route) = route_exact.itself route

-- a dirty cell of a shard that was clean is one that changed: its prefix was worked, and its slot is connected
module _ (s : ShardOf) (clean : s.dirty ≡ set_of.empty) (ps : List IpPrefix) (slot : ℕ) (q : IpPrefix) where
  pub dirty-is : shard.is_dirty (worked_on ps s) slot q ≡ has_changed s.ribs (worked_on ps s).ribs slot q
  dirty-is =
      dirty-all (route_reader s.members) ps s.ribs s.dirty q slot
      ∙ ap (λ b. b || has_changed s.ribs (worked_on ps s).ribs slot q) (ap (λ d. set_of.contains d (q, slot)) clean ∙ set_of.contains-empty _ (q, slot))

  pub dirty-worked : shard.is_dirty (worked_on ps s) slot q ≡ true → (is_among ps q ≡ true) × (is_up s.ribs slot ≡ true)
  dirty-worked dirty = at_test (is_among ps q && is_up s.ribs slot) refl where
    at_test : (b : Bool) → (is_among ps q && is_up s.ribs slot) ≡ b → (is_among ps q ≡ true) × (is_up s.ribs slot ≡ true)
    at_test true both = and_parts (is_among ps q) (is_up s.ribs slot) both
    at_test false out = absurd (false≢true (sym (
        ap (λ o. not (same_values same_route (at_prefix s.ribs.given q slot) o)) (cells-kept (route_reader s.members) q slot ps s.ribs out)
        ∙ ap not (same-itself (at_prefix s.ribs.given q slot))) ∙ sym dirty-is ∙ dirty))

-- ---- work at a place

pub sliced-there : (place count : ℕ) (shards : List ShardOf) (s new : ShardOf) → place < length shards → s ≡ get_or shards place s → new ≡ sliced count s → set shards place new ≡ sliced_at place count shards
sliced-there place count shards s new low read is =
    ap (set shards place) is ∙ ap (λ o. sliced_found place count o shards) (sym (slice_get-get_or shards place s low ∙ ap (λ t. Some t) (sym read)))

pub sliced-past : (place count : ℕ) (shards : List ShardOf) → length shards ≤ place → shards ≡ sliced_at place count shards
sliced-past place count shards past = ap (λ o. sliced_found place count o shards) (sym (slice_get_past shards place past))
