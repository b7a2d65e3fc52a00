-- The pending prefixes of a platform in their order, read from its shards.
use Rattle.std.proofs.Common.{◌≡◌, ℕ, zero, suc, ◌+◌, ◌≤◌, Bool, true, false, cond, not, ◌&&◌, ◌||◌, ◌⊎◌, List, [], ◌∷◌, ◌++◌, length, take, Option, Some, None, refl, sym, ap, ◌∙◌, inl, inr, subst, arith}
use Rattle.std.specs.Prelude.{filter, slice_get}
use Rattle.std.specs.FinSet as set_of
use Rattle.std.specs.List.{AllByRecursion, flat_map}
use Rattle.std.specs.Ordering.{is_lt}
use Rattle.std.specs.declared.cmp.Ordering.{Ordering}
use Rattle.std.specs.declared.cmp.Ordering.TheVariants.{Less, Equal, Greater}
use Rattle.std.proofs.lemmas.Bool.{or_cases, or_left, or_right, and_parts, ne_eqb, false≢true}
use Rattle.rcp_base.specs.IpPrefix.{IpPrefix, prefix_cmp}
use Rattle.rcp_base.specs.Maps.{same_prefix, is_before, is_among}
use Rattle.rcp_base.specs.Roster.{RosterOf}
use Rattle.rcp_base.proofs.MapLemmas.{same_prefix-is, same_prefix-itself, is_among-include_all}
use Rattle.rcp_base.proofs.PrefixLemmas.{before-cmp}
use Rattle.rcp_model.specs.Assigned.{IsLeast}
use Rattle.rcp_model.specs.Rising.{IsBelow, IsRising}
use Rattle.rcp_model.specs.Routes.{RouteFields}
use Rattle.rcp_model.specs.RouteServer.{Server}
use Rattle.rcp_model.specs.ServerRibs.{Ribs, Prefixes, has_pending, ribs_of, part, is_of}
use Rattle.rcp_model.proofs.RibLemmas.{prefix_total}
use Rattle.rcp_model.proofs.RisingLemmas.{later_first, rising-filter, rising-include_all}
use Rattle.rib_laws.specs.Readings.{IsRead}
use Rattle.rib_laws.proofs.RibLookups.{same_test, prefix_tied}
use Rattle.rib_laws.proofs.ListLookups.{pending_in_lists}
use Rattle.rib_laws.proofs.PartLemmas.{contains-owned}
use Rattle.feed_meaning.specs.Work.{pending_in}
use Rattle.platform_laws.specs.Parts.{shard_number, own_route, AreReadFrom, AreParts}
use Rattle.platform_laws.specs.Asked.{rising_of, all_pending, is_pending, waits_in, shard_of}
use Rattle.platform_laws.specs.Work.{least_of}
use Rattle.platform_laws.proofs.RisingLists.{rising-same, among-filter, among-items, among-rising_of, rising-rising_of, rising_of-is}
use Rattle.platform_laws.proofs.ShardAnswers.{read-at, number-below, pending-seen}

-- ---- the least prefix of a set goes first

pub all_among : (P : IpPrefix → Type 0) (ps : List IpPrefix) → ((q : IpPrefix) → is_among ps q ≡ true → P q) → AllByRecursion P ps
all_among P [] each = tt
all_among P (p ∷ ps) each = (each p (or_left (same_prefix p p) (is_among ps p) (same_prefix-itself p)), all_among P ps (λ q among. each q (or_right (same_prefix q p) (is_among ps q) among)))

not_less : (o : Ordering) → (o ≡ Less → ⊥) → is_lt o ≡ false
not_less Less h = absurd (h refl)
not_less Equal h = refl
not_less Greater h = refl

module _ (s : Prefixes) (p : IpPrefix) (least : IsLeast (λ q. set_of.contains s q ≡ true) (Some p)) where
  among-rest : (q : IpPrefix) → is_among (rising_of (set_of.remove s p)) q ≡ (not (same_prefix q p) && set_of.contains s q)
  among-rest q = among-rising_of (set_of.remove s p) q ∙ set_of.contains-remove prefix_total s p q ∙ ap (λ b. not b && set_of.contains s q) (prefix_tied q p)

  below-rest : IsBelow p (rising_of (set_of.remove s p))
  below-rest = all_among (λ q. is_before p q ≡ true) (rising_of (set_of.remove s p)) (λ q among.
      let both = and_parts (not (same_prefix q p)) (set_of.contains s q) (sym (among-rest q) ∙ among) in
      later_first q.addr p.addr q.len p.len (other (same_prefix q p) both.0) (before-cmp q p ∙ not_less (prefix_cmp q p) (λ before. least.1 q both.1 before))) where
        other : (b : Bool) → not b ≡ true → b ≡ false
        other true h = absurd (false≢true h)
        other false h = refl

  pub least-first : rising_of s ≡ p ∷ rising_of (set_of.remove s p)
  least-first = sym (rising_of-is s (p ∷ rising_of (set_of.remove s p)) (below-rest, rising-rising_of (set_of.remove s p)) (λ q.
      ap (λ b. same_prefix q p || b) (among-rest q)
      ∙ at_test (same_prefix q p) (set_of.contains s q) (λ e. ap (set_of.contains s) (same_prefix-is q p e) ∙ least.0))) where
        at_test : (b c : Bool) → (b ≡ true → c ≡ true) → (b || (not b && c)) ≡ c
        at_test true c h = sym (h refl)
        at_test false c h = refl

pub none-least : (s : Prefixes) → IsLeast (λ q. set_of.contains s q ≡ true) None → rising_of s ≡ []
none-least s none = sym (rising_of-is s [] tt (λ q. same_test false (set_of.contains s q) (λ no. absurd (false≢true no)) (λ inside. absurd (none q inside))))

-- ---- the pending prefixes of one shard

pub pending-of_shard : (roster : RosterOf) (server : Server) (number : ℕ) (ribs : Ribs RouteFields) → IsRising server.pending
    → IsRead (own_route roster) (part (is_of (shard_number roster) number) (ribs_of server)) ribs → filter (is_of (shard_number roster) number) server.pending ≡ rising_of ribs.pending
pending-of_shard roster server number ribs rising read =
    rising_of-is ribs.pending (filter (is_of (shard_number roster) number) server.pending) (rising-filter (is_of (shard_number roster) number) server.pending rising) (λ p.
    among-filter (is_of (shard_number roster) number) server.pending p
    ∙ ap (λ b. b && is_of (shard_number roster) number p) (sym (pending_in_lists server p))
    ∙ sym (ap (λ s. set_of.contains s p) read.pending ∙ contains-owned (is_of (shard_number roster) number) (ribs_of server).pending p))

-- no prefix has a number that no shard has
none-past : {X : Type 0} (xs : List X) (n : ℕ) → slice_get xs n ≡ None → length xs ≤ n
none-past [] n is = omega arith
none-past (x ∷ xs) zero is = absurd cc
none-past (x ∷ xs) (suc n) is = let rest = none-past xs n is in omega (arith, rest)

filter-none : (test : IpPrefix → Bool) (ps : List IpPrefix) → ((p : IpPrefix) → test p ≡ false) → filter test ps ≡ []
filter-none test [] none = refl
filter-none test (p ∷ ps) none = ap (λ b. cond b (p ∷ filter test ps) (filter test ps)) (none p) ∙ filter-none test ps none

take-none : (count : ℕ) (ps : List IpPrefix) → ps ≡ [] → take count ps ≡ []
take-none zero ps none = refl
take-none (suc count) ps none = ap (take (suc count)) none

pub slice-seen : (roster : RosterOf) (server : Server) (shards : List (Ribs RouteFields)) (n count : ℕ) → AreParts roster (ribs_of server) shards → IsRising server.pending
    → take count (pending_in roster.shards n server) ≡ least_of (slice_get shards n) count
slice-seen roster server shards n count h rising = by_shard (slice_get shards n) refl where
  by_shard : (found : Option (Ribs RouteFields)) → slice_get shards n ≡ found → take count (filter (is_of (shard_number roster) n) server.pending) ≡ least_of found count
  by_shard (Some ribs) is =
      let same : n + 0 ≡ n = omega arith in
      ap (take count) (pending-of_shard roster server n ribs rising
      (subst (λ k. IsRead (own_route roster) (part (is_of (shard_number roster) k) (ribs_of server)) ribs) same (read-at roster (ribs_of server) 0 n shards ribs h.read is)))
  by_shard None is =
      let past = none-past shards n is in
      take-none count (filter (is_of (shard_number roster) n) server.pending) (filter-none (is_of (shard_number roster) n) server.pending (λ p.
      let below = number-below roster p h.some in
      ne_eqb (shard_number roster p) n (λ same. omega (arith, same, below, past, h.count))))

-- ---- those of all shards

among-append : (ps qs : List IpPrefix) (p : IpPrefix) → is_among (ps ++ qs) p ≡ (is_among ps p || is_among qs p)
among-append [] qs p = refl
among-append (q ∷ ps) qs p = ap (λ b. same_prefix p q || b) (among-append ps qs p) ∙ grouped (same_prefix p q) (is_among ps p) (is_among qs p) where
  grouped : (a b c : Bool) → (a || (b || c)) ≡ ((a || b) || c)
  grouped true b c = refl
  grouped false b c = refl

abbrev items_of : List (Ribs RouteFields) → List IpPrefix
items_of shards = flat_map (λ ribs. set_of.items ribs.pending) shards

among-shard : (shards : List (Ribs RouteFields)) (n : ℕ) (ribs : Ribs RouteFields) (p : IpPrefix) → slice_get shards n ≡ Some ribs → has_pending ribs p ≡ true → is_among (items_of shards) p ≡ true
among-shard [] n ribs p is inside = absurd cc
among-shard (first ∷ shards) zero ribs p is inside =
    let first_is : first ≡ ribs = cc in
    among-append (set_of.items first.pending) (items_of shards) p
    ∙ or_left (is_among (set_of.items first.pending) p) (is_among (items_of shards) p) (among-items first.pending p ∙ ap (λ (r : Ribs RouteFields). has_pending r p) first_is ∙ inside)
among-shard (first ∷ shards) (suc n) ribs p is inside =
    among-append (set_of.items first.pending) (items_of shards) p
    ∙ or_right (is_among (set_of.items first.pending) p) (is_among (items_of shards) p) (among-shard shards n ribs p is inside)

shard-among : (roster : RosterOf) (octets : Ribs (List ℕ)) (number : ℕ) (shards : List (Ribs RouteFields)) (p : IpPrefix) → AreReadFrom roster octets number shards
    → is_among (items_of shards) p ≡ true → has_pending octets p ≡ true
shard-among roster octets number [] p read among = absurd (false≢true among)
shard-among roster octets number (ribs ∷ shards) p read among =
    by_either (or_cases (is_among (set_of.items ribs.pending) p) (is_among (items_of shards) p) (sym (among-append (set_of.items ribs.pending) (items_of shards) p) ∙ among))
    (shard-among roster octets (suc number) shards p read.1) where
      by_either : (is_among (set_of.items ribs.pending) p ≡ true) ⊎ (is_among (items_of shards) p ≡ true) → (is_among (items_of shards) p ≡ true → has_pending octets p ≡ true) → has_pending octets p ≡ true
      by_either (inl here) rest =
          (and_parts (has_pending octets p) (is_of (shard_number roster) number p)
          (sym (among-items ribs.pending p ∙ ap (λ s. set_of.contains s p) read.0.pending ∙ contains-owned (is_of (shard_number roster) number) octets.pending p) ∙ here)).0
      by_either (inr later) rest = rest later

pub all-pending-seen : (roster : RosterOf) (server : Server) (shards : List (Ribs RouteFields)) → AreParts roster (ribs_of server) shards → IsRising server.pending → server.pending ≡ all_pending shards
all-pending-seen roster server shards h rising =
    rising-same server.pending (all_pending shards) rising (rising-include_all (items_of shards) [] tt) (λ p.
    same_test (is_among server.pending p) (is_among (all_pending shards) p)
    (λ among. is_among-include_all (items_of shards) [] p ∙ or_left (is_among (items_of shards) p) false
    (by_shard p (shard_of roster shards p) refl (pending-seen roster (ribs_of server) shards h p ∙ pending_in_lists server p ∙ among)))
    (λ among. sym (pending_in_lists server p) ∙ shard-among roster (ribs_of server) 0 shards p h.read (sym (is_among-include_all (items_of shards) [] p ∙ or-false (is_among (items_of shards) p)) ∙ among))) where
      or-false : (b : Bool) → (b || false) ≡ b
      or-false true = refl
      or-false false = refl

      by_shard : (p : IpPrefix) (found : Option (Ribs RouteFields)) → shard_of roster shards p ≡ found → is_pending roster shards p ≡ true → is_among (items_of shards) p ≡ true
      by_shard p (Some ribs) is inside = among-shard shards (shard_number roster p) ribs p is (sym (ap (λ o. waits_in o p) is) ∙ inside)
      by_shard p None is inside = absurd (false≢true (sym (ap (λ o. waits_in o p) is) ∙ inside))
