-- The counts of a summary, read from the shards.
use Rattle.std.proofs.Common.{◌≡◌, ℕ, suc, ◌+◌, Bool, true, false, ◌||◌, List, [], ◌∷◌, length, is_some, refl, sym, ap, ◌∙◌, arith}
use Rattle.std.specs.Prelude.{filter}
use Rattle.std.specs.FinSet as set_of
use Rattle.rcp_base.specs.IpPrefix.{IpPrefix}
use Rattle.rcp_base.specs.Maps.{include_all, is_among}
use Rattle.rcp_base.specs.Roster.{RosterOf}
use Rattle.rcp_base.proofs.MapLemmas.{is_among-include_all}
use Rattle.rcp_model.specs.Rising.{IsRising}
use Rattle.rcp_model.specs.Routes.{RouteFields}
use Rattle.rcp_model.specs.RouteServer.{Server, Announcements, announced_prefixes}
use Rattle.rcp_model.specs.ServerRibs.{Rib, Ribs, Prefixes, at_prefix, prefixes_of, ribs_of, part, is_of}
use Rattle.std.proofs.Common.{Option, Some, None, option_map}
use Rattle.rcp_model.proofs.RibLemmas.{prefix_total, prefix_exact}
use Rattle.rcp_model.proofs.RisingLemmas.{rising-include_all}
use Rattle.rib_laws.specs.Totals.{total_below}
use Rattle.rib_laws.proofs.RibLookups.{same_test, has_of_prefixes, prefixes_of_has}
use Rattle.rib_laws.proofs.ListLookups.{pending_in_lists, prefixes_in_lists}
use Rattle.rib_laws.proofs.CountLemmas.{announced_counted, pending_counted}
use Rattle.platform_laws.specs.Parts.{shard_number, own_route, AreReadFrom, AreParts}
use Rattle.platform_laws.specs.Platforms.{AreOnce}
use Rattle.platform_laws.specs.Asked.{connected_count, sum_over, announced_count, pending_count}
use Rattle.platform_laws.proofs.RisingLists.{len-set, len-tables}
use Rattle.platform_laws.proofs.ShardAnswers.{number-below, connected_count-seen}

-- ---- the prefixes that are announced

mapped_some : {A B : Type 0} (f : A → B) (o : Option A) → is_some (option_map f o) ≡ is_some o
mapped_some f None = refl
mapped_some f (Some x) = refl

abbrev all_of : {V : Type 0} → Rib V → Prefixes
all_of rib = prefixes_of (λ e. true) rib

-- they are the same for the routes of octets
same-prefixes : {V W : Type 0} (f : V → W) (values : Rib V) (reads : Rib W) → ((p : IpPrefix) (s : ℕ) → at_prefix reads p s ≡ option_map f (at_prefix values p s)) → all_of reads ≡ all_of values
same-prefixes f values reads read = set_of.same_set prefix_total prefix_exact (all_of reads) (all_of values) (λ p.
    same_test (set_of.contains (all_of reads) p) (set_of.contains (all_of values) p)
    (λ inside.
    let has = has_of_prefixes (λ e. true) reads p inside in
    prefixes_of_has (λ e. true) values p (record { slot = has.slot; passes = refl; there = sym (ap is_some (read p has.slot) ∙ mapped_some f (at_prefix values p has.slot)) ∙ has.there }))
    (λ inside.
    let has = has_of_prefixes (λ e. true) values p inside in
    prefixes_of_has (λ e. true) reads p (record { slot = has.slot; passes = refl; there = ap is_some (read p has.slot) ∙ mapped_some f (at_prefix values p has.slot) ∙ has.there })))

-- each shard, of which the first has this number, has what its number has
abbrev IsSummed : (ℕ → ℕ) → (Ribs RouteFields → ℕ) → ℕ → List (Ribs RouteFields) → Type 0
IsSummed f g number [] = Unit {0}
IsSummed f g number (ribs ∷ shards) = (g ribs ≡ f number) × IsSummed f g (suc number) shards

-- the sum over the shards is that over their numbers
sum-from : (f : ℕ → ℕ) (g : Ribs RouteFields → ℕ) (number : ℕ) (shards : List (Ribs RouteFields)) → IsSummed f g number shards
    → total_below f (length shards + number) ≡ total_below f number + sum_over g shards
sum-from f g number [] each = let none : 0 + number ≡ number = omega arith in ap (total_below f) none ∙ omega arith
sum-from f g number (ribs ∷ shards) each =
    let here : g ribs ≡ f number = each.0 in
    let rest : total_below f (length shards + suc number) ≡ total_below f (suc number) + sum_over g shards = sum-from f g (suc number) shards each.1 in
    let moved : suc (length shards) + number ≡ length shards + suc number = omega arith in
    ap (total_below f) moved ∙ rest ∙ omega (arith, here)

-- from the first shard on
sum-all : (f : ℕ → ℕ) (g : Ribs RouteFields → ℕ) (count : ℕ) (shards : List (Ribs RouteFields)) → length shards ≡ count → IsSummed f g 0 shards → total_below f count ≡ sum_over g shards
sum-all f g count shards long each =
    let last : count ≡ length shards + 0 = omega (arith, long) in
    let parts : total_below f (length shards + 0) ≡ total_below f 0 + sum_over g shards = sum-from f g 0 shards each in
    ap (total_below f) last ∙ parts ∙ omega arith

abbrev announced_len : Ribs RouteFields → ℕ
announced_len ribs = set_of.len (all_of ribs.announced)

announced-summed : (roster : RosterOf) (octets : Ribs (List ℕ)) (number : ℕ) (shards : List (Ribs RouteFields)) → AreReadFrom roster octets number shards
    → IsSummed (λ n. set_of.len (all_of (part (is_of (shard_number roster) n) octets).announced)) announced_len number shards
announced-summed roster octets number [] read = tt
announced-summed roster octets number (ribs ∷ shards) read = (
  ap set_of.len (same-prefixes (own_route roster) (part (is_of (shard_number roster) number) octets).announced ribs.announced read.0.announced),
  announced-summed roster octets (suc number) shards read.1,
)

pending-summed : (roster : RosterOf) (octets : Ribs (List ℕ)) (number : ℕ) (shards : List (Ribs RouteFields)) → AreReadFrom roster octets number shards
    → IsSummed (λ n. set_of.len (part (is_of (shard_number roster) n) octets).pending) (λ ribs. set_of.len ribs.pending) number shards
pending-summed roster octets number [] read = tt
pending-summed roster octets number (ribs ∷ shards) read = (ap set_of.len read.0.pending, pending-summed roster octets (suc number) shards read.1)

-- ---- the counts

all_kept : (a : Announcements) → filter (λ entry. true) a ≡ a
all_kept [] = refl
all_kept (entry ∷ a) = ap (λ l. entry ∷ l) (all_kept a)

or-false : (b : Bool) → (b || false) ≡ b
or-false true = refl
or-false false = refl

module _ (roster : RosterOf) (server : Server) (shards : List (Ribs RouteFields)) (h : AreParts roster (ribs_of server) shards) where
  pub connected-counted : AreOnce server.tables → length server.tables ≡ connected_count shards
  connected-counted once = sym (connected_count-seen roster (ribs_of server) shards h ∙ len-tables server.tables once)

  listed : (p : IpPrefix) → is_among (include_all (announced_prefixes server.announcements) []) p ≡ set_of.contains (all_of (ribs_of server).announced) p
  listed p =
      is_among-include_all (announced_prefixes server.announcements) [] p ∙ or-false (is_among (announced_prefixes server.announcements) p)
      ∙ ap (λ (a : Announcements). is_among (announced_prefixes a) p) (sym (all_kept server.announcements))
      ∙ sym (prefixes_in_lists (λ e. true) server p)

  pub announced-counted : length (include_all (announced_prefixes server.announcements) []) ≡ announced_count shards
  announced-counted =
      sym (len-set (all_of (ribs_of server).announced) (include_all (announced_prefixes server.announcements) []) (rising-include_all (announced_prefixes server.announcements) [] tt) listed)
      ∙ announced_counted (shard_number roster) roster.shards (λ p. number-below roster p h.some) (ribs_of server)
      ∙ sum-all (λ n. set_of.len (all_of (part (is_of (shard_number roster) n) (ribs_of server)).announced)) announced_len roster.shards shards h.count (announced-summed roster (ribs_of server) 0 shards h.read)

  pub pending-counted : IsRising server.pending → length server.pending ≡ pending_count shards
  pending-counted rising =
      sym (len-set (ribs_of server).pending server.pending rising (λ p. sym (pending_in_lists server p)))
      ∙ pending_counted (shard_number roster) roster.shards (λ p. number-below roster p h.some) (ribs_of server)
      ∙ sum-all (λ n. set_of.len (part (is_of (shard_number roster) n) (ribs_of server)).pending) (λ ribs. set_of.len ribs.pending) roster.shards shards h.count (pending-summed roster (ribs_of server) 0 shards h.read)
