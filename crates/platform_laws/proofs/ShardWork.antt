-- Work on a list of prefixes is, in each shard, work on its own.
use Rattle.std.proofs.Common.{not, ◌&&◌, ◌≡◌, ℕ, zero, suc, ◌+◌, ◌<◌, Bool, true, false, cond, List, [], ◌∷◌, map, take, Some, None, refl, sym, ap, ◌∙◌, subst, arith}
use Rattle.std.specs.Prelude.{filter, slice_get, slice_set}
use Rattle.std.specs.FinSet as set_of
use Rattle.std.specs.List.{AllByRecursion}
use Rattle.std.proofs.lemmas.Bool.{eq-eqb, eqb-true, ne_eqb}
use Rattle.rcp_base.specs.IpPrefix.{IpPrefix}
use Rattle.rcp_base.specs.Maps.{same_prefix}
use Rattle.rcp_base.specs.Roster.{RosterOf}
use Rattle.rcp_model.specs.Assigned.{IsLeast}
use Rattle.rcp_model.specs.Rising.{IsRising}
use Rattle.rcp_model.specs.Routes.{RouteFields}
use Rattle.rcp_model.specs.RouteServer.{Server}
use Rattle.rcp_model.specs.ServerRibs.{Reader, RibEvent, Work, Ribs, at_prefix, is_up, offered, has_pending, ribs_of, ribs_after, ribs_after_all, is_of, concerns, part}
use Rattle.rcp_model.proofs.RisingLemmas.{take-keeps}
use Rattle.rcp_model.proofs.RibLemmas.{prefix_total}
use Rattle.rib_laws.specs.Readings.{IsRead}
use Rattle.rib_laws.proofs.RibLookups.{prefix_tied, get-with_each}
use Rattle.platform_laws.specs.Parts.{shard_number, roster_reader, own_route, shards_from, shards_after, shards_after_all, AreReadFrom, AreParts}
use Rattle.platform_laws.specs.Asked.{rising_of}
use Rattle.platform_laws.specs.Work.{works, worked_least, worked_all}
use Rattle.platform_laws.proofs.ShardAnswers.{read-at}
use Rattle.platform_laws.proofs.PendingLists.{least-first, none-least, pending-of_shard}

-- ---- a list of events, shard by shard

run_from : RosterOf → List (RibEvent RouteFields) → ℕ → List (Ribs RouteFields) → List (Ribs RouteFields)
run_from roster events number [] = []
run_from roster events number (ribs ∷ shards) =
    ribs_after_all (roster_reader roster) (filter (concerns (is_of (shard_number roster) number)) events) ribs ∷ run_from roster events (suc number) shards

run-none : (roster : RosterOf) (number : ℕ) (shards : List (Ribs RouteFields)) → run_from roster [] number shards ≡ shards
unfolding run_from ribs_after_all
run-none roster number [] = refl
run-none roster number (ribs ∷ shards) = ap (λ l. ribs ∷ l) (run-none roster (suc number) shards)

run-first : (roster : RosterOf) (event : RibEvent RouteFields) (events : List (RibEvent RouteFields)) (number : ℕ) (shards : List (Ribs RouteFields))
    → run_from roster events number (shards_from roster event number shards) ≡ run_from roster (event ∷ events) number shards
unfolding run_from ribs_after_all
run-first roster event events number [] = refl
run-first roster event events number (ribs ∷ shards) =
    λ i. at_test (concerns (is_of (shard_number roster) number) event) i ∷ run-first roster event events (suc number) shards i where
      others : List (RibEvent RouteFields)
      others = filter (concerns (is_of (shard_number roster) number)) events

      at_test : (b : Bool) → ribs_after_all (roster_reader roster) others (cond b (ribs_after (roster_reader roster) event ribs) ribs)
          ≡ ribs_after_all (roster_reader roster) (cond b (event ∷ others) others) ribs
      at_test true = refl
      at_test false = refl

run-all : (roster : RosterOf) (events : List (RibEvent RouteFields)) (shards : List (Ribs RouteFields)) → shards_after_all roster events shards ≡ run_from roster events 0 shards
unfolding shards_after_all
run-all roster [] shards = sym (run-none roster 0 shards)
run-all roster (event ∷ events) shards = run-all roster events (shards_after roster event shards) ∙ run-first roster event events 0 shards

-- ---- work

own_works : (owns : IpPrefix → Bool) (ps : List IpPrefix) → filter (concerns owns) (works ps) ≡ works (filter owns ps)
own_works owns [] = refl
own_works owns (p ∷ ps) = at_test (owns p) (own_works owns ps) where
  at_test : (b : Bool) → filter (concerns owns) (works ps) ≡ works (filter owns ps)
      → cond b (Work p ∷ filter (concerns owns) (works ps)) (filter (concerns owns) (works ps)) ≡ works (cond b (p ∷ filter owns ps) (filter owns ps))
  at_test true rest = ap (λ l. Work p ∷ l) rest
  at_test false rest = rest

-- all pending prefixes, shard by shard
drained-from : (roster : RosterOf) (server : Server) (number : ℕ) (shards : List (Ribs RouteFields)) → IsRising server.pending → AreReadFrom roster (ribs_of server) number shards
    → run_from roster (works server.pending) number shards ≡ map (worked_all roster) shards
unfolding run_from
drained-from roster server number [] rising read = refl
drained-from roster server number (ribs ∷ shards) rising read =
    λ i. ribs_after_all (roster_reader roster)
    ((own_works (is_of (shard_number roster) number) server.pending ∙ ap works (pending-of_shard roster server number ribs rising read.0)) i) ribs
    ∷ drained-from roster server (suc number) shards rising read.1 i

pub drained-shards : (roster : RosterOf) (server : Server) (shards : List (Ribs RouteFields)) → AreParts roster (ribs_of server) shards → IsRising server.pending
    → shards_after_all roster (works server.pending) shards ≡ map (worked_all roster) shards
drained-shards roster server shards h rising = run-all roster (works server.pending) shards ∙ drained-from roster server 0 shards rising h.read

-- prefixes of one shard
abbrev AreOf : RosterOf → ℕ → List IpPrefix → Type 0
AreOf roster at ps = AllByRecursion (λ p. shard_number roster p ≡ at) ps

keep-own : (roster : RosterOf) (at number : ℕ) (ps : List IpPrefix) → AreOf roster at ps → at ≡ number → filter (is_of (shard_number roster) number) ps ≡ ps
keep-own roster at number [] are here = refl
keep-own roster at number (p ∷ ps) are here =
    ap (λ b. cond b (p ∷ filter (is_of (shard_number roster) number) ps) (filter (is_of (shard_number roster) number) ps)) (eq-eqb (shard_number roster p) number (are.0 ∙ here))
    ∙ ap (λ l. p ∷ l) (keep-own roster at number ps are.1 here)

drop-others : (roster : RosterOf) (at number : ℕ) (ps : List IpPrefix) → AreOf roster at ps → (at ≡ number → ⊥) → filter (is_of (shard_number roster) number) ps ≡ []
drop-others roster at number [] are other = refl
drop-others roster at number (p ∷ ps) are other =
    ap (λ b. cond b (p ∷ filter (is_of (shard_number roster) number) ps) (filter (is_of (shard_number roster) number) ps))
    (ne_eqb (shard_number roster p) number (λ same. other (sym are.0 ∙ same)))
    ∙ drop-others roster at number ps are.1 other

stay-from : (roster : RosterOf) (at : ℕ) (ps : List IpPrefix) (number : ℕ) (shards : List (Ribs RouteFields)) → AreOf roster at ps → at < number → run_from roster (works ps) number shards ≡ shards
unfolding run_from ribs_after_all
stay-from roster at ps number [] are past = refl
stay-from roster at ps number (ribs ∷ shards) are past =
    λ i. ribs_after_all (roster_reader roster)
    ((own_works (is_of (shard_number roster) number) ps ∙ ap works (drop-others roster at number ps are (λ same. omega (arith, same, past)))) i) ribs
    ∷ stay-from roster at ps (suc number) shards are (omega (arith, past)) i

one-from : (roster : RosterOf) (at : ℕ) (ps : List IpPrefix) (n number : ℕ) (shards : List (Ribs RouteFields)) (ribs : Ribs RouteFields) → AreOf roster at ps → at ≡ n + number → slice_get shards n ≡ Some ribs
    → run_from roster (works ps) number shards ≡ slice_set shards n (ribs_after_all (roster_reader roster) (works ps) ribs)
unfolding run_from ribs_after_all
one-from roster at ps n number [] ribs are here is = absurd cc
one-from roster at ps zero number (first ∷ shards) ribs are here is =
    let first_is : first ≡ ribs = cc in
    λ i. ribs_after_all (roster_reader roster)
    ((own_works (is_of (shard_number roster) number) ps ∙ ap works (keep-own roster at number ps are (omega (arith, here)))) i) (first_is i)
    ∷ stay-from roster at ps (suc number) shards are (omega (arith, here)) i
one-from roster at ps (suc n) number (first ∷ shards) ribs are here is =
    λ i. ribs_after_all (roster_reader roster)
    ((own_works (is_of (shard_number roster) number) ps ∙ ap works (drop-others roster at number ps are (λ same. omega (arith, same, here)))) i) first
    ∷ one-from roster at ps n (suc number) shards ribs are (omega (arith, here)) is i

-- the pending prefixes of a shard are of its number
filter-passes : (test : IpPrefix → Bool) (ps : List IpPrefix) → AllByRecursion (λ p. test p ≡ true) (filter test ps)
filter-passes test [] = tt
filter-passes test (p ∷ ps) = at_test (test p) refl (filter-passes test ps) where
  at_test : (b : Bool) → test p ≡ b → AllByRecursion (λ q. test q ≡ true) (filter test ps) → AllByRecursion (λ q. test q ≡ true) (cond b (p ∷ filter test ps) (filter test ps))
  at_test true passes rest = (passes, rest)
  at_test false fails rest = rest

are_of : (roster : RosterOf) (at : ℕ) (ps : List IpPrefix) → AllByRecursion (λ p. is_of (shard_number roster) at p ≡ true) ps → AreOf roster at ps
are_of roster at [] all = tt
are_of roster at (p ∷ ps) all = (eqb-true (shard_number roster p) at all.0, are_of roster at ps all.1)

pub sliced-shards : (roster : RosterOf) (server : Server) (shards : List (Ribs RouteFields)) (n count : ℕ) (ribs : Ribs RouteFields) → AreParts roster (ribs_of server) shards → IsRising server.pending
    → slice_get shards n ≡ Some ribs → shards_after_all roster (works (take count (rising_of ribs.pending))) shards ≡ slice_set shards n (worked_least roster count ribs)
sliced-shards roster server shards n count ribs h rising is =
    let same : n + 0 ≡ n = omega arith in
    let read = subst (λ k. IsRead (own_route roster) (part (is_of (shard_number roster) k) (ribs_of server)) ribs) same (read-at roster (ribs_of server) 0 n shards ribs h.read is) in
    let list = pending-of_shard roster server n ribs rising read in
    let all = subst (AllByRecursion (λ p. is_of (shard_number roster) n p ≡ true)) list (filter-passes (is_of (shard_number roster) n) server.pending) in
    run-all roster (works (take count (rising_of ribs.pending))) shards
    ∙ one-from roster n (take count (rising_of ribs.pending)) n 0 shards ribs
    (are_of roster n (take count (rising_of ribs.pending)) (take-keeps (λ p. is_of (shard_number roster) n p ≡ true) count (rising_of ribs.pending) all)) (omega arith) is

-- ---- the least prefix again and again

module _ (roster : RosterOf) (ribs : Ribs RouteFields) where
  after_work : (p : IpPrefix) → (ribs_after (roster_reader roster) (Work p) ribs).pending ≡ set_of.remove ribs.pending p
  unfolding ribs_after
  after_work p = refl

  pub all-again : (p : IpPrefix) → IsLeast (λ q. has_pending ribs q ≡ true) (Some p) → worked_all roster ribs ≡ worked_all roster (ribs_after (roster_reader roster) (Work p) ribs)
  unfolding ribs_after_all
  all-again p least =
      ap (λ ps. ribs_after_all (roster_reader roster) (works ps) ribs) (least-first ribs.pending p least)
      ∙ ap (λ s. ribs_after_all (roster_reader roster) (works (rising_of s)) (ribs_after (roster_reader roster) (Work p) ribs)) (sym (after_work p))

  pub least-again : (count : ℕ) (p : IpPrefix) → IsLeast (λ q. has_pending ribs q ≡ true) (Some p)
      → worked_least roster (suc count) ribs ≡ worked_least roster count (ribs_after (roster_reader roster) (Work p) ribs)
  unfolding ribs_after_all
  least-again count p least =
      ap (λ ps. ribs_after_all (roster_reader roster) (works (take (suc count) ps)) ribs) (least-first ribs.pending p least)
      ∙ ap (λ s. ribs_after_all (roster_reader roster) (works (take count (rising_of s))) (ribs_after (roster_reader roster) (Work p) ribs)) (sym (after_work p))

  pub all-done : IsLeast (λ q. has_pending ribs q ≡ true) None → worked_all roster ribs ≡ ribs
  unfolding ribs_after_all
  all-done none = ap (λ ps. ribs_after_all (roster_reader roster) (works ps) ribs) (none-least ribs.pending none)

  pub least-done : (count : ℕ) → IsLeast (λ q. has_pending ribs q ≡ true) None → worked_least roster count ribs ≡ ribs
  unfolding ribs_after_all
  least-done zero none = refl
  least-done (suc count) none = ap (λ ps. ribs_after_all (roster_reader roster) (works (take (suc count) ps)) ribs) (none-least ribs.pending none)

  pub none-asked : worked_least roster 0 ribs ≡ ribs
  unfolding ribs_after_all
  none-asked = refl

-- ---- one prefix

module _ (reader : Reader RouteFields) (ribs : Ribs RouteFields) (p q : IpPrefix) where
  pub cells-after : (slot : ℕ) → at_prefix (ribs_after reader (Work p) ribs).given q slot
      ≡ cond (same_prefix q p && is_up ribs slot) (offered reader ribs p slot) (at_prefix ribs.given q slot)
  unfolding ribs_after
  cells-after slot =
      get-with_each p (offered reader ribs p) (set_of.items ribs.connected) ribs.given (q, slot)
      ∙ ap (λ b. cond (same_prefix q p && b) (offered reader ribs p slot) (at_prefix ribs.given q slot)) (sym (set_of.contains-items ribs.connected slot))

  pub waits-after : has_pending (ribs_after reader (Work p) ribs) q ≡ (not (same_prefix q p) && has_pending ribs q)
  unfolding ribs_after
  waits-after = set_of.contains-remove prefix_total ribs.pending p q ∙ ap (λ b. not b && has_pending ribs q) (prefix_tied q p)
