-- An event of the server is the same event on the shards that it concerns.
use Rattle.std.proofs.Common.{◌≡◌, ℕ, zero, suc, ◌+◌, ◌<◌, Bool, true, false, cond, eqb, List, [], ◌∷◌, length, map, Some, None, refl, sym, ap, ◌∙◌, subst, arith}
use Rattle.std.specs.Prelude.{slice_get, slice_set}
use Rattle.std.specs.List.{AllByRecursion}
use Rattle.std.proofs.lemmas.Bool.{eq-eqb, ne_eqb}
use Rattle.rcp_base.specs.IpPrefix.{IpPrefix}
use Rattle.rcp_base.specs.Roster.{RosterOf}
use Rattle.rcp_model.specs.Routes.{RouteFields}
use Rattle.rcp_model.specs.RouteServer.{Domain, Server, ServerEvent, after, after_all, slot_cost}
use Rattle.rcp_model.specs.RouteServer as lists
use Rattle.rcp_model.specs.ServerRibs.{octets_reader, RibEvent, event_of, Ribs, at_prefix, AreSettled, ribs_after, ribs_of, part, is_of, concerns}
use Rattle.rib_laws.specs.Readings.{IsRead, IsCanonical, IsCanonicalChange}
use Rattle.rib_laws.proofs.JoinLemmas.{join}
use Rattle.rib_laws.proofs.PartLemmas.{get-owned, part_after}
use Rattle.rib_laws.proofs.ReadLemmas.{routes_read}
use Rattle.rib_laws.proofs.SettledLemmas.{settled_after}
use Rattle.platform_laws.proofs.EachValue.{if_cond, if_same, each-after}
use Rattle.feed_meaning.specs.Platform.{domain_of}
use Rattle.platform_laws.specs.Parts.{shard_number, roster_reader, own_route, shards_from, shards_after, shards_after_all, route_event, IsCanonicalEvent, AreReadFrom, AreCanonical, AreParts, AllSettled}

-- a change of a part is canonical
part-canonical : (owns : IpPrefix → Bool) (event : ServerEvent) (ribs : Ribs (List ℕ)) → IsCanonicalEvent event → AreCanonical ribs → IsCanonicalChange (part owns ribs) (event_of event)
part-canonical owns (lists.Up slot) ribs good h = tt
part-canonical owns (lists.Down slot) ribs good h = tt
part-canonical owns (lists.Change slot p value) ribs good h = (
  if_same IsCanonical (cond (owns p) (at_prefix ribs.announced p slot) None) (at_prefix (part owns ribs).announced p slot) (sym (get-owned owns ribs.announced p slot))
      (if_cond IsCanonical (owns p) (at_prefix ribs.announced p slot) None (h.announced p slot) tt),
  good,
)
part-canonical owns (lists.Links edges) ribs good h = tt
part-canonical owns (lists.Work p) ribs good h = tt

-- ---- the parts after an event

concerned : (owns : IpPrefix → Bool) (roster : RosterOf) (event : ServerEvent) → concerns owns (route_event roster event) ≡ concerns owns (event_of event)
concerned owns roster (lists.Up slot) = refl
concerned owns roster (lists.Down slot) = refl
concerned owns roster (lists.Change slot p value) = refl
concerned owns roster (lists.Links edges) = refl
concerned owns roster (lists.Work p) = refl

one-read : (owns : IpPrefix → Bool) (roster : RosterOf) (event : ServerEvent) (octets : Ribs (List ℕ)) (ribs : Ribs RouteFields) → IsCanonicalEvent event → AreCanonical octets
    → IsRead (own_route roster) (part owns octets) ribs
    → IsRead (own_route roster) (part owns (ribs_after (octets_reader (domain_of roster)) (event_of event) octets))
    (cond (concerns owns (route_event roster event)) (ribs_after (roster_reader roster) (route_event roster event) ribs) ribs)
one-read owns roster event octets ribs good canonical read =
    subst (λ o. IsRead (own_route roster) o (cond (concerns owns (route_event roster event)) (ribs_after (roster_reader roster) (route_event roster event) ribs) ribs))
    (sym (part_after owns (octets_reader (domain_of roster)) (event_of event) octets))
    (subst (λ b. IsRead (own_route roster) (cond (concerns owns (event_of event)) (ribs_after (octets_reader (domain_of roster)) (event_of event) (part owns octets)) (part owns octets))
    (cond b (ribs_after (roster_reader roster) (route_event roster event) ribs) ribs)) (sym (concerned owns roster event)) (at_test (concerns owns (event_of event)))) where
      at_test : (b : Bool) → IsRead (own_route roster) (cond b (ribs_after (octets_reader (domain_of roster)) (event_of event) (part owns octets)) (part owns octets))
          (cond b (ribs_after (roster_reader roster) (route_event roster event) ribs) ribs)
      at_test true = routes_read (domain_of roster) (event_of event) (part owns octets) ribs read (part-canonical owns event octets good canonical)
      at_test false = read

all-read : (roster : RosterOf) (event : ServerEvent) (octets : Ribs (List ℕ)) → IsCanonicalEvent event → AreCanonical octets → (number : ℕ) (shards : List (Ribs RouteFields)) → AreReadFrom roster octets number shards
    → AreReadFrom roster (ribs_after (octets_reader (domain_of roster)) (event_of event) octets) number (shards_from roster (route_event roster event) number shards)
all-read roster event octets good canonical number [] read = tt
all-read roster event octets good canonical number (ribs ∷ shards) read = (
  one-read (is_of (shard_number roster) number) roster event octets ribs good canonical read.0,
  all-read roster event octets good canonical (suc number) shards read.1,
)

pub from-length : (roster : RosterOf) (event : RibEvent RouteFields) (number : ℕ) (shards : List (Ribs RouteFields)) → length (shards_from roster event number shards) ≡ length shards
from-length roster event number [] = refl
from-length roster event number (ribs ∷ shards) = ap suc (from-length roster event (suc number) shards)

pub parts-after : (roster : RosterOf) (event : ServerEvent) (server : Server) (shards : List (Ribs RouteFields)) → AreParts roster (ribs_of server) shards → IsCanonicalEvent event
    → AreParts roster (ribs_of (after (domain_of roster) event server)) (shards_after roster (route_event roster event) shards)
parts-after roster event server shards h good =
    subst (λ o. AreParts roster o (shards_after roster (route_event roster event) shards)) (sym (join (domain_of roster) event server)) (record {
      some = h.some;
      count = from-length roster (route_event roster event) 0 shards ∙ h.count;
      read = all-read roster event (ribs_of server) good h.canonical 0 shards h.read;
      canonical = each-after IsCanonical (octets_reader (domain_of roster)) (event_of event) (ribs_of server) good h.canonical;
    })

pub parts-after_all : (roster : RosterOf) (events : List ServerEvent) (server : Server) (shards : List (Ribs RouteFields)) → AreParts roster (ribs_of server) shards → AllByRecursion IsCanonicalEvent events
    → AreParts roster (ribs_of (after_all (domain_of roster) events server)) (shards_after_all roster (map (route_event roster) events) shards)
unfolding after_all shards_after_all
parts-after_all roster [] server shards h good = h
parts-after_all roster (event ∷ events) server shards h good =
    parts-after_all roster events (after (domain_of roster) event server) (shards_after roster (route_event roster event) shards) (parts-after roster event server shards h good.0) good.1

-- ---- which shards an event concerns

-- each, where it is Up, Down or Links
pub on-each : (roster : RosterOf) (event : RibEvent RouteFields) → ((owns : IpPrefix → Bool) → concerns owns event ≡ true) → (number : ℕ) (shards : List (Ribs RouteFields))
    → shards_from roster event number shards ≡ map (ribs_after (roster_reader roster) event) shards
on-each roster event all number [] = refl
on-each roster event all number (ribs ∷ shards) =
    λ i. cond (all (is_of (shard_number roster) number) i) (ribs_after (roster_reader roster) event ribs) ribs ∷ on-each roster event all (suc number) shards i

-- the prefix's own, where it is of one prefix
on-none : (roster : RosterOf) (event : RibEvent RouteFields) (at : ℕ) → ((n : ℕ) → concerns (is_of (shard_number roster) n) event ≡ eqb at n) → (number : ℕ) (shards : List (Ribs RouteFields))
    → at < number → shards_from roster event number shards ≡ shards
on-none roster event at own number [] past = refl
on-none roster event at own number (ribs ∷ shards) past =
    λ i. cond ((own number ∙ ne_eqb at number (λ same. omega (arith, same, past))) i) (ribs_after (roster_reader roster) event ribs) ribs
    ∷ on-none roster event at own (suc number) shards (omega (arith, past)) i

pub on-one : (roster : RosterOf) (event : RibEvent RouteFields) (at : ℕ) → ((n : ℕ) → concerns (is_of (shard_number roster) n) event ≡ eqb at n) → (n number : ℕ) (shards : List (Ribs RouteFields)) (ribs : Ribs RouteFields)
    → at ≡ n + number → slice_get shards n ≡ Some ribs → shards_from roster event number shards ≡ slice_set shards n (ribs_after (roster_reader roster) event ribs)
on-one roster event at own zero number (first ∷ shards) ribs here is =
    let first_is : first ≡ ribs = cc in
    λ i. cond ((own number ∙ eq-eqb at number (omega (arith, here))) i) (ribs_after (roster_reader roster) event (first_is i)) (first_is i)
    ∷ on-none roster event at own (suc number) shards (omega (arith, here)) i
on-one roster event at own (suc n) number (first ∷ shards) ribs here is =
    λ i. cond ((own number ∙ ne_eqb at number (λ same. omega (arith, same, here))) i) (ribs_after (roster_reader roster) event first) first
    ∷ on-one roster event at own n (suc number) shards ribs (omega (arith, here)) is i
on-one roster event at own n number [] ribs here is = absurd cc

-- ---- what shards keep

from-settled : (roster : RosterOf) (event : RibEvent RouteFields) (number : ℕ) (shards : List (Ribs RouteFields)) → AllSettled roster shards → AllSettled roster (shards_from roster event number shards)
from-settled roster event number [] h = tt
from-settled roster event number (ribs ∷ shards) h = (at_test (concerns (is_of (shard_number roster) number) event), from-settled roster event (suc number) shards h.1) where
  at_test : (b : Bool) → AreSettled (roster_reader roster) (cond b (ribs_after (roster_reader roster) event ribs) ribs)
  at_test true = settled_after (roster_reader roster) event ribs h.0
  at_test false = h.0

pub settled-shards : (roster : RosterOf) (event : RibEvent RouteFields) (shards : List (Ribs RouteFields)) → AllSettled roster shards → AllSettled roster (shards_after roster event shards)
settled-shards roster event shards h = from-settled roster event 0 shards h
