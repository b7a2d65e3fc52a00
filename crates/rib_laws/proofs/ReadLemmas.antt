-- A server of octets and one of routes, where each route is read from the octets: an event keeps that, and both offer the same.
use Rattle.std.proofs.Common.{◌≡◌, ℕ, suc, bytes_eq, IfSome, Bool, true, false, cond, not, ◌&&◌, eqb, List, [], ◌∷◌, length, Option, Some, None, is_some, option_map, refl, sym, ap, ◌∙◌, subst}
use Rattle.std.specs.FinMap as map_of
use Rattle.std.specs.FinSet as set_of
use Rattle.std.specs.List.{list_any}
use Rattle.std.specs.Ordering.{nat_cmp, eq_by_cmp}
use Rattle.rcp_base.specs.IpPrefix.{IpPrefix}
use Rattle.rcp_base.specs.declared.names.Member.{Member}
use Rattle.rcp_base.specs.declared.names.Edge.{Edge}
use Rattle.rcp_base.specs.Maps.{same_prefix}
use Rattle.rcp_model.specs.Attributes.{number_width}
use Rattle.rcp_model.specs.Routes.{RouteFields, route_of, route_in}
use Rattle.rcp_model.specs.Decision.{choice}
use Rattle.rcp_model.specs.RouteServer.{Domain, slot_cost, contender_of, cons_some, cost_differs}
use Rattle.rcp_model.specs.ServerRibs.{Values, Reader, octets_reader, route_reader, same_route, same_values, value_contender, contenders_from, of_other, offer_of, RibEvent, Up, Down, Change, Links, Work, Rib, Ribs, at_prefix, with_value, without_slot, prefixes_of, is_up, offered, ribs_after}
use Rattle.rcp_model.proofs.RibLemmas.{prefix_total, prefix_exact}
use Rattle.rib_laws.specs.Readings.{IsReading, IsRead, read_event, TestsAgree, IsCanonical, IsCanonicalChange}
use Rattle.rib_laws.proofs.PendingLemmas.{octets_exact, route_exact}
use Rattle.rib_laws.proofs.RibLookups.{same_test, get-with_value, get-without_slot, get-with_each, has_of_prefixes, prefixes_of_has}

-- ---- options

mapped_some : {A B : Type 0} (f : A → B) (o : Option A) → is_some (option_map f o) ≡ is_some o
mapped_some f None = refl
mapped_some f (Some x) = refl

map_cond : {A B : Type 0} (f : A → B) (b : Bool) (x y : Option A) → option_map f (cond b x y) ≡ cond b (option_map f x) (option_map f y)
map_cond f true x y = refl
map_cond f false x y = refl

module _ {V W : Type 0} (from : Reader V) (to : Reader W) (f : V → W) (reading : IsReading from to f) where
  -- ---- offers

  contender_read : (slot id : ℕ) (found : Option V) (cost : Option ℕ) → value_contender to.route slot id (option_map f found) cost ≡ value_contender from.route slot id found cost
  contender_read slot id None cost = refl
  contender_read slot id (Some value) cost = ap (λ route. contender_of slot id route cost) (reading.routes value)

  contenders_read : (values : Values V) (cost_to : ℕ → Option ℕ) (slot : ℕ) (members : List Member)
      → contenders_from to.route (λ s. option_map f (values s)) cost_to slot members ≡ contenders_from from.route values cost_to slot members
  contenders_read values cost_to slot [] = refl
  contenders_read values cost_to slot (member ∷ members) =
      λ i. cons_some (contender_read slot member.bgp_id (values slot) (cost_to slot) i) (contenders_read values cost_to (suc slot) members i)

  other_read : (slot : ℕ) (values : Values V) (chosen : Option ℕ) → of_other slot (λ s. option_map f (values s)) chosen ≡ option_map f (of_other slot values chosen)
  other_read slot values None = refl
  other_read slot values (Some chosen) = sym (map_cond f (eqb chosen slot) None (values chosen))

  pub offer_read : (values : Values V) (edges : List Edge) (slot : ℕ) → offer_of to (λ s. option_map f (values s)) edges slot ≡ option_map f (offer_of from values edges slot)
  unfolding offer_of
  offer_read values edges slot =
      ap (λ members. of_other slot (λ s. option_map f (values s)) (choice slot (slot_cost edges members slot) (contenders_from to.route (λ s. option_map f (values s)) (slot_cost edges members slot) 0 members))) (sym reading.members)
      ∙ ap (λ list. of_other slot (λ s. option_map f (values s)) (choice slot (slot_cost edges from.members slot) list)) (contenders_read values (slot_cost edges from.members slot) 0 from.members)
      ∙ other_read slot values (choice slot (slot_cost edges from.members slot) (contenders_from from.route values (slot_cost edges from.members slot) 0 from.members))

  -- ---- bases

  module _ (values : Rib V) (reads : Rib W) (read : (p : IpPrefix) (s : ℕ) → at_prefix reads p s ≡ option_map f (at_prefix values p s)) where
    without_read : (slot : ℕ) (p : IpPrefix) (s : ℕ) → at_prefix (without_slot slot reads) p s ≡ option_map f (at_prefix (without_slot slot values) p s)
    without_read slot p s =
        get-without_slot slot reads (p, s) ∙ ap (cond (eqb s slot) None) (read p s)
        ∙ sym (map_cond f (eqb s slot) None (map_of.get values (p, s))) ∙ ap (option_map f) (sym (get-without_slot slot values (p, s)))

    with_read : (q : IpPrefix) (slot : ℕ) (value : Option V) (p : IpPrefix) (s : ℕ)
        → at_prefix (with_value (q, slot) (option_map f value) reads) p s ≡ option_map f (at_prefix (with_value (q, slot) value values) p s)
    with_read q slot value p s =
        get-with_value (q, slot) (option_map f value) reads (p, s) ∙ ap (cond (same_prefix p q && eqb s slot) (option_map f value)) (read p s)
        ∙ sym (map_cond f (same_prefix p q && eqb s slot) value (map_of.get values (p, s))) ∙ ap (option_map f) (sym (get-with_value (q, slot) value values (p, s)))

    prefixes_read : (test : ℕ → Bool) (p : IpPrefix) → set_of.contains (prefixes_of test reads) p ≡ set_of.contains (prefixes_of test values) p
    prefixes_read test p = same_test (set_of.contains (prefixes_of test reads) p) (set_of.contains (prefixes_of test values) p)
        (λ inside. let has = has_of_prefixes test reads p inside in
        prefixes_of_has test values p (record { slot = has.slot; passes = has.passes; there = sym (ap is_some (read p has.slot) ∙ mapped_some f (map_of.get values (p, has.slot))) ∙ has.there }))
        (λ inside. let has = has_of_prefixes test values p inside in
        prefixes_of_has test reads p (record { slot = has.slot; passes = has.passes; there = ap is_some (read p has.slot) ∙ mapped_some f (map_of.get values (p, has.slot)) ∙ has.there }))

    sets_read : (test : ℕ → Bool) → prefixes_of test reads ≡ prefixes_of test values
    sets_read test = set_of.same_set prefix_total prefix_exact (prefixes_of test reads) (prefixes_of test values) (prefixes_read test)

  -- ---- events

  module _ (values : Ribs V) (reads : Ribs W) (read : IsRead f values reads) where
    union_read : (test : ℕ → Bool) → set_of.union reads.pending (prefixes_of test reads.announced) ≡ set_of.union values.pending (prefixes_of test values.announced)
    union_read test = λ i. set_of.union (read.pending i) (sets_read values.announced reads.announced read.announced test i)

    read_up : (slot : ℕ) → IsRead f (ribs_after from (Up slot) values) (ribs_after to (Up slot) reads)
    unfolding ribs_after
    read_up slot = record {
      connected = ap (λ c. set_of.insert c slot) read.connected;
      announced = read.announced;
      given = without_read values.given reads.given read.given slot;
      pending = union_read (λ e. true);
      edges = read.edges;
    }

    read_down : (slot : ℕ) → IsRead f (ribs_after from (Down slot) values) (ribs_after to (Down slot) reads)
    unfolding ribs_after
    read_down slot = record {
      connected = ap (λ c. set_of.remove c slot) read.connected;
      announced = without_read values.announced reads.announced read.announced slot;
      given = without_read values.given reads.given read.given slot;
      pending = union_read (λ e. eqb e slot);
      edges = read.edges;
    }

    read_links : (edges : List Edge) → IsRead f (ribs_after from (Links edges) values) (ribs_after to (Links edges) reads)
    unfolding ribs_after
    read_links edges = record {
      connected = read.connected;
      announced = read.announced;
      given = read.given;
      pending = ap (λ test. set_of.union reads.pending (prefixes_of test reads.announced))
          (λ i e. cost_differs (read.edges i) edges (sym reading.members i) e (length (sym reading.members i)))
          ∙ union_read (λ e. cost_differs values.edges edges from.members e (length from.members));
      edges = refl;
    }

    read_change : (slot : ℕ) (q : IpPrefix) (value : Option V) → TestsAgree from to f (at_prefix values.announced q slot) value
        → IsRead f (ribs_after from (Change slot q value) values) (ribs_after to (Change slot q (option_map f value)) reads)
    unfolding ribs_after
    read_change slot q value agree =
        subst (λ t. IsRead f (ribs_after from (Change slot q value) values) (cond t (record reads { announced = with_value (q, slot) (option_map f value) reads.announced; pending = set_of.insert reads.pending q }) reads))
        (λ i. set_of.contains (sym read.connected i) slot && not (test i))
        (at_test (is_up values slot && not (same_values from.same (at_prefix values.announced q slot) value))) where
          test : same_values from.same (at_prefix values.announced q slot) value ≡ same_values to.same (at_prefix reads.announced q slot) (option_map f value)
          test = sym (ap (λ o. same_values to.same o (option_map f value)) (read.announced q slot) ∙ agree)

          at_test : (t : Bool) → IsRead f (cond t (record values { announced = with_value (q, slot) value values.announced; pending = set_of.insert values.pending q }) values)
              (cond t (record reads { announced = with_value (q, slot) (option_map f value) reads.announced; pending = set_of.insert reads.pending q }) reads)
          at_test true = record {
            connected = read.connected;
            announced = with_read values.announced reads.announced read.announced q slot value;
            given = read.given;
            pending = ap (λ ps. set_of.insert ps q) read.pending;
            edges = read.edges;
          }
          at_test false = read

    offered_read : (p : IpPrefix) (s : ℕ) → offered to reads p s ≡ option_map f (offered from values p s)
    offered_read p s =
        (λ i. offer_of to (λ e. read.announced p e i) (read.edges i) s) ∙ offer_read (at_prefix values.announced p) values.edges s

    read_work : (q : IpPrefix) → IsRead f (ribs_after from (Work q) values) (ribs_after to (Work q) reads)
    unfolding ribs_after
    read_work q = record {
      connected = read.connected;
      announced = read.announced;
      given = λ p s.
          get-with_each q (offered to reads q) (set_of.items reads.connected) reads.given (p, s)
          ∙ (λ i. cond (same_prefix p q && list_any (eq_by_cmp nat_cmp s) (set_of.items (read.connected i))) (offered_read q s i) (read.given p s i))
          ∙ sym (map_cond f (same_prefix p q && list_any (eq_by_cmp nat_cmp s) (set_of.items values.connected)) (offered from values q s) (map_of.get values.given (p, s)))
          ∙ ap (option_map f) (sym (get-with_each q (offered from values q) (set_of.items values.connected) values.given (p, s)));
      pending = ap (λ ps. set_of.remove ps q) read.pending;
      edges = read.edges;
    }

-- ---- routes from octets

own_octets : (as_number : ℕ) (octets : List ℕ) → IsCanonical octets → (route_in number_width as_number octets).attrs ≡ octets
unfolding route_of
own_octets as_number octets canonical = canonical

tests_agree : (domain : Domain) (a b : Option (List ℕ)) → IfSome a IsCanonical → IfSome b IsCanonical → TestsAgree (octets_reader domain) (route_reader domain.members) (route_in number_width domain.as_number) a b
tests_agree domain None None h g = refl
tests_agree domain None (Some b) h g = refl
tests_agree domain (Some a) None h g = refl
tests_agree domain (Some a) (Some b) h g =
    same_test (same_route (route_in number_width domain.as_number a) (route_in number_width domain.as_number b)) (bytes_eq a b)
    (λ e.
    let routes = route_exact.sound (route_in number_width domain.as_number a) (route_in number_width domain.as_number b) e in
    let octets : a ≡ b = sym (own_octets domain.as_number a h) ∙ ap (λ (r : RouteFields). r.attrs) routes ∙ own_octets domain.as_number b g in
    subst (λ o. bytes_eq a o ≡ true) octets (octets_exact.itself a))
    (λ e.
    let octets : a ≡ b = octets_exact.sound a b e in
    subst (λ o. same_route (route_in number_width domain.as_number a) (route_in number_width domain.as_number o) ≡ true) octets (route_exact.itself (route_in number_width domain.as_number a)))

reading : (domain : Domain) → IsReading (octets_reader domain) (route_reader domain.members) (route_in number_width domain.as_number)
reading domain = record { members = refl; routes = λ value. refl }

pub routes_read : (domain : Domain) (event : RibEvent (List ℕ)) (octets : Ribs (List ℕ)) (routes : Ribs RouteFields)
    → IsRead (route_in number_width domain.as_number) octets routes → IsCanonicalChange octets event
    → IsRead (route_in number_width domain.as_number) (ribs_after (octets_reader domain) event octets) (ribs_after (route_reader domain.members) (read_event (route_in number_width domain.as_number) event) routes)
routes_read domain (Up slot) octets routes read good = read_up (octets_reader domain) (route_reader domain.members) (route_in number_width domain.as_number) (reading domain) octets routes read slot
routes_read domain (Down slot) octets routes read good = read_down (octets_reader domain) (route_reader domain.members) (route_in number_width domain.as_number) (reading domain) octets routes read slot
routes_read domain (Change slot p value) octets routes read good =
    read_change (octets_reader domain) (route_reader domain.members) (route_in number_width domain.as_number) (reading domain) octets routes read slot p value
    (tests_agree domain (at_prefix octets.announced p slot) value good.0 good.1)
routes_read domain (Links edges) octets routes read good = read_links (octets_reader domain) (route_reader domain.members) (route_in number_width domain.as_number) (reading domain) octets routes read edges
routes_read domain (Work p) octets routes read good = read_work (octets_reader domain) (route_reader domain.members) (route_in number_width domain.as_number) (reading domain) octets routes read p

pub routes_offered : (domain : Domain) (octets : Ribs (List ℕ)) (routes : Ribs RouteFields) → IsRead (route_in number_width domain.as_number) octets routes → (p : IpPrefix) (slot : ℕ)
    → offered (route_reader domain.members) routes p slot ≡ option_map (route_in number_width domain.as_number) (offered (octets_reader domain) octets p slot)
routes_offered domain octets routes read p slot = offered_read (octets_reader domain) (route_reader domain.members) (route_in number_width domain.as_number) (reading domain) octets routes read p slot
