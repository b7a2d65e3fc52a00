-- Each event does the same to the server of lists and to the one of maps that it comes to.
use Rattle.std.proofs.Common.{◌≡◌, ℕ, suc, map, bytes_eq, Bool, true, false, cond, not, ◌&&◌, ◌||◌, eqb, List, [], ◌∷◌, length, Option, Some, None, is_some, option_map, refl, sym, ap, ◌∙◌, subst}
use Rattle.std.specs.Prelude.{filter}
use Rattle.std.specs.FinMap as map_of
use Rattle.std.specs.FinSet as set_of
use Rattle.std.specs.Cmp.{unsigned_tied}
use Rattle.std.proofs.lemmas.Cmp.{nat_cmp_total}
use Rattle.rcp_base.specs.IpPrefix.{IpPrefix}
use Rattle.rcp_base.specs.declared.names.Member.{Member}
use Rattle.rcp_base.specs.declared.names.Edge.{Edge}
use Rattle.rcp_base.specs.Maps.{get_at, put_at, set_at, without, same_prefix, include, include_all, is_among}
use Rattle.rcp_model.specs.Attributes.{number_width}
use Rattle.rcp_model.specs.LinkState.{same_number}
use Rattle.rcp_model.specs.Updates.{Table}
use Rattle.rcp_model.specs.Routes.{route_in}
use Rattle.rcp_model.specs.Decision.{choice}
use Rattle.rcp_model.specs.RouteServer.{Domain, Announced, Announcements, Place, Server, ServerEvent, Up, Down, Change, Links, Work, same_place, same_octets, slot_cost, announcement_contender, cons_some, candidates_from, candidates, choice_of, unless_own, announced_by, announced_at, announced_prefixes, is_connected, cost_differs, offer, worked, after, after_all}
use Rattle.rcp_model.specs.ServerRibs.{Ribs, octets_reader, same_values, value_contender, contenders_from, of_other, offer_of, event_of, at_prefix, with_value, prefixes_of, is_up, has_pending, offered, ribs_after, ribs_after_all, cell_in, ribs_of}
use Rattle.rcp_base.proofs.MapLemmas.{same_prefix-is, prefix_test, is_among-include, is_among-include_all}
use Rattle.rcp_model.proofs.ServerLemmas.{number_test, place_test}
use Rattle.rcp_model.proofs.RibLemmas.{prefix_total, prefix_exact, rib_total, rib_exact}
use Rattle.rib_laws.proofs.RibLookups.{prefix_tied, get-with_value, get-without_slot, get-with_each}
use Rattle.rib_laws.proofs.ListLookups.{get_at-put_at, get_at-without, get_at-set_at, other_way, up_in_lists, announced_in_lists, given_in_tables, pending_in_lists, of_slots, prefixes_in_lists, worked_at, both_orders}

-- servers that answer alike are equal
pub ribs_by_answers : {V : Type 0} (a b : Ribs V) → ((slot : ℕ) → is_up a slot ≡ is_up b slot) → ((p : IpPrefix) (slot : ℕ) → at_prefix a.announced p slot ≡ at_prefix b.announced p slot)
    → ((p : IpPrefix) (slot : ℕ) → at_prefix a.given p slot ≡ at_prefix b.given p slot) → ((p : IpPrefix) → has_pending a p ≡ has_pending b p) → a.edges ≡ b.edges → a ≡ b
ribs_by_answers a b up announced given pending edges =
    let connected_are : a.connected ≡ b.connected = set_of.same_set nat_cmp_total set_of.nat_cmp-IsAntisymmetric a.connected b.connected up in
    let announced_are : a.announced ≡ b.announced = map_of.same_map rib_total rib_exact a.announced b.announced (λ k. announced k.0 k.1) in
    let given_are : a.given ≡ b.given = map_of.same_map rib_total rib_exact a.given b.given (λ k. given k.0 k.1) in
    let pending_are : a.pending ≡ b.pending = set_of.same_set prefix_total prefix_exact a.pending b.pending pending in
    λ i. record { connected = connected_are i; announced = announced_are i; given = given_are i; pending = pending_are i; edges = edges i }

-- ---- small facts on tests

put_test : {A : Type 0} (b : Bool) (x : A) (o : Option A) → is_some (cond b (Some x) o) ≡ (b || is_some o)
put_test true x o = refl
put_test false x o = refl

gone_test : {A : Type 0} (b : Bool) (o : Option A) → is_some (cond b None o) ≡ (not b && is_some o)
gone_test true o = refl
gone_test false o = refl

mapped_test : {A B : Type 0} (f : A → B) (o : Option A) → is_some (option_map f o) ≡ is_some o
mapped_test f None = refl
mapped_test f (Some x) = refl

either_order : (a b : Bool) → (a || b) ≡ (b || a)
either_order true true = refl
either_order true false = refl
either_order false true = refl
either_order false false = refl

all_kept : {A : Type 0} (xs : List A) → filter (λ x. true) xs ≡ xs
all_kept [] = refl
all_kept (x ∷ xs) = ap (λ l. x ∷ l) (all_kept xs)

pub not_among : (p : IpPrefix) (ps : List IpPrefix) (q : IpPrefix) → is_among (filter (λ r. not (same_prefix p r)) ps) q ≡ (not (same_prefix q p) && is_among ps q)
not_among p [] q = at_test (same_prefix q p) where
  at_test : (b : Bool) → false ≡ (not b && false)
  at_test true = refl
  at_test false = refl
not_among p (r ∷ ps) q = at_tests (same_prefix p r) refl (same_prefix q r) refl (not_among p ps q) where
  dropped : (b a : Bool) → (not b && a) ≡ (not b && (b || a))
  dropped true a = refl
  dropped false a = refl

  at_tests : (b : Bool) → same_prefix p r ≡ b → (c : Bool) → same_prefix q r ≡ c
      → is_among (filter (λ s. not (same_prefix p s)) ps) q ≡ (not (same_prefix q p) && is_among ps q)
      → is_among (cond (not b) (r ∷ filter (λ s. not (same_prefix p s)) ps) (filter (λ s. not (same_prefix p s)) ps)) q ≡ (not (same_prefix q p) && (same_prefix q r || is_among ps q))
  at_tests true is c is_q rest =
      let same : p ≡ r = same_prefix-is p r is in
      rest ∙ subst (λ s. (not (same_prefix q p) && is_among ps q) ≡ (not (same_prefix q p) && (same_prefix q s || is_among ps q))) same (dropped (same_prefix q p) (is_among ps q))
  at_tests false is true is_q rest =
      let same : q ≡ r = same_prefix-is q r is_q in
      let apart : same_prefix q p ≡ false = other_way same_prefix prefix_test q p ∙ ap (same_prefix p) same ∙ is in
      (λ i. is_q i || is_among (filter (λ s. not (same_prefix p s)) ps) q) ∙ sym (λ i. not (apart i) && (is_q i || is_among ps q))
  at_tests false is false is_q rest =
      (λ i. is_q i || is_among (filter (λ s. not (same_prefix p s)) ps) q) ∙ rest ∙ sym (λ i. not (same_prefix q p) && (is_q i || is_among ps q))

-- ---- what becomes pending

joined_pending : (test : ℕ → Bool) (server : Server) (ps : List IpPrefix) (p : IpPrefix) → is_among ps p ≡ is_among (of_slots test server.announcements) p
    → is_among (include_all ps server.pending) p ≡ set_of.contains (set_of.union (ribs_of server).pending (prefixes_of test (ribs_of server).announced)) p
joined_pending test server ps p are =
    is_among-include_all ps server.pending p
    ∙ (λ i. (are ∙ sym (prefixes_in_lists test server p)) i || sym (pending_in_lists server p) i)
    ∙ either_order (set_of.contains (prefixes_of test (ribs_of server).announced) p) (has_pending (ribs_of server) p)
    ∙ sym (set_of.contains-union prefix_total (ribs_of server).pending (prefixes_of test (ribs_of server).announced) p)

-- ---- the events

join_up : (domain : Domain) (slot : ℕ) (server : Server) → ribs_of (after domain (Up slot) server) ≡ ribs_after (octets_reader domain) (event_of (Up slot)) (ribs_of server)
unfolding after ribs_after
join_up domain slot server = ribs_by_answers (ribs_of (after domain (Up slot) server)) (ribs_after (octets_reader domain) (event_of (Up slot)) (ribs_of server)) up (λ p s. refl) given pending refl where
  up : (s : ℕ) → is_up (ribs_of (after domain (Up slot) server)) s ≡ is_up (ribs_after (octets_reader domain) (event_of (Up slot)) (ribs_of server)) s
  up s =
      up_in_lists (after domain (Up slot) server) s
      ∙ ap is_some (get_at-put_at same_number number_test slot [] server.tables s)
      ∙ put_test (eqb s slot) [] (get_at same_number s server.tables)
      ∙ (λ i. sym (unsigned_tied s slot) i || sym (up_in_lists server s) i)
      ∙ sym (set_of.contains-insert nat_cmp_total (ribs_of server).connected slot s)

  given : (p : IpPrefix) (s : ℕ) → at_prefix (ribs_of (after domain (Up slot) server)).given p s ≡ at_prefix (ribs_after (octets_reader domain) (event_of (Up slot)) (ribs_of server)).given p s
  given p s =
      given_in_tables (put_at same_number slot [] server.tables) (p, s)
      ∙ ap (λ (o : Option Table). cell_in o p) (get_at-put_at same_number number_test slot [] server.tables s)
      ∙ at_test (eqb s slot)
      ∙ ap (cond (eqb s slot) None) (sym (given_in_tables server.tables (p, s)))
      ∙ sym (get-without_slot slot (ribs_of server).given (p, s)) where
        at_test : (b : Bool) → cell_in (cond b (Some []) (get_at same_number s server.tables)) p ≡ cond b None (cell_in (get_at same_number s server.tables) p)
        at_test true = refl
        at_test false = refl

  pending : (p : IpPrefix) → has_pending (ribs_of (after domain (Up slot) server)) p ≡ has_pending (ribs_after (octets_reader domain) (event_of (Up slot)) (ribs_of server)) p
  pending p =
      pending_in_lists (after domain (Up slot) server) p
      ∙ joined_pending (λ e. true) server (announced_prefixes server.announcements) p (ap (λ (a : Announcements). is_among (announced_prefixes a) p) (sym (all_kept server.announcements)))

join_down : (domain : Domain) (slot : ℕ) (server : Server) → ribs_of (after domain (Down slot) server) ≡ ribs_after (octets_reader domain) (event_of (Down slot)) (ribs_of server)
unfolding after ribs_after
join_down domain slot server = ribs_by_answers (ribs_of (after domain (Down slot) server)) (ribs_after (octets_reader domain) (event_of (Down slot)) (ribs_of server)) up announced given pending refl where
  up : (s : ℕ) → is_up (ribs_of (after domain (Down slot) server)) s ≡ is_up (ribs_after (octets_reader domain) (event_of (Down slot)) (ribs_of server)) s
  up s =
      up_in_lists (after domain (Down slot) server) s
      ∙ ap is_some (get_at-without same_number number_test (same_number slot) server.tables s)
      ∙ gone_test (eqb slot s) (get_at same_number s server.tables)
      ∙ (λ i. not ((other_way same_number number_test slot s ∙ sym (unsigned_tied s slot)) i) && sym (up_in_lists server s) i)
      ∙ sym (set_of.contains-remove nat_cmp_total (ribs_of server).connected slot s)

  announced : (p : IpPrefix) (s : ℕ) → at_prefix (ribs_of (after domain (Down slot) server)).announced p s ≡ at_prefix (ribs_after (octets_reader domain) (event_of (Down slot)) (ribs_of server)).announced p s
  announced p s =
      announced_in_lists (after domain (Down slot) server) p s
      ∙ get_at-without same_place place_test (λ (place : Place). eqb place.0 slot) server.announcements (s, p)
      ∙ ap (cond (eqb s slot) None) (sym (announced_in_lists server p s))
      ∙ sym (get-without_slot slot (ribs_of server).announced (p, s))

  given : (p : IpPrefix) (s : ℕ) → at_prefix (ribs_of (after domain (Down slot) server)).given p s ≡ at_prefix (ribs_after (octets_reader domain) (event_of (Down slot)) (ribs_of server)).given p s
  given p s =
      given_in_tables (without (same_number slot) server.tables) (p, s)
      ∙ ap (λ (o : Option Table). cell_in o p) (get_at-without same_number number_test (same_number slot) server.tables s)
      ∙ at_test (eqb slot s)
      ∙ ap (λ b. cond b None (cell_in (get_at same_number s server.tables) p)) (other_way same_number number_test slot s)
      ∙ ap (cond (eqb s slot) None) (sym (given_in_tables server.tables (p, s)))
      ∙ sym (get-without_slot slot (ribs_of server).given (p, s)) where
        at_test : (b : Bool) → cell_in (cond b None (get_at same_number s server.tables)) p ≡ cond b None (cell_in (get_at same_number s server.tables) p)
        at_test true = refl
        at_test false = refl

  pending : (p : IpPrefix) → has_pending (ribs_of (after domain (Down slot) server)) p ≡ has_pending (ribs_after (octets_reader domain) (event_of (Down slot)) (ribs_of server)) p
  pending p =
      pending_in_lists (after domain (Down slot) server) p
      ∙ joined_pending (λ e. eqb e slot) server (of_slots (λ e. eqb e slot) server.announcements) p refl

-- the server in which a slot announces this at a prefix, and the same of maps
set_lists : ℕ → IpPrefix → Option (List ℕ) → Server → Server
set_lists slot p octets server = record server { announcements = set_at same_place (slot, p) octets server.announcements; pending = include p server.pending }

set_ribs : ℕ → IpPrefix → Option (List ℕ) → Ribs (List ℕ) → Ribs (List ℕ)
set_ribs slot p octets ribs = record ribs { announced = with_value (p, slot) octets ribs.announced; pending = set_of.insert ribs.pending p }

join_set : (slot : ℕ) (p : IpPrefix) (octets : Option (List ℕ)) (server : Server) → ribs_of (set_lists slot p octets server) ≡ set_ribs slot p octets (ribs_of server)
unfolding set_lists set_ribs
join_set slot p octets server = ribs_by_answers (ribs_of (set_lists slot p octets server)) (set_ribs slot p octets (ribs_of server)) (λ s. refl) announced (λ q s. refl) pending refl where
  announced : (q : IpPrefix) (s : ℕ) → at_prefix (ribs_of (set_lists slot p octets server)).announced q s ≡ at_prefix (set_ribs slot p octets (ribs_of server)).announced q s
  announced q s =
      announced_in_lists (set_lists slot p octets server) q s
      ∙ get_at-set_at same_place place_test (slot, p) octets server.announcements (s, q)
      ∙ (λ i. cond (both_orders (eqb s slot) (same_prefix q p) i) octets (sym (announced_in_lists server q s) i))
      ∙ sym (get-with_value (p, slot) octets (ribs_of server).announced (q, s))

  pending : (q : IpPrefix) → has_pending (ribs_of (set_lists slot p octets server)) q ≡ has_pending (set_ribs slot p octets (ribs_of server)) q
  pending q =
      pending_in_lists (set_lists slot p octets server) q
      ∙ is_among-include p q server.pending
      ∙ (λ i. sym (prefix_tied q p) i || sym (pending_in_lists server q) i)
      ∙ sym (set_of.contains-insert prefix_total (ribs_of server).pending p q)

octets_test : (a b : Option (List ℕ)) → same_octets a b ≡ same_values bytes_eq a b
octets_test None None = refl
octets_test None (Some b) = refl
octets_test (Some a) None = refl
octets_test (Some a) (Some b) = refl

join_change : (domain : Domain) (slot : ℕ) (p : IpPrefix) (octets : Option (List ℕ)) (server : Server)
    → ribs_of (after domain (Change slot p octets) server) ≡ ribs_after (octets_reader domain) (event_of (Change slot p octets)) (ribs_of server)
unfolding after ribs_after set_lists set_ribs
join_change domain slot p octets server =
    at_test (is_connected server slot && not (same_octets (announced_by server.announcements slot p) octets))
    ∙ ap (λ b. cond b (set_ribs slot p octets (ribs_of server)) (ribs_of server))
    ((λ i. sym (up_in_lists server slot) i && not (same_octets (sym (announced_in_lists server p slot) i) octets))
    ∙ ap (λ t. is_up (ribs_of server) slot && not t) (octets_test (map_of.get (ribs_of server).announced (p, slot)) octets)) where
      at_test : (b : Bool) → ribs_of (cond b (set_lists slot p octets server) server) ≡ cond b (set_ribs slot p octets (ribs_of server)) (ribs_of server)
      at_test true = join_set slot p octets server
      at_test false = refl

join_links : (domain : Domain) (edges : List Edge) (server : Server) → ribs_of (after domain (Links edges) server) ≡ ribs_after (octets_reader domain) (event_of (Links edges)) (ribs_of server)
unfolding after ribs_after
join_links domain edges server = ribs_by_answers (ribs_of (after domain (Links edges) server)) (ribs_after (octets_reader domain) (event_of (Links edges)) (ribs_of server)) (λ s. refl) (λ p s. refl) (λ p s. refl) pending refl where
  pending : (p : IpPrefix) → has_pending (ribs_of (after domain (Links edges) server)) p ≡ has_pending (ribs_after (octets_reader domain) (event_of (Links edges)) (ribs_of server)) p
  pending p =
      pending_in_lists (after domain (Links edges) server) p
      ∙ joined_pending (λ e. cost_differs server.edges edges domain.members e (length domain.members)) server
      (of_slots (λ e. cost_differs server.edges edges domain.members e (length domain.members)) server.announcements) p refl

-- what is offered in both is the same
contender_read : (domain : Domain) (slot id : ℕ) (found : Option (List ℕ)) (cost : Option ℕ) → value_contender (route_in number_width domain.as_number) slot id found cost ≡ announcement_contender domain slot id found cost
contender_read domain slot id None cost = refl
contender_read domain slot id (Some octets) cost = refl

contenders_read : (domain : Domain) (announced : Announced) (cost_to : ℕ → Option ℕ) (slot : ℕ) (members : List Member)
    → contenders_from (route_in number_width domain.as_number) announced cost_to slot members ≡ candidates_from domain announced cost_to slot members
contenders_read domain announced cost_to slot [] = refl
contenders_read domain announced cost_to slot (member ∷ members) = λ i. cons_some (contender_read domain slot member.bgp_id (announced slot) (cost_to slot) i) (contenders_read domain announced cost_to (suc slot) members i)

other_read : (slot : ℕ) (announced : Announced) (chosen : Option ℕ) → of_other slot announced chosen ≡ unless_own slot announced chosen
other_read slot announced None = refl
other_read slot announced (Some chosen) = refl

pub offer_read : (domain : Domain) (announced : Announced) (edges : List Edge) (slot : ℕ) → offer_of (octets_reader domain) announced edges slot ≡ offer domain announced edges slot
unfolding offer_of offer choice_of candidates
offer_read domain announced edges slot =
    ap (λ list. of_other slot announced (choice slot (slot_cost edges domain.members slot) list)) (contenders_read domain announced (slot_cost edges domain.members slot) 0 domain.members)
    ∙ other_read slot announced (choice slot (slot_cost edges domain.members slot) (candidates_from domain announced (slot_cost edges domain.members slot) 0 domain.members))

pub offers_join : (domain : Domain) (server : Server) (p : IpPrefix) (slot : ℕ) → offered (octets_reader domain) (ribs_of server) p slot ≡ offer domain (announced_at server.announcements p) server.edges slot
offers_join domain server p slot =
    offer_read domain (at_prefix (ribs_of server).announced p) server.edges slot
    ∙ ap (λ announced. offer domain announced server.edges slot) (λ i s. announced_in_lists server p s i)

join_work : (domain : Domain) (p : IpPrefix) (server : Server) → ribs_of (after domain (Work p) server) ≡ ribs_after (octets_reader domain) (event_of (Work p)) (ribs_of server)
unfolding after ribs_after
join_work domain p server = ribs_by_answers (ribs_of (after domain (Work p) server)) (ribs_after (octets_reader domain) (event_of (Work p)) (ribs_of server)) up (λ q s. refl) given pending refl where
  up : (s : ℕ) → is_up (ribs_of (after domain (Work p) server)) s ≡ is_up (ribs_after (octets_reader domain) (event_of (Work p)) (ribs_of server)) s
  up s =
      up_in_lists (after domain (Work p) server) s
      ∙ ap is_some (worked_at domain server.announcements server.edges p s server.tables)
      ∙ mapped_test (set_at same_prefix p (offer domain (announced_at server.announcements p) server.edges s)) (get_at same_number s server.tables)
      ∙ sym (up_in_lists server s)

  given : (q : IpPrefix) (s : ℕ) → at_prefix (ribs_of (after domain (Work p) server)).given q s ≡ at_prefix (ribs_after (octets_reader domain) (event_of (Work p)) (ribs_of server)).given q s
  given q s =
      given_in_tables (worked domain server.announcements server.edges p server.tables) (q, s)
      ∙ ap (λ (o : Option Table). cell_in o q) (worked_at domain server.announcements server.edges p s server.tables)
      ∙ at_table (get_at same_number s server.tables)
      ∙ (λ i. cond (same_prefix q p && (sym (up_in_lists server s) ∙ set_of.contains-items (ribs_of server).connected s) i) (sym (offers_join domain server p s) i) (sym (given_in_tables server.tables (q, s)) i))
      ∙ sym (get-with_each p (offered (octets_reader domain) (ribs_of server) p) (set_of.items (ribs_of server).connected) (ribs_of server).given (q, s)) where
        offer_at : Option (List ℕ)
        offer_at = offer domain (announced_at server.announcements p) server.edges s

        unset : (b : Bool) (x : Option (List ℕ)) → None ≡ cond (b && false) x None
        unset true x = refl
        unset false x = refl

        set : (b : Bool) (x y : Option (List ℕ)) → cond b x y ≡ cond (b && true) x y
        set true x y = refl
        set false x y = refl

        at_table : (o : Option Table) → cell_in (option_map (set_at same_prefix p (offer domain (announced_at server.announcements p) server.edges s)) o) q
            ≡ cond (same_prefix q p && is_some o) (offer domain (announced_at server.announcements p) server.edges s) (cell_in o q)
        at_table None = unset (same_prefix q p) (offer domain (announced_at server.announcements p) server.edges s)
        at_table (Some table) =
            get_at-set_at same_prefix prefix_test p (offer domain (announced_at server.announcements p) server.edges s) table q
            ∙ set (same_prefix q p) (offer domain (announced_at server.announcements p) server.edges s) (get_at same_prefix q table)

  pending : (q : IpPrefix) → has_pending (ribs_of (after domain (Work p) server)) q ≡ has_pending (ribs_after (octets_reader domain) (event_of (Work p)) (ribs_of server)) q
  pending q =
      pending_in_lists (after domain (Work p) server) q
      ∙ not_among p server.pending q
      ∙ (λ i. not (sym (prefix_tied q p) i) && sym (pending_in_lists server q) i)
      ∙ sym (set_of.contains-remove prefix_total (ribs_of server).pending p q)

-- THE JOIN: what a server of lists comes to after an event is what it came to before, after the event
pub join : (domain : Domain) (event : ServerEvent) (server : Server) → ribs_of (after domain event server) ≡ ribs_after (octets_reader domain) (event_of event) (ribs_of server)
join domain (Up slot) server = join_up domain slot server
join domain (Down slot) server = join_down domain slot server
join domain (Change slot p octets) server = join_change domain slot p octets server
join domain (Links edges) server = join_links domain edges server
join domain (Work p) server = join_work domain p server

pub join_all : (domain : Domain) (events : List ServerEvent) (server : Server) → ribs_of (after_all domain events server) ≡ ribs_after_all (octets_reader domain) (map event_of events) (ribs_of server)
unfolding after_all ribs_after_all
join_all domain [] server = refl
join_all domain (event ∷ events) server = join_all domain events (after domain event server) ∙ ap (ribs_after_all (octets_reader domain) (map event_of events)) (join domain event server)
