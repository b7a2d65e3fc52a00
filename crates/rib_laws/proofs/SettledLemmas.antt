-- Where a prefix isn't pending, each connected slot has what it is offered: each event keeps that.
use Rattle.std.proofs.Common.{◌≡◌, ◌≢◌, ℕ, zero, suc, ◌<◌, ◌≤◌, Bool, true, false, cond, not, ◌&&◌, ◌||◌, ◌⊎◌, eqb, List, [], ◌∷◌, length, Option, Some, None, is_some, IsSome, refl, sym, ap, ◌∙◌, inl, inr, subst, arith}
use Rattle.std.specs.FinMap as map_of
use Rattle.std.specs.FinSet as set_of
use Rattle.std.specs.List.{list_any, AllByRecursion}
use Rattle.std.specs.Ordering.{nat_cmp}
use Rattle.std.specs.Cmp.{unsigned_tied}
use Rattle.std.proofs.lemmas.Cmp.{nat_cmp_total}
use Rattle.std.proofs.lemmas.Bool.{and_parts, or_parts, eq-eqb, false≢true, not-true, cases_lt}
use Rattle.rcp_base.specs.IpPrefix.{IpPrefix}
use Rattle.rcp_base.specs.declared.names.Member.{Member}
use Rattle.rcp_base.specs.declared.names.Edge.{Edge}
use Rattle.rcp_base.specs.Maps.{get_at, same_prefix}
use Rattle.rcp_model.specs.Updates.{Table}
use Rattle.rcp_model.specs.Routes.{RouteFields, is_usable}
use Rattle.rcp_model.specs.Decision.{Contender, contender, tied, is_of, is_nearer, is_lower_pair, nearest, choice}
use Rattle.rcp_model.specs.RouteServer.{Domain, Server, ServerEvent, router_at, slot_cost, contender_of, cons_some, offer, same_cost, cost_differs, announced_at, is_pending, table_of, after}
use Rattle.rcp_model.specs.ServerRibs.{Values, Reader, same_values, octets_reader, value_contender, contenders_from, of_other, offer_of, RibEvent, Up, Down, Change, Links, Work, event_of, Rib, Ribs, at_prefix, with_value, without_slot, prefixes_of, cell_in, is_up, has_pending, offered, AreSettled, empty_ribs, ribs_after, ribs_of}
use Rattle.rcp_base.proofs.MapLemmas.{same_prefix-is}
use Rattle.rcp_model.proofs.OfferLemmas.{filter-keeps}
use Rattle.rcp_model.proofs.RibLemmas.{prefix_total}
use Rattle.rib_laws.proofs.RibLookups.{prefix_tied, get-with_value, get-without_slot, get-with_each, prefixes_of_has}
use Rattle.rib_laws.proofs.ListLookups.{up_in_lists, given_in_tables, pending_in_lists}
use Rattle.rib_laws.proofs.JoinLemmas.{join, offers_join}
use Rattle.rib_laws.proofs.PendingLemmas.{cost_same, test_of_moves}

-- ---- an offer depends on the costs to those that announce

cost_decided : (a b : Option ℕ) → (a ≢ b → ⊥) → a ≡ b
cost_decided a b alike = at_test (same_cost a b) refl where
  itself : (o : Option ℕ) → same_cost o o ≡ true
  itself None = refl
  itself (Some n) = eq-eqb n n refl

  at_test : (t : Bool) → same_cost a b ≡ t → a ≡ b
  at_test true e = cost_same a b e
  at_test false e = absurd (alike (λ same. false≢true (sym e ∙ ap (same_cost a) (sym same) ∙ itself a)))

module _ (before now : ℕ → Option ℕ) where
  -- the costs to a contender are the same
  Alike : Contender → Type 0
  Alike c = before c.slot ≡ now c.slot

  nearer-alike : (a b : Contender) → Alike a → Alike b → is_nearer before b a ≡ is_nearer now b a
  unfolding Alike
  nearer-alike a b same_a same_b = λ i. is_lower_pair (same_b i) b.id (same_a i) a.id

  any-alike : (a : Contender) (list : List Contender) → Alike a → AllByRecursion Alike list → list_any (λ b. is_nearer before b a) list ≡ list_any (λ b. is_nearer now b a) list
  any-alike a [] same all = refl
  any-alike a (b ∷ list) same all = λ i. nearer-alike a b same all.0 i || any-alike a list same all.1 i

  nearest-alike : (list : List Contender) → AllByRecursion Alike list → nearest before list ≡ nearest now list
  nearest-alike [] all = refl
  nearest-alike (a ∷ list) all = λ i. cond (any-alike a list all.0 all.1 i) (nearest-alike list all.1 i) (Some a.slot)

  tied-alike : (list : List Contender) → AllByRecursion Alike list → AllByRecursion Alike (tied list)
  unfolding tied
  tied-alike list all = filter-keeps Alike _ _ (filter-keeps Alike _ _ (filter-keeps Alike _ _ (filter-keeps Alike _ _ all)))

  choice-alike : (slot : ℕ) (list : List Contender) → AllByRecursion Alike list → choice slot before list ≡ choice slot now list
  unfolding choice
  choice-alike slot list all = ap (cond (list_any (is_of slot) (tied list)) (Some slot)) (nearest-alike (tied list) (tied-alike list all))

  module _ {V : Type 0} (route : V → RouteFields) (values : Values V) (same : (e : ℕ) → IsSome (values e) → before e ≡ now e) where
    contender-same : (slot id : ℕ) (found : Option V) → values slot ≡ found → value_contender route slot id found (before slot) ≡ value_contender route slot id found (now slot)
    contender-same slot id None is = refl
    contender-same slot id (Some value) is = ap (contender_of slot id (route value)) (same slot (ap is_some is))

    candidates-same : (slot : ℕ) (members : List Member) → contenders_from route values before slot members ≡ contenders_from route values now slot members
    candidates-same slot [] = refl
    candidates-same slot (member ∷ members) = λ i. cons_some (contender-same slot member.bgp_id (values slot) refl i) (candidates-same (suc slot) members i)

    with_contender : (slot id : ℕ) (found : Option V) (cost : Option ℕ) (list : List Contender) → values slot ≡ found → AllByRecursion Alike list
        → AllByRecursion Alike (cons_some (value_contender route slot id found cost) list)
    unfolding Alike
    with_contender slot id None cost list is all = all
    with_contender slot id (Some value) None list is all = all
    with_contender slot id (Some value) (Some n) list is all = at_test (is_usable (route value)) where
      at_test : (t : Bool) → AllByRecursion Alike (cons_some (cond t (Some (contender slot id (route value))) None) list)
      at_test true = (same slot (ap is_some is), all)
      at_test false = all

    candidates-alike : (slot : ℕ) (members : List Member) → AllByRecursion Alike (contenders_from route values before slot members)
    candidates-alike slot [] = tt
    candidates-alike slot (member ∷ members) = with_contender slot member.bgp_id (values slot) (before slot) (contenders_from route values before (suc slot) members) refl (candidates-alike (suc slot) members)

-- where the costs from a slot to all that announce are the same, it is offered the same
pub offer-same_costs : {V : Type 0} (reader : Reader V) (values : Values V) (before now : List Edge) (slot : ℕ)
    → ((e : ℕ) → IsSome (values e) → slot_cost before reader.members slot e ≡ slot_cost now reader.members slot e) → offer_of reader values before slot ≡ offer_of reader values now slot
unfolding offer_of
offer-same_costs reader values before now slot same =
    let costs = slot_cost before reader.members slot in
    let others = slot_cost now reader.members slot in
    ap (of_other slot values)
    (choice-alike costs others slot (contenders_from reader.route values costs 0 reader.members) (candidates-alike costs others reader.route values same 0 reader.members)
    ∙ ap (choice slot others) (candidates-same costs others reader.route values same 0 reader.members))

-- where nothing is announced, nothing is offered
no_contenders : {V : Type 0} (route : V → RouteFields) (values : Values V) (cost_to : ℕ → Option ℕ) (slot : ℕ) (members : List Member)
    → ((slot : ℕ) → values slot ≡ None) → contenders_from route values cost_to slot members ≡ []
no_contenders route values cost_to slot [] none = refl
no_contenders route values cost_to slot (member ∷ members) none =
    (λ i. cons_some (value_contender route slot member.bgp_id (none slot i) (cost_to slot)) (contenders_from route values cost_to (suc slot) members))
    ∙ no_contenders route values cost_to (suc slot) members none

no_choice : (slot : ℕ) (cost : ℕ → Option ℕ) → choice slot cost [] ≡ None
unfolding choice tied
no_choice slot cost = refl

offer-nothing : {V : Type 0} (reader : Reader V) (values : Values V) (edges : List Edge) (slot : ℕ) → ((slot : ℕ) → values slot ≡ None) → offer_of reader values edges slot ≡ None
unfolding offer_of
offer-nothing reader values edges slot none =
    ap (of_other slot values)
    (ap (choice slot (slot_cost edges reader.members slot)) (no_contenders reader.route values (slot_cost edges reader.members slot) 0 reader.members none)
    ∙ no_choice slot (slot_cost edges reader.members slot))

no_router : (members : List Member) (slot : ℕ) → length members ≤ slot → router_at members slot ≡ None
no_router [] slot past = refl
no_router (member ∷ members) zero past = absurd (omega arith)
no_router (member ∷ members) (suc slot) past = no_router members slot (omega arith)

no_cost : (edges : List Edge) (members : List Member) (from to : ℕ) → length members ≤ from → slot_cost edges members from to ≡ None
unfolding slot_cost
no_cost edges members from to past = rw (no_router members from past) refl

-- ---- the events

-- no slot that passes the test has octets at a prefix that isn't among theirs
unset : {V : Type 0} (test : ℕ → Bool) (rib : Rib V) (p : IpPrefix) (slot : ℕ) → set_of.contains (prefixes_of test rib) p ≡ false → test slot ≡ true → map_of.get rib (p, slot) ≡ None
unset {V} test rib p slot absent passes = by_cases (map_of.get rib (p, slot)) refl where
  by_cases : (o : Option V) → map_of.get rib (p, slot) ≡ o → map_of.get rib (p, slot) ≡ None
  by_cases None is = is
  by_cases (Some octets) is = absurd (false≢true (sym absent ∙ prefixes_of_has test rib p (record { slot = slot; passes = passes; there = ap is_some is })))

-- a prefix that isn't pending with others in addition wasn't before, and isn't one of them
not_added : {V : Type 0} (test : ℕ → Bool) (ribs : Ribs V) (p : IpPrefix) → set_of.contains (set_of.union ribs.pending (prefixes_of test ribs.announced)) p ≡ false
    → (has_pending ribs p ≡ false) × (set_of.contains (prefixes_of test ribs.announced) p ≡ false)
not_added test ribs p absent =
    or_parts (has_pending ribs p) (set_of.contains (prefixes_of test ribs.announced) p) (sym (set_of.contains-union prefix_total ribs.pending (prefixes_of test ribs.announced) p) ∙ absent)

module _ {V : Type 0} (reader : Reader V) (ribs : Ribs V) (h : AreSettled reader ribs) where
  settled_up : (slot : ℕ) → AreSettled reader (ribs_after reader (Up slot) ribs)
  unfolding ribs_after
  settled_up slot s p up quiet = at_slot (eqb s slot) refl where
    at_slot : (b : Bool) → eqb s slot ≡ b → at_prefix (without_slot slot ribs.given) p s ≡ offer_of reader (at_prefix ribs.announced p) ribs.edges s
    at_slot true own =
        get-without_slot slot ribs.given (p, s) ∙ ap (λ b. cond b None (map_of.get ribs.given (p, s))) own
        ∙ sym (offer-nothing reader (at_prefix ribs.announced p) ribs.edges s
        (λ e. unset (λ x. true) ribs.announced p e (not_added (λ x. true) ribs p quiet).1 refl))
    at_slot false other =
        get-without_slot slot ribs.given (p, s) ∙ ap (λ b. cond b None (map_of.get ribs.given (p, s))) other
        ∙ h s p (ap (λ b. b || is_up ribs s) (sym other ∙ sym (unsigned_tied s slot)) ∙ sym (set_of.contains-insert nat_cmp_total ribs.connected slot s) ∙ up) (not_added (λ x. true) ribs p quiet).0

  settled_down : (slot : ℕ) → AreSettled reader (ribs_after reader (Down slot) ribs)
  unfolding ribs_after
  settled_down slot s p up quiet =
      let both = not_added (λ e. eqb e slot) ribs p quiet in
      let parts = and_parts (not (eqb s slot)) (is_up ribs s) (ap (λ b. not b && is_up ribs s) (sym (unsigned_tied s slot)) ∙ sym (set_of.contains-remove nat_cmp_total ribs.connected slot s) ∙ up) in
      let other = not-true (eqb s slot) parts.0 in
      get-without_slot slot ribs.given (p, s) ∙ ap (λ b. cond b None (map_of.get ribs.given (p, s))) other
      ∙ h s p parts.1 both.0
      ∙ ap (λ announced. offer_of reader announced ribs.edges s) (λ i e. kept e both.1 (eqb e slot) refl i) where
        kept : (e : ℕ) → set_of.contains (prefixes_of (λ x. eqb x slot) ribs.announced) p ≡ false → (b : Bool) → eqb e slot ≡ b → map_of.get ribs.announced (p, e) ≡ map_of.get (without_slot slot ribs.announced) (p, e)
        kept e absent true own =
            unset (λ x. eqb x slot) ribs.announced p e absent own
            ∙ sym (get-without_slot slot ribs.announced (p, e) ∙ ap (λ b. cond b None (map_of.get ribs.announced (p, e))) own)
        kept e absent false other = sym (get-without_slot slot ribs.announced (p, e) ∙ ap (λ b. cond b None (map_of.get ribs.announced (p, e))) other)

  settled_links : (edges : List Edge) → AreSettled reader (ribs_after reader (Links edges) ribs)
  unfolding ribs_after
  settled_links edges s p up quiet =
      let test : ℕ → Bool = λ e. cost_differs ribs.edges edges reader.members e (length reader.members) in
      let both = not_added test ribs p quiet in
      h s p up both.0 ∙ offer-same_costs reader (at_prefix ribs.announced p) ribs.edges edges s (λ e some. cost_decided _ _ (λ differ. at_place e some both.1 differ (cases_lt s (length reader.members)))) where
        at_place : (e : ℕ) → IsSome (map_of.get ribs.announced (p, e))
            → set_of.contains (prefixes_of (λ x. cost_differs ribs.edges edges reader.members x (length reader.members)) ribs.announced) p ≡ false
            → slot_cost ribs.edges reader.members s e ≢ slot_cost edges reader.members s e → (s < length reader.members) ⊎ (length reader.members ≤ s) → ⊥
        at_place e some absent differ cases = elim cases [
          | inl below ↦ false≢true (sym absent ∙ prefixes_of_has (λ x. cost_differs ribs.edges edges reader.members x (length reader.members)) ribs.announced p
              (record { slot = e; passes = test_of_moves ribs.edges edges reader.members e (length reader.members) s below differ; there = some }))
          | inr past ↦ differ (no_cost ribs.edges reader.members s e past ∙ sym (no_cost edges reader.members s e past))
        ]

  settled_set : (slot : ℕ) (q : IpPrefix) (octets : Option V)
      → AreSettled reader (record ribs { announced = with_value (q, slot) octets ribs.announced; pending = set_of.insert ribs.pending q })
  settled_set slot q octets s p up quiet =
      let parts = or_parts (same_prefix p q) (has_pending ribs p) (ap (λ b. b || has_pending ribs p) (sym (prefix_tied p q)) ∙ sym (set_of.contains-insert prefix_total ribs.pending q p) ∙ quiet) in
      h s p up parts.1
      ∙ ap (λ announced. offer_of reader announced ribs.edges s)
      (λ i e. sym (get-with_value (q, slot) octets ribs.announced (p, e) ∙ ap (λ b. cond (b && eqb e slot) octets (map_of.get ribs.announced (p, e))) parts.0) i)

  settled_change : (slot : ℕ) (q : IpPrefix) (octets : Option V) → AreSettled reader (ribs_after reader (Change slot q octets) ribs)
  unfolding ribs_after
  settled_change slot q octets = at_test (is_up ribs slot && not (same_values reader.same (map_of.get ribs.announced (q, slot)) octets)) where
    at_test : (b : Bool) → AreSettled reader (cond b (record ribs { announced = with_value (q, slot) octets ribs.announced; pending = set_of.insert ribs.pending q }) ribs)
    at_test true = settled_set slot q octets
    at_test false = h

  settled_work : (q : IpPrefix) → AreSettled reader (ribs_after reader (Work q) ribs)
  unfolding ribs_after
  settled_work q s p up quiet =
      get-with_each q (offered reader ribs q) (set_of.items ribs.connected) ribs.given (p, s)
      ∙ ap (λ b. cond (same_prefix p q && b) (offered reader ribs q s) (map_of.get ribs.given (p, s))) (sym (set_of.contains-items ribs.connected s) ∙ up)
      ∙ at_test (same_prefix p q) refl (ap (λ b. not b && has_pending ribs p) (sym (prefix_tied p q)) ∙ sym (set_of.contains-remove prefix_total ribs.pending q p) ∙ quiet) where
        at_test : (b : Bool) → same_prefix p q ≡ b → (not (same_prefix p q) && has_pending ribs p) ≡ false
            → cond (b && true) (offered reader ribs q s) (map_of.get ribs.given (p, s)) ≡ offer_of reader (at_prefix ribs.announced p) ribs.edges s
        at_test true same gone = ap (λ r. offered reader ribs r s) (sym (same_prefix-is p q same))
        at_test false other gone = h s p up (ap (λ b. not b && has_pending ribs p) (sym other) ∙ gone)

pub settled_empty : {V : Type 0} (reader : Reader V) (edges : List Edge) → AreSettled reader (empty_ribs edges)
settled_empty reader edges slot p up quiet = absurd (false≢true (sym (set_of.contains-empty nat_cmp slot) ∙ up))

pub settled_after : {V : Type 0} (reader : Reader V) (event : RibEvent V) (ribs : Ribs V) → AreSettled reader ribs → AreSettled reader (ribs_after reader event ribs)
settled_after reader (Up slot) ribs h = settled_up reader ribs h slot
settled_after reader (Down slot) ribs h = settled_down reader ribs h slot
settled_after reader (Change slot q octets) ribs h = settled_change reader ribs h slot q octets
settled_after reader (Links edges) ribs h = settled_links reader ribs h edges
settled_after reader (Work q) ribs h = settled_work reader ribs h q

-- ---- of the server of lists

abbrev pub TablesAreSettled : Domain → Server → Type 0
TablesAreSettled domain server = (slot : ℕ) (table : Table) (p : IpPrefix) → table_of server slot ≡ Some table → is_pending server p ≡ false
    → get_at same_prefix p table ≡ offer domain (announced_at server.announcements p) server.edges slot

pub settled_of_tables : (domain : Domain) (server : Server) → TablesAreSettled domain server → AreSettled (octets_reader domain) (ribs_of server)
settled_of_tables domain server h slot p up quiet = by_table (table_of server slot) refl where
  by_table : (o : Option Table) → table_of server slot ≡ o → at_prefix (ribs_of server).given p slot ≡ offer_of (octets_reader domain) (at_prefix (ribs_of server).announced p) (ribs_of server).edges slot
  by_table None is = absurd (false≢true (sym (up_in_lists server slot ∙ ap is_some is) ∙ up))
  by_table (Some table) is =
      given_in_tables server.tables (p, slot) ∙ ap (λ (o : Option Table). cell_in o p) is
      ∙ h slot table p is (sym (pending_in_lists server p) ∙ quiet) ∙ sym (offers_join domain server p slot)

pub tables_of_settled : (domain : Domain) (server : Server) → AreSettled (octets_reader domain) (ribs_of server) → TablesAreSettled domain server
tables_of_settled domain server h slot table p is quiet =
    ap (λ (o : Option Table). cell_in o p) (sym is) ∙ sym (given_in_tables server.tables (p, slot))
    ∙ h slot p (up_in_lists server slot ∙ ap is_some is) (pending_in_lists server p ∙ quiet) ∙ offers_join domain server p slot

pub tables_settled_after : (domain : Domain) (event : ServerEvent) (server : Server) → TablesAreSettled domain server → TablesAreSettled domain (after domain event server)
tables_settled_after domain event server h =
    tables_of_settled domain (after domain event server)
    (subst (AreSettled (octets_reader domain)) (sym (join domain event server)) (settled_after (octets_reader domain) (event_of event) (ribs_of server) (settled_of_tables domain server h)))
