-- What the server of lists answers, and that what it comes to answers the same.
use Rattle.std.proofs.Common.{◌≡◌, ℕ, Bool, true, false, cond, ◌&&◌, ◌||◌, eqb, List, [], ◌∷◌, map, Option, Some, None, is_some, IsSome, option_map, refl, sym, ap, ◌∙◌, inl, inr, subst}
use Rattle.std.specs.Prelude.{filter}
use Rattle.std.specs.FinMap as map_of
use Rattle.std.specs.FinSet as set_of
use Rattle.std.specs.List.{list_any}
use Rattle.std.specs.Ordering.{nat_cmp, eq_by_cmp}
use Rattle.std.specs.Cmp.{unsigned_tied}
use Rattle.std.proofs.lemmas.Cmp.{nat_cmp_total}
use Rattle.std.proofs.lemmas.Bool.{cases_Bool, and_parts, or_cases, or_left, or_right, eqb-true, eq-eqb, false≢true}
use Rattle.rcp_base.specs.IpPrefix.{IpPrefix, prefix_cmp}
use Rattle.rcp_base.specs.declared.names.Edge.{Edge}
use Rattle.rcp_base.specs.Maps.{get_at, put_at, set_at, without, same_prefix, is_among}
use Rattle.rcp_model.specs.LinkState.{same_number}
use Rattle.rcp_model.specs.Updates.{Table}
use Rattle.rcp_model.specs.RouteServer.{Domain, Place, Announcements, Server, same_place, announced_by, announced_at, announced_prefixes, is_connected, is_pending, offer, worked}
use Rattle.rcp_model.specs.Ribs.{RibKey, rib_cmp}
use Rattle.rcp_model.specs.ServerRibs.{Rib, at_prefix, with_table, rib_of_tables, cell_in, by_prefix, ribs_of, prefixes_of, is_up, has_pending}
use Rattle.rcp_base.proofs.MapLemmas.{IsKeyTest, get_at-put_at_same, get_at-put_at_other, get_at-without_passed, get_at-without_left}
use Rattle.rcp_model.proofs.RibLemmas.{prefix_total, rib_total}
use Rattle.rib_laws.proofs.RibLookups.{same_test, prefix_tied, key_tied, get-without_slot, has_of_prefixes, prefixes_of_has}

-- ---- maps as lists

pub other_way : {K : Type 0} (same : K → K → Bool) → IsKeyTest same → (a b : K) → same a b ≡ same b a
other_way {K} same test a b = same_test (same a b) (same b a) (turn a b) (turn b a) where
  turn : (a b : K) → same a b ≡ true → same b a ≡ true
  turn a b e = let is : a ≡ b = test.sound a b e in subst (λ k. same k a ≡ true) is (test.itself a)

module _ {K V : Type 0} (same : K → K → Bool) (test : IsKeyTest same) where
  pub get_at-put_at : (key : K) (value : V) (m : List (K × V)) (q : K) → get_at same q (put_at same key value m) ≡ cond (same q key) (Some value) (get_at same q m)
  get_at-put_at key value m q = elim (cases_Bool (same q key)) [
    | inl e ↦
        let is : q ≡ key = test.sound q key e in
        ap (λ k. get_at same k (put_at same key value m)) is ∙ get_at-put_at_same same test key value m ∙ sym (ap (λ b. cond b (Some value) (get_at same q m)) e)
    | inr e ↦ get_at-put_at_other same test key q value m e ∙ sym (ap (λ b. cond b (Some value) (get_at same q m)) e)
  ]

  pub get_at-without : (gone : K → Bool) (m : List (K × V)) (q : K) → get_at same q (without gone m) ≡ cond (gone q) None (get_at same q m)
  get_at-without gone m q = elim (cases_Bool (gone q)) [
    | inl e ↦ get_at-without_passed same test gone q m e ∙ sym (ap (λ b. cond b None (get_at same q m)) e)
    | inr e ↦ get_at-without_left same test gone q m e ∙ sym (ap (λ b. cond b None (get_at same q m)) e)
  ]

  pub get_at-set_at : (key : K) (value : Option V) (m : List (K × V)) (q : K) → get_at same q (set_at same key value m) ≡ cond (same q key) value (get_at same q m)
  get_at-set_at key None m q = get_at-without (same key) m q ∙ ap (λ b. cond b None (get_at same q m)) (other_way same test key q)
  get_at-set_at key (Some value) m q = get_at-put_at key value m q

-- ---- connected slots

pub up_among : (tables : List (ℕ × Table)) (slot : ℕ) → list_any (eq_by_cmp nat_cmp slot) (map (λ entry. entry.0) tables) ≡ is_some (get_at same_number slot tables)
up_among [] slot = refl
up_among (entry ∷ tables) slot =
    ap (λ b. b || list_any (eq_by_cmp nat_cmp slot) (map (λ e. e.0) tables)) (unsigned_tied slot entry.0)
    ∙ at_test (eqb slot entry.0) (up_among tables slot) where
      at_test : (b : Bool) → list_any (eq_by_cmp nat_cmp slot) (map (λ e. e.0) tables) ≡ is_some (get_at same_number slot tables)
          → (b || list_any (eq_by_cmp nat_cmp slot) (map (λ e. e.0) tables)) ≡ is_some (cond b (Some entry.1) (get_at same_number slot tables))
      at_test true rest = refl
      at_test false rest = rest

pub up_in_lists : (server : Server) (slot : ℕ) → is_up (ribs_of server) slot ≡ is_connected server slot
up_in_lists server slot = set_of.contains-from_list nat_cmp_total (map (λ (entry : ℕ × Table). entry.0) server.tables) slot ∙ up_among server.tables slot

-- ---- announcements

pub both_orders : (a b : Bool) → (a && b) ≡ (b && a)
both_orders true true = refl
both_orders true false = refl
both_orders false true = refl
both_orders false false = refl

found_by_prefix : (a : Announcements) (p : IpPrefix) (slot : ℕ) → map_of.find rib_cmp (p, slot) (map by_prefix a) ≡ announced_by a slot p
found_by_prefix [] p slot = refl
found_by_prefix (entry ∷ a) p slot =
    ap (λ b. cond b (Some entry.1) (map_of.find rib_cmp (p, slot) (map by_prefix a)))
    (key_tied (p, slot) (entry.0.1, entry.0.0) ∙ both_orders (same_prefix p entry.0.1) (eqb slot entry.0.0))
    ∙ ap (cond (same_place (slot, p) entry.0) (Some entry.1)) (found_by_prefix a p slot)

pub announced_in_lists : (server : Server) (p : IpPrefix) (slot : ℕ) → at_prefix (ribs_of server).announced p slot ≡ announced_by server.announcements slot p
announced_in_lists server p slot = map_of.get-from_entries rib_total (map by_prefix server.announcements) (p, slot) ∙ found_by_prefix server.announcements p slot

-- ---- tables

split : (a b : Bool) (x y z : Option (List ℕ)) → cond (a && b) x (cond b y z) ≡ cond b (cond a x y) z
split true true x y z = refl
split true false x y z = refl
split false b x y z = refl

get-with_table : (slot : ℕ) (table : Table) (rib : Rib (List ℕ)) (k : RibKey) → map_of.get (with_table slot table rib) k ≡ cond (eqb k.1 slot) (get_at same_prefix k.0 table) (map_of.get rib k)
get-with_table slot [] rib k = get-without_slot slot rib k
get-with_table slot (cell ∷ table) rib k =
    map_of.get-insert rib_total (with_table slot table rib) (cell.0, slot) cell.1 k
    ∙ ap (λ b. cond b (Some cell.1) (map_of.get (with_table slot table rib) k)) (key_tied k (cell.0, slot))
    ∙ ap (cond (same_prefix k.0 cell.0 && eqb k.1 slot) (Some cell.1)) (get-with_table slot table rib k)
    ∙ split (same_prefix k.0 cell.0) (eqb k.1 slot) (Some cell.1) (get_at same_prefix k.0 table) (map_of.get rib k)

pub given_in_tables : (tables : List (ℕ × Table)) (k : RibKey) → map_of.get (rib_of_tables tables) k ≡ cell_in (get_at same_number k.1 tables) k.0
given_in_tables [] k = map_of.get-empty rib_cmp k
given_in_tables (entry ∷ tables) k =
    get-with_table entry.0 entry.1 (rib_of_tables tables) k
    ∙ ap (cond (eqb k.1 entry.0) (get_at same_prefix k.0 entry.1)) (given_in_tables tables k)
    ∙ at_test (eqb k.1 entry.0) where
      at_test : (b : Bool) → cond b (get_at same_prefix k.0 entry.1) (cell_in (get_at same_number k.1 tables) k.0) ≡ cell_in (cond b (Some entry.1) (get_at same_number k.1 tables)) k.0
      at_test true = refl
      at_test false = refl

-- ---- pending prefixes

pub among_tied : (ps : List IpPrefix) (p : IpPrefix) → list_any (eq_by_cmp prefix_cmp p) ps ≡ is_among ps p
among_tied [] p = refl
among_tied (q ∷ ps) p = λ i. prefix_tied p q i || among_tied ps p i

pub pending_in_lists : (server : Server) (p : IpPrefix) → has_pending (ribs_of server) p ≡ is_pending server p
pending_in_lists server p = set_of.contains-from_list prefix_total server.pending p ∙ among_tied server.pending p

-- ---- the prefixes of some slots' announcements

abbrev pub of_slots : (ℕ → Bool) → Announcements → List IpPrefix
of_slots test a = announced_prefixes (filter (λ entry. test entry.0.0) a)

-- a slot that passes the test and announces the prefix
abbrev Announces : (ℕ → Bool) → Announcements → IpPrefix → Type 0
Announces test a p = (slot : ℕ) × (test slot ≡ true) × IsSome (announced_by a slot p)

some_either : {A : Type 0} (b : Bool) (x : A) (o : Option A) → IsSome o → is_some (cond b (Some x) o) ≡ true
some_either true x o some = refl
some_either false x o some = some

announces_later : (test : ℕ → Bool) (entry : Place × List ℕ) (a : Announcements) (p : IpPrefix) → Announces test a p → Announces test (entry ∷ a) p
announces_later test entry a p found = (found.0, found.1, some_either (same_place (found.0, p) entry.0) entry.1 (announced_by a found.0 p) found.2)

announces_here : (test : ℕ → Bool) (entry : Place × List ℕ) (a : Announcements) (p : IpPrefix) → test entry.0.0 ≡ true → same_prefix p entry.0.1 ≡ true → Announces test (entry ∷ a) p
announces_here test entry a p passes here = (
  entry.0.0,
  passes,
  ap (λ b. is_some (cond b (Some entry.1) (announced_by a entry.0.0 p))) (ap (λ b. b && same_prefix p entry.0.1) (eq-eqb entry.0.0 entry.0.0 refl) ∙ here),
)

found_among : (test : ℕ → Bool) (a : Announcements) (p : IpPrefix) → is_among (of_slots test a) p ≡ true → Announces test a p
found_among test [] p among = absurd (false≢true among)
found_among test (entry ∷ a) p among = at_test (test entry.0.0) refl (found_among test a p) among where
  at_test : (b : Bool) → test entry.0.0 ≡ b → (is_among (of_slots test a) p ≡ true → Announces test a p)
      → is_among (announced_prefixes (cond b (entry ∷ filter (λ e. test e.0.0) a) (filter (λ e. test e.0.0) a))) p ≡ true → Announces test (entry ∷ a) p
  at_test true passes rest among = elim (or_cases (same_prefix p entry.0.1) (is_among (of_slots test a) p) among) [
    | inl here ↦ announces_here test entry a p passes here
    | inr later ↦ announces_later test entry a p (rest later)
  ]
  at_test false passes rest among = announces_later test entry a p (rest among)

among_found : (test : ℕ → Bool) (a : Announcements) (p : IpPrefix) (slot : ℕ) → test slot ≡ true → IsSome (announced_by a slot p) → is_among (of_slots test a) p ≡ true
among_found test [] p slot passes some = absurd (false≢true some)
among_found test (entry ∷ a) p slot passes some = at_place (same_place (slot, p) entry.0) refl (among_found test a p slot passes) some where
  rest_of : (b : Bool) → is_among (of_slots test a) p ≡ true → is_among (announced_prefixes (cond b (entry ∷ filter (λ e. test e.0.0) a) (filter (λ e. test e.0.0) a))) p ≡ true
  rest_of true among = or_right (same_prefix p entry.0.1) (is_among (of_slots test a) p) among
  rest_of false among = among

  here : (b : Bool) → test entry.0.0 ≡ b → test entry.0.0 ≡ true → same_prefix p entry.0.1 ≡ true → is_among (announced_prefixes (cond b (entry ∷ filter (λ e. test e.0.0) a) (filter (λ e. test e.0.0) a))) p ≡ true
  here true is t own = or_left (same_prefix p entry.0.1) (is_among (of_slots test a) p) own
  here false is t own = absurd (false≢true (sym is ∙ t))

  at_place : (b : Bool) → same_place (slot, p) entry.0 ≡ b → (IsSome (announced_by a slot p) → is_among (of_slots test a) p ≡ true)
      → is_some (cond b (Some entry.1) (announced_by a slot p)) ≡ true
      → is_among (announced_prefixes (cond (test entry.0.0) (entry ∷ filter (λ e. test e.0.0) a) (filter (λ e. test e.0.0) a))) p ≡ true
  at_place true same rest some =
      let both = and_parts (eqb slot entry.0.0) (same_prefix p entry.0.1) same in
      here (test entry.0.0) refl (ap test (sym (eqb-true slot entry.0.0 both.0)) ∙ passes) both.1
  at_place false same rest some = rest_of (test entry.0.0) (rest some)

pub prefixes_in_lists : (test : ℕ → Bool) (server : Server) (p : IpPrefix) → set_of.contains (prefixes_of test (ribs_of server).announced) p ≡ is_among (of_slots test server.announcements) p
prefixes_in_lists test server p =
    same_test (set_of.contains (prefixes_of test (ribs_of server).announced) p) (is_among (of_slots test server.announcements) p)
    (λ inside. let has = has_of_prefixes test (ribs_of server).announced p inside in
    among_found test server.announcements p has.slot has.passes (sym (ap is_some (announced_in_lists server p has.slot)) ∙ has.there))
    (λ among. let found = found_among test server.announcements p among in
    prefixes_of_has test (ribs_of server).announced p (record { slot = found.0; passes = found.1; there = ap is_some (announced_in_lists server p found.0) ∙ found.2 }))

-- ---- work

pub worked_at : (domain : Domain) (a : Announcements) (edges : List Edge) (p : IpPrefix) (slot : ℕ) (tables : List (ℕ × Table))
    → get_at same_number slot (worked domain a edges p tables) ≡ option_map (set_at same_prefix p (offer domain (announced_at a p) edges slot)) (get_at same_number slot tables)
worked_at domain a edges p slot [] = refl
worked_at domain a edges p slot (entry ∷ tables) = at_test (eqb slot entry.0) (eqb-true slot entry.0) (worked_at domain a edges p slot tables) where
  at_test : (b : Bool) → (b ≡ true → slot ≡ entry.0)
      → get_at same_number slot (worked domain a edges p tables) ≡ option_map (set_at same_prefix p (offer domain (announced_at a p) edges slot)) (get_at same_number slot tables)
      → cond b (Some (set_at same_prefix p (offer domain (announced_at a p) edges entry.0) entry.1)) (get_at same_number slot (worked domain a edges p tables))
      ≡ option_map (set_at same_prefix p (offer domain (announced_at a p) edges slot)) (cond b (Some entry.1) (get_at same_number slot tables))
  at_test true is rest = ap (λ (s : ℕ). Some (set_at same_prefix p (offer domain (announced_at a p) edges s) entry.1)) (sym (is refl))
  at_test false is rest = rest
