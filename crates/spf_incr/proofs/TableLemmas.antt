-- Tables: rows of costs from each member over a graph.
use Rattle.std.proofs.Common.{◌≡◌, ◌≢◌, ℕ, zero, suc, ◌+◌, Bool, true, false, cond, ◌==◌, ◌<◌, ◌≤◌, ◌⊎◌, List, [], ◌∷◌, ◌++◌, map, length, get_or, slice_get, All, Contains, Option, Some, None, refl, sym, ap, subst, ◌∙◌, inl, inr, arith, eqb-true, length-append}
use Rattle.std.proofs.lemmas.Bool.{eqb-false}
use Rattle.std.proofs.lemmas.List.{length-map}
use Rattle.rcp_model.proofs.MemberLemmas.{Contains-head, Contains-tail, Contains-cases, Contains-none}
use Rattle.rcp_model.specs.Costs.{Walk, stay, step, cost}
use Rattle.cost_rows.proofs.BoundLemmas.{walk_of}
use Rattle.std.proofs.lemmas.Bool.{false≢true}
use Rattle.rcp_model.specs.Edges.{include_edge}
use Rattle.rcp_model.specs.Graphs.{exclude_edge}
use Rattle.cost_rows.specs.Engines.{graph_before, AreChanges}
use Rattle.std.specs.List.Sorted.{IsStrictlyIncreasing}
use Rattle.spf_incr.specs.declared.way.Hop.{Hop}
use Rattle.spf_incr.specs.Changes.{IsWith, IsHop, IsStill}
use Rattle.spf_incr.proofs.RowLemmas.{still_row, loose_row}
use Rattle.spf_incr.proofs.EdgeLemmas.{with_included, with_excluded}
use Rattle.rcp_base.specs.declared.names.Member.{Member}
use Rattle.rcp_base.specs.declared.names.Edge.{Edge}
use Rattle.rcp_model.specs.RouteServer.{router_at, cost_between}
use Rattle.cost_rows.specs.Engines.{cost_from}
use Rattle.cost_rows.specs.Search.{AreNames, IsFound, found_at}
use Rattle.spf_incr.specs.Tables.{EngineOf, row_at, costs_by, engine_costs, AreRows, IsTable, IsEngineOver}

-- a slot has a router exactly where it is a member's
pub router_within : (members : List Member) (slot : ℕ) → slot < length members → (root : ℕ) × (router_at members slot ≡ Some root)
router_within [] slot less = absurd (omega arith)
router_within (member ∷ members) zero less = (member.router, refl)
router_within (member ∷ members) (suc slot) less = router_within members slot (omega arith)

pub router_past : (members : List Member) (slot : ℕ) → length members ≤ slot → router_at members slot ≡ None
router_past [] slot past = refl
router_past (member ∷ members) zero past = absurd (omega arith)
router_past (member ∷ members) (suc slot) past = router_past members slot (omega arith)

le_cases : (m n : ℕ) → (m < n) ⊎ (n ≤ m)
le_cases m n = grind arith

row_past : (rows : List (List (Option ℕ))) (slot : ℕ) → length rows ≤ slot → row_at rows slot ≡ []
row_past [] slot past = refl
row_past (row ∷ rows) zero past = absurd (omega arith)
row_past (row ∷ rows) (suc slot) past = row_past rows slot (omega arith)

none_found : (names : List ℕ) (rows : List (List (Option ℕ))) (slot router : ℕ) → row_at rows slot ≡ [] → costs_by names rows slot router ≡ None
none_found [] rows slot router none = refl
none_found (name ∷ names) rows slot router none = rw none refl

-- rows over edges have the costs over them
pub rows_cost : (edges : List Edge) (names : List ℕ) (members : List Member) (rows : List (List (Option ℕ))) → AreRows edges names members rows → (slot router : ℕ) → costs_by names rows slot router ≡ cost_from edges members slot router
unfolding cost_from
rows_cost edges names members rows are slot router = elim (le_cases slot (length members)) [
  | inl less ↦ let seat = router_within members slot less in subst (λ o. costs_by names rows slot router ≡ cost_between edges o (Some router)) (sym seat.1) ((are.exact slot seat.0 seat.1).exact router)
  | inr past ↦ subst (λ o. costs_by names rows slot router ≡ cost_between edges o (Some router)) (sym (router_past members slot past)) (none_found names rows slot router (row_past rows slot (let count = are.count in omega arith)))
]

-- an engine whose rows are over edges
pub engine_over : (engine : EngineOf) (edges : List Edge) → engine.is_spent ≡ false → AreNames edges engine.names → AreRows edges engine.names engine.members engine.rows → IsEngineOver engine edges
engine_over engine edges unspent named rows = record {
  unspent = unspent;
  exact = λ slot router. rw unspent (rows_cost edges engine.names engine.members engine.rows rows slot router);
  named = named;
  rows = rows;
}

-- ---- names

pub router_item : (members : List Member) (i : ℕ) (member : Member) → i < length members → member ≡ get_or members i member → router_at members i ≡ Some member.router
router_item [] i member less is = absurd (omega arith)
router_item (first ∷ members) zero member less is = ap (λ (m : Member). Some m.router) (sym is)
router_item (first ∷ members) (suc i) member less is = router_item members i member (omega arith) is

pub router_member : (members : List Member) (slot root : ℕ) → router_at members slot ≡ Some root → Contains (map (λ (member : Member). member.router) members) root
router_member [] slot root seat = absurd (none_some seat) where
  none_some : None ≡ Some root → ⊥
  none_some e = cc
router_member (member ∷ members) zero root seat = subst (Contains (map (λ (m : Member). m.router) (member ∷ members))) (inside seat) (Contains-head member.router (map (λ (m : Member). m.router) members)) where
  inside : Some member.router ≡ Some root → member.router ≡ root
  inside e = cc
router_member (member ∷ members) (suc slot) root seat = Contains-tail member.router (map (λ (m : Member). m.router) members) root (router_member members slot root seat)

pub named_from : (members : List Member) (routers names : List ℕ) → routers ≡ map (λ (member : Member). member.router) members → ((router : ℕ) → Contains routers router → Contains names router)
    → (slot root : ℕ) → router_at members slot ≡ Some root → Contains names root
named_from members routers names are more slot root seat = more root (subst (λ routers. Contains routers root) (sym are) (router_member members slot root seat))

-- fewer edges have the same names
pub names_among : (edges others : List Edge) (names : List ℕ) → ((edge : Edge) → Contains edges edge → Contains others edge) → AreNames others names → AreNames edges names
names_among edges others names inside are = record {
  rising = are.rising;
  ends = λ edge member. are.ends edge (inside edge member);
  few = are.few;
}

-- one edge more, between names
pub names_more : (edges : List Edge) (edge : Edge) (more : List Edge) (names : List ℕ) → IsWith edges edge more → Contains names edge.from × Contains names edge.to → AreNames edges names → AreNames more names
names_more edges edge more names with ends are = record {
  rising = are.rising;
  ends = λ e member. elim (with.no_other e member) [
    | inl same ↦ subst (λ (x : Edge). Contains names x.from × Contains names x.to) same ends
    | inr inside ↦ are.ends e inside
  ];
  few = are.few;
}

-- ---- rows at the places of other names

walk_named : {edges : List Edge} {u v sum : ℕ} (names : List ℕ) → AreNames edges names → Walk edges u v sum → Contains names u → Contains names v
walk_named names are (stay u) named = named
walk_named names are (step edge v sum member rest) named = walk_named names are rest (are.ends edge member).1

unnamed_cost : (edges : List Edge) (names : List ℕ) (root v : ℕ) → AreNames edges names → Contains names root → (Contains names v → ⊥) → cost edges root v ≡ None
unnamed_cost edges names root v are named unnamed = at_cost (cost edges root v) refl where
  at_cost : (o : Option ℕ) → cost edges root v ≡ o → o ≡ None
  at_cost None is = refl
  at_cost (Some n) is = absurd (unnamed (walk_named names are (walk_of edges root v n is) named))

found-map : (names : List ℕ) (f : ℕ → Option ℕ) (v : ℕ) → (found_at names (map f names) v ≡ f v) ⊎ ((found_at names (map f names) v ≡ None) × (Contains names v → ⊥))
found-map [] f v = inr (refl, λ member. Contains-none v member)
found-map (name ∷ names) f v = at_test (name == v) (eqb-true name v) (eqb-false name v) (found-map names f v) where
  at_test : (t : Bool) → (t ≡ true → name ≡ v) → (t ≡ false → name ≢ v) → (found_at names (map f names) v ≡ f v) ⊎ ((found_at names (map f names) v ≡ None) × (Contains names v → ⊥))
      → (cond t (f name) (found_at names (map f names) v) ≡ f v) ⊎ ((cond t (f name) (found_at names (map f names) v) ≡ None) × (Contains (name ∷ names) v → ⊥))
  at_test true is other rest = inl (ap f (is refl))
  at_test false is other rest = elim rest [
    | inl same ↦ inl same
    | inr none ↦ inr (none.0, λ member. elim (Contains-cases name names v member) [ inl same ↦ other refl same | inr later ↦ none.1 later ])
  ]

carried_row : (edges : List Edge) (old names : List ℕ) (root : ℕ) (row : List (Option ℕ)) → AreNames edges names → Contains names root → IsFound edges old root row → IsFound edges names root (map (found_at old row) names)
carried_row edges old names root row are named found = record {
  places = length-map names (found_at old row);
  exact = λ v. elim (found-map names (found_at old row) v) [
    | inl same ↦ same ∙ found.exact v
    | inr none ↦ none.0 ∙ sym (unnamed_cost edges names root v are named none.1)
  ];
}

row-map : (rows : List (List (Option ℕ))) (f : List (Option ℕ) → List (Option ℕ)) (slot : ℕ) → slot < length rows → row_at (map f rows) slot ≡ f (row_at rows slot)
row-map [] f slot less = absurd (omega arith)
row-map (row ∷ rows) f zero less = refl
row-map (row ∷ rows) f (suc slot) less = row-map rows f slot (omega arith)

pub slot_within : (members : List Member) (slot root : ℕ) → router_at members slot ≡ Some root → slot < length members
slot_within members slot root seat = elim (le_cases slot (length members)) [ inl less ↦ less | inr past ↦ absurd (none_some (sym (router_past members slot past) ∙ seat)) ] where
  none_some : None ≡ Some root → ⊥
  none_some e = cc

pub carried_all : (edges : List Edge) (old names : List ℕ) (members : List Member) (rows : List (List (Option ℕ))) → AreNames edges names → ((slot root : ℕ) → router_at members slot ≡ Some root → Contains names root) → AreRows edges old members rows
    → AreRows edges names members (map (λ row. map (found_at old row) names) rows)
carried_all edges old names members rows are named over = record {
  count = length-map rows (λ row. map (found_at old row) names) ∙ over.count;
  named = named;
  exact = λ slot root seat.
      rw (row-map rows (λ row. map (found_at old row) names) slot (let h = slot_within members slot root seat in let count = over.count in omega arith))
      (carried_row edges old names root (row_at rows slot) are (named slot root seat) (over.exact slot root seat));
}

-- ---- rows made one after another

row-before : (rows more : List (List (Option ℕ))) (slot : ℕ) → slot < length rows → row_at (rows ++ more) slot ≡ row_at rows slot
row-before [] more slot less = absurd (omega arith)
row-before (row ∷ rows) more zero less = refl
row-before (row ∷ rows) more (suc slot) less = row-before rows more slot (omega arith)

row-last : (rows : List (List (Option ℕ))) (new : List (Option ℕ)) → row_at (rows ++ new ∷ []) (length rows) ≡ new
row-last [] new = refl
row-last (row ∷ rows) new = row-last rows new

-- the rows of the first members
pub record Made (edges : List Edge) (names : List ℕ) (members : List Member) (rows : List (List (Option ℕ))) (n : ℕ) : Type 0 where
  pub count : length rows ≡ n
  pub exact : (slot root : ℕ) → slot < n → router_at members slot ≡ Some root → IsFound edges names root (row_at rows slot)

pub same_router : (o : Option ℕ) (a b : ℕ) → o ≡ Some a → o ≡ Some b → a ≡ b
same_router o a b h k = cc

pub last_cases : (m n : ℕ) → m < n + 1 → (m < n) ⊎ (m ≡ n)
last_cases m n less = grind arith

pub made_step : (edges : List Edge) (names : List ℕ) (members : List Member) (rows : List (List (Option ℕ))) (n root : ℕ) (new : List (Option ℕ)) → router_at members n ≡ Some root → IsFound edges names root new → Made edges names members rows n
    → Made edges names members (rows ++ new ∷ []) (n + 1)
made_step edges names members rows n root new seat found made = record {
  count = length-append rows (new ∷ []) ∙ (let count = made.count in omega arith);
  exact = λ slot other less seat'. elim (last_cases slot n less) [
    | inl before ↦ rw (row-before rows (new ∷ []) slot (let count = made.count in omega arith)) (made.exact slot other before seat')
    | inr last ↦
        let here : row_at (rows ++ new ∷ []) slot ≡ new = subst (λ k. row_at (rows ++ new ∷ []) k ≡ new) (made.count ∙ sym last) (row-last rows new) in
        let same : root ≡ other = same_router (router_at members n) root other seat (subst (λ k. router_at members k ≡ Some other) last seat') in
        rw here (subst (λ r. IsFound edges names r new) same found)
  ];
}

pub made_all : (edges : List Edge) (names : List ℕ) (members : List Member) (rows : List (List (Option ℕ))) (n : ℕ) → length members ≤ n → n ≤ length members → ((slot root : ℕ) → router_at members slot ≡ Some root → Contains names root) → Made edges names members rows n
    → AreRows edges names members rows
made_all edges names members rows n at_least within named made = record {
  count = made.count ∙ (omega arith);
  named = named;
  exact = λ slot root seat. made.exact slot root (let h = slot_within members slot root seat in omega arith) seat;
}

-- ---- rows of vectors

pub item_row : {V : Type 0} (f : V → List (Option ℕ)) (xs : List V) (i : ℕ) (x : V) → i < length xs → x ≡ get_or xs i x → row_at (map f xs) i ≡ f x
item_row f [] i x less is = absurd (omega arith)
item_row f (y ∷ ys) zero x less is = ap f (sym is)
item_row f (y ∷ ys) (suc i) x less is = item_row f ys i x (omega arith) is

-- rows over edges have the length of the names
pub row_length : (edges : List Edge) (names : List ℕ) (members : List Member) (rows : List (List (Option ℕ))) → AreRows edges names members rows → (slot : ℕ) → slot < length rows → length (row_at rows slot) ≡ length names
row_length edges names members rows over slot less =
    let seat = router_within members slot (let count = over.count in omega arith) in (over.exact slot seat.0 seat.1).places

-- names of the edges before a change, with the ends of the edge where it was added, are names of those after it
pub names_after : (edge : Edge) (added : Bool) (after : List Edge) (names : List ℕ) → (added ≡ true → Contains after edge) → (added ≡ true → Contains names edge.from × Contains names edge.to) → AreNames (graph_before edge added after) names → AreNames after names
names_after edge true after names there ends are = names_more (exclude_edge edge after) edge after names (with_excluded edge after (there refl)) (ends refl) are
names_after edge false after names there ends are = names_among after (include_edge edge after) names (with_included edge after).kept are

-- and the other way round, where the edge was added
pub names_before : (edge : Edge) (added : Bool) (after : List Edge) (names : List ℕ) → added ≡ true → Contains after edge → AreNames after names → AreNames (graph_before edge added after) names
names_before edge true after names is there are = names_among (exclude_edge edge after) after names (with_excluded edge after there).kept are
names_before edge false after names is there are = absurd (false≢true is)

-- what a table keeps, of rows over edges
pub table_over : (edges : List Edge) (members : List Member) (names : List ℕ) (rows : List (List (Option ℕ))) (is_spent : Bool) → length members ≤ 512 → AreNames edges names → AreRows edges names members rows → IsTable members names rows is_spent
table_over edges members names rows is_spent few are over = record {
  few = few;
  rising = are.rising;
  places = λ unspent i d within. subst (λ row. length row ≡ length names) (row_read rows i d within) (row_length edges names members rows over i within);
} where
  row_read : (rows : List (List (Option ℕ))) (i : ℕ) (d : List (Option ℕ)) → i < length rows → row_at rows i ≡ get_or rows i d
  row_read [] i d less = absurd (omega arith)
  row_read (row ∷ rows) zero d less = refl
  row_read (row ∷ rows) (suc i) d less = row_read rows i d (omega arith)

-- rows of vectors that a table keeps have the length of the names
pub kept_length : {V : Type 0} (f : V → List (Option ℕ)) (xs : List V) (n i : ℕ) (x : V) → All (λ row. length row ≡ n) (map f xs) → slice_get xs i ≡ Some x → length (f x) ≡ n
kept_length f [] n i x all at = absurd (none_some at) where
  none_some : None ≡ Some x → ⊥
  none_some e = cc
kept_length f (y ∷ ys) n zero x all at = subst (λ z. length (f z) ≡ n) (inside at) (all 0 (f y) (omega arith)) where
  inside : Some y ≡ Some x → y ≡ x
  inside e = cc
kept_length f (y ∷ ys) n (suc i) x all at = kept_length f ys n i x (λ k d within. all (suc k) d (omega arith)) at

-- a slot past the rows has no cost
pub cost_past : (names : List ℕ) (rows : List (List (Option ℕ))) (slot router : ℕ) → length rows ≤ slot → costs_by names rows slot router ≡ None
cost_past names rows slot router past = none_found names rows slot router (row_past rows slot past)

-- changes between costs that are the same as others
pub changes_same : (before before' after after' : ℕ → ℕ → Option ℕ) (pairs : List (ℕ × ℕ)) → ((slot router : ℕ) → before slot router ≡ before' slot router) → ((slot router : ℕ) → after slot router ≡ after' slot router)
    → AreChanges before' after' pairs → AreChanges before after pairs
changes_same before before' after after' pairs same same' are = record {
  rising = are.rising;
  exact = λ slot router. rw (same slot router, same' slot router) (are.exact slot router);
}

-- two engines over the same edges for the same members have the same costs
pub over_same : (a b : EngineOf) (edges : List Edge) → IsEngineOver a edges → IsEngineOver b edges → b.members ≡ a.members → (slot router : ℕ) → engine_costs a slot router ≡ engine_costs b slot router
over_same a b edges over over' same slot router = over.exact slot router ∙ sym (subst (λ members. engine_costs b slot router ≡ cost_from edges members slot router) same (over'.exact slot router))

-- the ends of an edge that came or went are among names of the edges before and after
pub ends_named : (edge : Edge) (added : Bool) (after : List Edge) (names : List ℕ) → (added ≡ true → Contains after edge) → AreNames after names → AreNames (graph_before edge added after) names → Contains names edge.from × Contains names edge.to
ends_named edge true after names there are before = are.ends edge (there refl)
ends_named edge false after names there are before = before.ends edge (with_included edge after).added

-- changes between engines that aren't spent, by their rows
pub engine_changes : (a b : EngineOf) (names : List ℕ) (rows rows' : List (List (Option ℕ))) (pairs : List (ℕ × ℕ)) → a.is_spent ≡ false → b.is_spent ≡ false → names ≡ a.names → names ≡ b.names → rows ≡ a.rows → rows' ≡ b.rows
    → AreChanges (costs_by names rows) (costs_by names rows') pairs → AreChanges (engine_costs a) (engine_costs b) pairs
engine_changes a b names rows rows' pairs unspent unspent' named named' is is' are =
    changes_same (engine_costs a) (costs_by names rows) (engine_costs b) (costs_by names rows') pairs
    (λ slot router. rw (unspent, named, is) refl) (λ slot router. rw (unspent', is') (ap (λ names. costs_by names b.rows slot router) (sym named'))) are

-- rows that an edge leaves as they are
pub still_rows : (edge : Edge) (added : Bool) (after : List Edge) (names : List ℕ) (members : List Member) (rows : List (List (Option ℕ))) (hop : Hop) → (added ≡ true → Contains after edge) → IsStrictlyIncreasing names → IsHop names edge hop
    → AreRows (graph_before edge added after) names members rows → ((slot : ℕ) → slot < length rows → IsStill hop added (row_at rows slot)) → AreRows after names members rows
still_rows edge true after names members rows hop there rising is over still = record {
  count = over.count;
  named = over.named;
  exact = λ slot root seat. still_row (exclude_edge edge after) after names root edge hop (row_at rows slot) rising is (with_excluded edge after (there refl)) (over.exact slot root seat)
      (still slot (let h = slot_within members slot root seat in let count = over.count in omega arith));
}
still_rows edge false after names members rows hop there rising is over still = record {
  count = over.count;
  named = over.named;
  exact = λ slot root seat. loose_row (include_edge edge after) after names root edge hop (row_at rows slot) rising is (with_included edge after) (over.exact slot root seat)
      (still slot (let h = slot_within members slot root seat in let count = over.count in omega arith));
}

pub no_changes : (costs : ℕ → ℕ → Option ℕ) → AreChanges costs costs []
no_changes costs = record {
  rising = λ i j d less within. absurd (omega arith);
  exact = λ slot router. (λ member. absurd (Contains-none (slot, router) member), λ differs. absurd (differs refl));
}
