-- A view that follows its graph edge by edge: the rows of the slots whose costs changed, and the edges that are taken out and put in.
use Rattle.std.proofs.Common.{◌≡◌, ◌≢◌, ℕ, ◌+◌, ◌<◌, ◌≤◌, Bool, true, false, not, ◌==◌, ◌⊎◌, List, [], ◌∷◌, ◌++◌, length, take, get_or, Contains, Option, Some, None, refl, sym, ap, subst, ◌∙◌, inl, inr, arith, eq-eqb, eqb-true}
use Rattle.std.specs.List.{list_any}
use Rattle.std.proofs.lemmas.List.Elements.{Contains-get_or, Contains-append_left, Contains-append_right, Contains-append_cases}
use Rattle.std.proofs.lemmas.Bool.{cases_lt}
use Rattle.std.proofs.lemmas.List.{take_more}
use Rattle.rcp_base.specs.declared.names.Member.{Member}
use Rattle.rcp_base.specs.declared.names.Edge.{Edge}
use Rattle.rcp_base.specs.Maps.{get_at}
use Rattle.rcp_model.specs.LinkState.{same_number}
use Rattle.rcp_model.specs.Edges.{same_edge, include_edge}
use Rattle.rcp_model.specs.Graphs.{IsGraph, edges_from, exclude_edge, routers_in}
use Rattle.rcp_model.specs.RouteServer.{router_at, cost_between, slot_cost, same_cost}
use Rattle.rcp_model.proofs.MemberLemmas.{Contains-head, Contains-cases, Contains-none, any_member, any_from_member, filter_member, member_of_filter}
use Rattle.rcp_model.proofs.GraphLemmas.{All-from_members, member_of_include, routers_at, routers_within, rising-same}
use Rattle.cost_rows.specs.Engines.{cost_from, AreChanges}
use Rattle.cost_rows.specs.Views.{ViewOf, AreRenewals}
use Rattle.cost_rows.proofs.ReachLemmas.{router_past, cost_none_from, cost_none_to}
use Rattle.spf_incr.specs.Tables.{EngineOf, IsEngineOver, engine_costs}
use Rattle.spf_incr.proofs.EdgeLemmas.{not_excluded}
use Rattle.spf_incr.proofs.PairLemmas.{same-cost, other-cost}
use Rattle.lsdb.proofs.Sorting.{equal_edge}
use Rattle.igp_view.proofs.EdgeLemmas.{decided}
use Rattle.igp_view.specs.Following.{IsEngineOf, AreRowsOf, AreAllRows, IsBeside}

pub only : {X : Type 0} (x y : X) → Contains (x ∷ []) y → x ≡ y
only x y member = elim (Contains-cases x [] y member) [ inl same ↦ same | inr later ↦ absurd (Contains-none y later) ]

-- ---- rows of the slots of pairs

pub no_rows : (costs : ℕ → ℕ → Option ℕ) → AreRowsOf costs [] []
no_rows costs = record {
  each = λ slot router member. absurd (Contains-none (slot, router) member);
  listed = λ slot row member. absurd (Contains-none (slot, row) member);
  exact = λ slot row member. absurd (Contains-none (slot, row) member);
}

pub one_more_row : (costs : ℕ → ℕ → Option ℕ) (pairs : List (ℕ × ℕ)) (rows : List (ℕ × List (ℕ × ℕ))) (slot router : ℕ) (row : List (ℕ × ℕ)) → ((v : ℕ) → get_at same_number v row ≡ costs slot v)
    → AreRowsOf costs pairs rows → AreRowsOf costs (pairs ++ (slot, router) ∷ []) (rows ++ (slot, row) ∷ [])
one_more_row costs pairs rows slot router row right are = record {
  each = λ s r member. elim (Contains-append_cases pairs ((slot, router) ∷ []) (s, r) member) [
    | inl earlier ↦ let found = are.each s r earlier in (found.0, Contains-append_left rows ((slot, row) ∷ []) (s, found.0) found.1)
    | inr last ↦ (row, subst (λ (p : ℕ × ℕ). Contains (rows ++ (slot, row) ∷ []) (p.0, row)) (only (slot, router) (s, r) last) new_row)
  ];
  listed = λ s found member. elim (Contains-append_cases rows ((slot, row) ∷ []) (s, found) member) [
    | inl earlier ↦ let pair = are.listed s found earlier in (pair.0, Contains-append_left pairs ((slot, router) ∷ []) (s, pair.0) pair.1)
    | inr last ↦ (router, subst (λ (p : ℕ × List (ℕ × ℕ)). Contains (pairs ++ (slot, router) ∷ []) (p.0, router)) (only (slot, row) (s, found) last) new_pair)
  ];
  exact = λ s found member. elim (Contains-append_cases rows ((slot, row) ∷ []) (s, found) member) [
    | inl earlier ↦ are.exact s found earlier
    | inr last ↦ subst (λ (p : ℕ × List (ℕ × ℕ)). (v : ℕ) → get_at same_number v p.1 ≡ costs p.0 v) (only (slot, row) (s, found) last) right
  ];
} where
  new_row : Contains (rows ++ (slot, row) ∷ []) (slot, row)
  new_row = Contains-append_right rows ((slot, row) ∷ []) (slot, row) (Contains-head (slot, row) [])

  new_pair : Contains (pairs ++ (slot, router) ∷ []) (slot, router)
  new_pair = Contains-append_right pairs ((slot, router) ∷ []) (slot, router) (Contains-head (slot, router) [])

pub no_more_row : (costs : ℕ → ℕ → Option ℕ) (pairs : List (ℕ × ℕ)) (rows : List (ℕ × List (ℕ × ℕ))) (slot router : ℕ) → ((row : List (ℕ × ℕ)) × Contains rows (slot, row))
    → AreRowsOf costs pairs rows → AreRowsOf costs (pairs ++ (slot, router) ∷ []) rows
no_more_row costs pairs rows slot router there are = record {
  each = λ s r member. elim (Contains-append_cases pairs ((slot, router) ∷ []) (s, r) member) [
    | inl earlier ↦ are.each s r earlier
    | inr last ↦ (there.0, subst (λ (p : ℕ × ℕ). Contains rows (p.0, there.0)) (only (slot, router) (s, r) last) there.1)
  ];
  listed = λ s found member. let pair = are.listed s found member in (pair.0, Contains-append_left pairs ((slot, router) ∷ []) (s, pair.0) pair.1);
  exact = are.exact;
}

-- ---- a view's renewal by an engine's changes

same_unless_listed : (old new : ℕ → ℕ → Option ℕ) (pairs : List (ℕ × ℕ)) → AreChanges old new pairs → (slot router : ℕ) → (Contains pairs (slot, router) → ⊥) → old slot router ≡ new slot router
same_unless_listed old new pairs changes slot router none = at_test (same_cost (old slot router) (new slot router)) refl where
  at_test : (t : Bool) → same_cost (old slot router) (new slot router) ≡ t → old slot router ≡ new slot router
  at_test true same = same-cost (old slot router) (new slot router) same
  at_test false other = absurd (none ((changes.exact slot router).1 (other-cost (old slot router) (new slot router) other)))

cost_past : (edges : List Edge) (members : List Member) (slot router : ℕ) → length members ≤ slot → cost_from edges members slot router ≡ None
unfolding cost_from
cost_past edges members slot router past = ap (λ a. cost_between edges a (Some router)) (router_past members slot past)

cost_to : (edges : List Edge) (members : List Member) (slot to router : ℕ) → router_at members to ≡ Some router → slot_cost edges members slot to ≡ cost_from edges members slot router
unfolding slot_cost cost_from
cost_to edges members slot to router seat = ap (cost_between edges (router_at members slot)) seat

cost_to_none : (edges : List Edge) (members : List Member) (slot to : ℕ) → router_at members to ≡ None → slot_cost edges members slot to ≡ None
unfolding slot_cost
cost_to_none edges members slot to none = ap (cost_between edges (router_at members slot)) none ∙ cost_none_to edges (router_at members slot)

pub renewals : (before after : List Edge) (members : List Member) (old new : ℕ → ℕ → Option ℕ) (pairs : List (ℕ × ℕ)) (rows : List (ℕ × List (ℕ × ℕ))) → ((slot router : ℕ) → old slot router ≡ cost_from before members slot router)
    → ((slot router : ℕ) → new slot router ≡ cost_from after members slot router) → AreChanges old new pairs → AreRowsOf new pairs rows → AreRenewals before after members rows
renewals before after members old new pairs rows was is changes are = record {
  seated = All-from_members (λ (given : ℕ × List (ℕ × ℕ)). given.0 < length members) rows (λ given member. let pair = are.listed given.0 given.1 member in seat given.0 pair.0 ((changes.exact given.0 pair.0).0 pair.1));
  given = All-from_members (λ (given : ℕ × List (ℕ × ℕ)). (router : ℕ) → get_at same_number router given.1 ≡ cost_from after members given.0 router) rows
      (λ given member router. are.exact given.0 given.1 member router ∙ is given.0 router);
  others = λ slot none to. at_router slot none to (router_at members to) refl;
} where
  seat : (slot router : ℕ) → old slot router ≢ new slot router → slot < length members
  seat slot router differs = elim (cases_lt slot (length members)) [
    | inl less ↦ less
    | inr past ↦ absurd (differs (was slot router ∙ cost_past before members slot router past ∙ sym (is slot router ∙ cost_past after members slot router past)))
  ]

  at_router : (slot : ℕ) → ((row : List (ℕ × ℕ)) → Contains rows (slot, row) → ⊥) → (to : ℕ) → (o : Option ℕ) → router_at members to ≡ o → slot_cost before members slot to ≡ slot_cost after members slot to
  at_router slot none to None seat = cost_to_none before members slot to seat ∙ sym (cost_to_none after members slot to seat)
  at_router slot none to (Some router) seat =
      cost_to before members slot to router seat ∙ sym (was slot router)
      ∙ same_unless_listed old new pairs changes slot router (λ member. let row = are.each slot router member in none row.0 row.1)
      ∙ is slot router ∙ sym (cost_to after members slot to router seat)

pub renewals_by : (old new : EngineOf) (view : ViewOf) (graph : List Edge) (pairs : List (ℕ × ℕ)) (rows : List (ℕ × List (ℕ × ℕ))) → IsEngineOf old view → IsEngineOver new graph → new.members ≡ old.members
    → AreChanges (engine_costs old) (engine_costs new) pairs → AreRowsOf (engine_costs new) pairs rows → AreRenewals view.edges graph view.members rows
renewals_by old new view graph pairs rows is over members =
    renewals view.edges graph view.members (engine_costs old) (engine_costs new) pairs rows
    (λ slot router. subst (λ ms. engine_costs old slot router ≡ cost_from view.edges ms slot router) is.members (is.over.exact slot router))
    (λ slot router. subst (λ ms. engine_costs new slot router ≡ cost_from graph ms slot router) (members ∙ is.members) (over.exact slot router))

-- ---- a view's renewal by all rows

pub no_slots : (costs : ℕ → ℕ → Option ℕ) → AreAllRows costs 0 []
no_slots costs = record {
  each = λ slot less. absurd (omega arith);
  seated = λ slot row member. absurd (Contains-none (slot, row) member);
  exact = λ slot row member. absurd (Contains-none (slot, row) member);
}

pub one_more_slot : (costs : ℕ → ℕ → Option ℕ) (count : ℕ) (rows : List (ℕ × List (ℕ × ℕ))) (row : List (ℕ × ℕ)) → ((v : ℕ) → get_at same_number v row ≡ costs count v)
    → AreAllRows costs count rows → AreAllRows costs (count + 1) (rows ++ (count, row) ∷ [])
one_more_slot costs count rows row right are = record {
  each = λ s less. elim (cases_lt s count) [
    | inl below ↦ let found = are.each s below in (found.0, Contains-append_left rows ((count, row) ∷ []) (s, found.0) found.1)
    | inr last ↦ (
      row,
      subst (λ k. Contains (rows ++ (count, row) ∷ []) (k, row)) (let same : count ≡ s = omega arith in same) (Contains-append_right rows ((count, row) ∷ []) (count, row) (Contains-head (count, row) [])),
    )
  ];
  seated = λ s found member. elim (Contains-append_cases rows ((count, row) ∷ []) (s, found) member) [
    | inl earlier ↦ let h = are.seated s found earlier in omega arith
    | inr last ↦ subst (λ (p : ℕ × List (ℕ × ℕ)). p.0 < count + 1) (only (count, row) (s, found) last) (omega arith)
  ];
  exact = λ s found member. elim (Contains-append_cases rows ((count, row) ∷ []) (s, found) member) [
    | inl earlier ↦ are.exact s found earlier
    | inr last ↦ subst (λ (p : ℕ × List (ℕ × ℕ)). (v : ℕ) → get_at same_number v p.1 ≡ costs p.0 v) (only (count, row) (s, found) last) right
  ];
}

pub renewals_by_all : (before graph : List Edge) (members : List Member) (engine : EngineOf) (rows : List (ℕ × List (ℕ × ℕ))) → IsEngineOver engine graph → engine.members ≡ members
    → AreAllRows (engine_costs engine) (length members) rows → AreRenewals before graph members rows
renewals_by_all before graph members engine rows over same are = record {
  seated = All-from_members (λ (given : ℕ × List (ℕ × ℕ)). given.0 < length members) rows (λ given member. are.seated given.0 given.1 member);
  given = All-from_members (λ (given : ℕ × List (ℕ × ℕ)). (router : ℕ) → get_at same_number router given.1 ≡ cost_from graph members given.0 router) rows
      (λ given member router. are.exact given.0 given.1 member router
      ∙ subst (λ ms. engine_costs engine given.0 router ≡ cost_from graph ms given.0 router) same (over.exact given.0 router));
  others = λ slot none to. elim (cases_lt slot (length members)) [
    | inl less ↦ let row = are.each slot less in absurd (none row.0 row.1)
    | inr past ↦
        let nobody = router_past members slot past in
        cost_none_from before members slot to nobody ∙ sym (cost_none_from graph members slot to nobody)
  ];
}

-- ---- lists taken further

pub taken : {X : Type 0} (xs : List X) (i : ℕ) (x : X) → i < length xs → x ≡ get_or xs i x → take (i + 1) xs ≡ take i xs ++ x ∷ []
taken xs i x less is = take_more xs i x less ∙ ap (λ y. take i xs ++ y ∷ []) (sym is)

pub item_in : (graph edges : List Edge) (i : ℕ) (item : Edge) → edges ≡ graph → i < length edges → item ≡ get_or edges i item → Contains graph item
item_in graph edges i item same less is = subst (λ es. Contains es item) same (subst (Contains edges) (sym is) (Contains-get_or edges i item less))

pub cheap_at : (graph : List Edge) (edge : Edge) → IsGraph graph → Contains graph edge → edge.cost ≤ 65535
cheap_at graph edge is member = subst (λ (e : Edge). e.cost ≤ 65535) member.2 (is.cheap member.0 edge member.1)

-- ---- edges of a graph, and those that it hasn't

pub found_edge : (graph : List Edge) (edge : Edge) (b : Bool) → b ≡ list_any (λ y. equal_edge y edge) (edges_from edge.from graph) → (b ≡ true → Contains graph edge) × (Contains graph edge → b ≡ true)
found_edge graph edge b is = (
  λ yes.
      let found = any_member (λ y. equal_edge y edge) (edges_from edge.from graph) (sym is ∙ yes) in
      subst (Contains graph) ((decided found.0 edge).0 found.2) (member_of_filter (λ (e : Edge). e.from == edge.from) graph found.0 found.1).0,
  λ member. is ∙ any_from_member (λ y. equal_edge y edge) (edges_from edge.from graph) edge (filter_member (λ (e : Edge). e.from == edge.from) graph edge member (eq-eqb edge.from edge.from refl)) ((decided edge edge).1 refl),
)

pub missing_more : (edges graph found more : List Edge) (i : ℕ) (item : Edge) → i < length edges → item ≡ get_or edges i item → ((e : Edge) → Contains found e → Contains more e) → Contains graph item ⊎ Contains more item
    → ((e : Edge) → Contains (take i edges) e → Contains graph e ⊎ Contains found e) → (e : Edge) → Contains (take (i + 1) edges) e → Contains graph e ⊎ Contains more e
missing_more edges graph found more i item less is kept here before e member =
    elim (Contains-append_cases (take i edges) (item ∷ []) e (subst (λ es. Contains es e) (taken edges i item less is) member)) [
      | inl earlier ↦ elim (before e earlier) [ inl there ↦ inl there | inr gone ↦ inr (kept e gone) ]
      | inr last ↦ subst (λ x. Contains graph x ⊎ Contains more x) (only item e last) here
    ]

-- ---- an edge beside another

pub beside_is : (graph edges : List Edge) (edge : Edge) (i : ℕ) (item : Edge) → IsGraph graph → edges ≡ edges_from edge.from graph → i < length edges → item ≡ get_or edges i item → item.to ≡ edge.to → IsBeside graph edge item
beside_is graph edges edge i item is same less read to =
    let found = member_of_filter (λ (e : Edge). e.from == edge.from) graph item (item_in (edges_from edge.from graph) edges i item same less read) in
    record { there = found.0; from = eqb-true item.from edge.from found.1; to = to; cheap = cheap_at graph item is found.0 }

-- an edge beside one of a graph adds no router to that
pub few_beside : (graph edges : List Edge) (edge other : Edge) → IsGraph edges → Contains edges edge → IsBeside graph edge other → length (routers_in (include_edge other edges)) ≤ 2560
few_beside graph edges edge other is there beside =
    let few = is.few in
    let ends = routers_at edges edge there in
    let fewer = routers_within (include_edge other edges) (routers_in edges) (λ e member. elim (member_of_include other edges e member) [
      | inl same ↦ subst (λ (x : Edge). Contains (routers_in edges) x.from × Contains (routers_in edges) x.to) same
          (subst (Contains (routers_in edges)) (sym beside.from) ends.0, subst (Contains (routers_in edges)) (sym beside.to) ends.1)
      | inr old ↦ routers_at edges e old
    ]) in
    omega arith

-- what is left after an edge is taken out, once others of a graph were put in
pub replaced : (graph start mid after : List Edge) (edge : Edge) → ((other : Edge) → Contains mid other → Contains graph other ⊎ Contains start other) → after ≡ exclude_edge edge mid
    → (other : Edge) → Contains after other → Contains graph other ⊎ (Contains start other × ((edge ≡ other) → ⊥))
replaced graph start mid after edge put is other member =
    let inside : Contains (exclude_edge edge mid) other = subst (λ es. Contains es other) is member in
    elim (put other (member_of_filter (λ b. not (same_edge edge b)) mid other inside).0) [
      | inl there ↦ inl there
      | inr old ↦ inr (old, λ same. not_excluded edge mid (subst (Contains (exclude_edge edge mid)) (sym same) inside))
    ]

-- ---- edges taken out, one after another

pub record TakingOut (start : ViewOf) (graph : List Edge) (engine : EngineOf) (view : ViewOf) (out : List Edge) : Type 0 where
  pub is_over : IsEngineOf engine view
  pub members : view.members ≡ start.members
  pub edges : (edge : Edge) → Contains view.edges edge → Contains graph edge ⊎ (Contains start.edges edge × (Contains out edge → ⊥))

pub taking_starts : (start : ViewOf) (graph : List Edge) (engine : EngineOf) → IsEngineOf engine start → TakingOut start graph engine start []
taking_starts start graph engine is = record { is_over = is; members = refl; edges = λ edge member. inr (member, λ none. Contains-none edge none) }

pub taking_step : (start : ViewOf) (graph : List Edge) (engine next : EngineOf) (view after : ViewOf) (out : List Edge) (edge : Edge) → IsEngineOf next after → after.members ≡ view.members
    → ((other : Edge) → Contains after.edges other → Contains graph other ⊎ (Contains view.edges other × ((edge ≡ other) → ⊥))) → TakingOut start graph engine view out → TakingOut start graph next after (out ++ edge ∷ [])
taking_step start graph engine next view after out edge is members edges taking = record {
  is_over = is;
  members = members ∙ taking.members;
  edges = λ e member. elim (edges e member) [
    | inl there ↦ inl there
    | inr left ↦ elim (taking.edges e left.0) [
      | inl there ↦ inl there
      | inr was ↦ inr (
        was.0,
        λ listed. elim (Contains-append_cases out (edge ∷ []) e listed) [
          | inl earlier ↦ was.1 earlier
          | inr last ↦ left.1 (only edge e last)
        ],
      )
    ]
  ];
}

-- ---- edges put in, one after another

pub record PuttingIn (start : ViewOf) (graph : List Edge) (engine : EngineOf) (view : ViewOf) (done : List Edge) : Type 0 where
  pub is_over : IsEngineOf engine view
  pub members : view.members ≡ start.members
  pub within : (edge : Edge) → Contains view.edges edge → Contains graph edge
  pub there : (edge : Edge) → Contains done edge → Contains view.edges edge

pub putting_starts : (start : ViewOf) (graph : List Edge) (engine : EngineOf) → IsEngineOf engine start → ((edge : Edge) → Contains start.edges edge → Contains graph edge) → PuttingIn start graph engine start []
putting_starts start graph engine is within = record { is_over = is; members = refl; within = within; there = λ edge none. absurd (Contains-none edge none) }

pub putting_step : (start : ViewOf) (graph : List Edge) (engine next : EngineOf) (view after : ViewOf) (done : List Edge) (edge : Edge) → Contains graph edge → IsEngineOf next after → after.members ≡ view.members → Contains after.edges edge
    → ((other : Edge) → Contains after.edges other → (edge ≡ other) ⊎ Contains view.edges other) → ((other : Edge) → Contains view.edges other → Contains after.edges other)
    → PuttingIn start graph engine view done → PuttingIn start graph next after (done ++ edge ∷ [])
putting_step start graph engine next view after done edge inside is members new other kept putting = record {
  is_over = is;
  members = members ∙ putting.members;
  within = λ e member. elim (other e member) [ inl same ↦ subst (Contains graph) same inside | inr old ↦ putting.within e old ];
  there = λ e member. elim (Contains-append_cases done (edge ∷ []) e member) [
    | inl earlier ↦ kept e (putting.there e earlier)
    | inr last ↦ subst (Contains after.edges) (only edge e last) new
  ];
}

-- edges of a graph have no more routers than it
pub few_routers : (graph edges : List Edge) (edge : Edge) → IsGraph graph → Contains graph edge → ((e : Edge) → Contains edges e → Contains graph e) → length (routers_in (include_edge edge edges)) ≤ 2560
few_routers graph edges edge is inside within =
    let few = is.few in
    let fewer = routers_within (include_edge edge edges) (routers_in graph) (λ e member. routers_at graph e (elim (member_of_include edge edges e member) [ inl same ↦ subst (Contains graph) same inside | inr old ↦ within e old ])) in
    omega arith

pub putting_ends : (start : ViewOf) (graph : List Edge) (engine : EngineOf) (view : ViewOf) → IsGraph graph → IsGraph view.edges → PuttingIn start graph engine view graph → view.edges ≡ graph
putting_ends start graph engine view is is' putting = rising-same view.edges graph is'.rising is.rising (λ edge. (putting.within edge, putting.there edge))
