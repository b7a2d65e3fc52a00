-- What members reach: the costs by slot, and the parts of a view.
use Rattle.std.proofs.Common.{◌≡◌, ◌≢◌, ℕ, zero, suc, ◌+◌, ◌-◌, ◌^◌, ◌<◌, ◌≤◌, ◌⊎◌, List, [], ◌∷◌, ◌++◌, length, get_or, set, map, take, slice_get, slice_index_or, All, Contains, Option, Some, None, IfSome, IsSome, option_map, refl, sym, ap, subst, ◌∙◌, inl, inr, arith, length-append}
use Rattle.std.proofs.lemmas.List.{take_more}
use Rattle.std.proofs.lemmas.List.Elements.{Contains-push_cases}
use Rattle.std.proofs.Math.ListN.{length-set}
use Rattle.std.proofs.lemmas.Bool.{false≢true}
use Rattle.std.proofs.lemmas.Option.{slice_get_within, slice_get-get_or, slice_get-map, get_or_from_slice_get, none-some, same_Some}
use Rattle.rcp_base.specs.declared.names.Member.{Member}
use Rattle.rcp_model.proofs.MemberLemmas.{Contains-none}
use Rattle.rcp_base.specs.declared.names.Edge.{Edge}
use Rattle.rcp_base.specs.Maps.{get_at}
use Rattle.rcp_model.specs.LinkState.{same_number}
use Rattle.rcp_model.specs.RouteServer.{router_at, cost_between, slot_cost}
use Rattle.rcp_model.specs.Graphs.{IsGraph}
use Rattle.cost_rows.specs.Engines.{cost_from}
use Rattle.cost_rows.specs.Search.{AreNames, IsFound, ArePlaces}
use Rattle.cost_rows.specs.Views.{ReachOf, cost_at, IsRanking, IsReach, IsView, AreRenewals}
use Rattle.cost_rows.proofs.NameLemmas.{apart, found-place}
use Rattle.cost_rows.proofs.BoundLemmas.{cost_low}
use Rattle.cost_rows.proofs.KeyLemmas.{ranking_same}

-- ---- routers of slots

pub router_within : (members : List Member) (slot router : ℕ) → router_at members slot ≡ Some router → slot < length members
router_within [] slot router is = absurd (none-some router is)
router_within (member ∷ members) zero router is = omega arith
router_within (member ∷ members) (suc slot) router is = let h = router_within members slot router is in omega arith

pub router_past : (members : List Member) (slot : ℕ) → length members ≤ slot → router_at members slot ≡ None
router_past [] slot past = refl
router_past (member ∷ members) zero past = absurd (omega arith)
router_past (member ∷ members) (suc slot) past = router_past members slot (omega arith)

pub router_there : (members : List Member) (slot : ℕ) (member : Member) → slot < length members → member ≡ get_or members slot member → router_at members slot ≡ Some member.router
router_there [] slot member within is = absurd (omega arith)
router_there (m ∷ members) zero member within is = ap (λ (m : Member). Some m.router) (sym is)
router_there (m ∷ members) (suc slot) member within is = router_there members slot member (omega arith) is

pub cost_none_from : (edges : List Edge) (members : List Member) (from to : ℕ) → router_at members from ≡ None → slot_cost edges members from to ≡ None
unfolding slot_cost
cost_none_from edges members from to none = ap (λ a. cost_between edges a (router_at members to)) none

pub cost_none_to : (edges : List Edge) (a : Option ℕ) → cost_between edges a None ≡ None
cost_none_to edges None = refl
cost_none_to edges (Some u) = refl

pub seated_cost : (edges : List Edge) (members : List Member) (from to n : ℕ) → slot_cost edges members from to ≡ Some n → to < length members
unfolding slot_cost
seated_cost edges members from to n is = at_router (router_at members to) refl where
  at_router : (o : Option ℕ) → router_at members to ≡ o → to < length members
  at_router None none = absurd (none-some n (sym (ap (cost_between edges (router_at members from)) none ∙ cost_none_to edges (router_at members from)) ∙ is))
  at_router (Some router) some = router_within members to router some

-- ---- places

pub places_count : (names routers places : List ℕ) → ArePlaces names routers places → length places ≡ length routers
places_count names [] [] are = refl
places_count names [] (place ∷ places) are = absurd are
places_count names (router ∷ routers) [] are = absurd are
places_count names (router ∷ routers) (place ∷ places) are = ap suc (places_count names routers places are.1)

pub places_within : (names routers places : List ℕ) → ArePlaces names routers places → (k : ℕ) (d : ℕ) → k < length places → get_or places k d < length names
places_within names [] [] are k d within = absurd (omega arith)
places_within names [] (place ∷ places) are k d within = absurd are
places_within names (router ∷ routers) [] are k d within = absurd are
places_within names (router ∷ routers) (place ∷ places) are zero d within = slice_get_within names place router are.0
places_within names (router ∷ routers) (place ∷ places) are (suc k) d within = places_within names routers places are.1 k d (omega arith)

pub place_named : (names : List ℕ) (members : List Member) (places : List ℕ) → ArePlaces names (map (λ (member : Member). member.router) members) places → (slot : ℕ) (member : Member) → slot < length members
    → member ≡ get_or members slot member → Contains names member.router
place_named names [] places are slot member within is = absurd (omega arith)
place_named names (m ∷ members) [] are slot member within is = absurd are
place_named names (m ∷ members) (place ∷ places) are zero member within is =
    subst (λ (m : Member). Contains names m.router) (sym is) (place, slice_get_within names place m.router are.0, get_or_from_slice_get names place m.router m.router are.0)
place_named names (m ∷ members) (place ∷ places) are (suc slot) member within is = place_named names members places are.1 slot member (omega arith) is

-- each cost that a search found is low
pub found_low : (edges : List Edge) (names : List ℕ) (root : ℕ) (least : List (Option ℕ)) → IsGraph edges → AreNames edges names → IsFound edges names root least
    → All (λ cost. IfSome cost (λ n. n < 2 ^ 32 - 1)) least
found_low edges names root least graph are found k d within =
    let places = found.places in
    let at = slice_get-get_or names k 0 (omega arith) in
    subst (λ o. IfSome o (λ n. n < 2 ^ 32 - 1))
    (sym (found.exact (get_or names k 0)) ∙ found-place names least k (get_or names k 0) (apart names are.rising) places at ∙ same_default least k within)
    (cost_low edges graph root (get_or names k 0)) where
      same_default : (xs : List (Option ℕ)) (k : ℕ) → k < length xs → get_or xs k None ≡ get_or xs k d
      same_default [] k within = absurd (omega arith)
      same_default (x ∷ xs) zero within = refl
      same_default (x ∷ xs) (suc k) within = same_default xs k (omega arith)

-- ---- costs by slot

-- those that a search found, at the places of members
pub costs_found : (edges : List Edge) (names : List ℕ) (root : ℕ) (least : List (Option ℕ)) → AreNames edges names → IsFound edges names root least → (members : List Member) (places : List ℕ)
    → ArePlaces names (map (λ (member : Member). member.router) members) places → (to : ℕ) → cost_at (map (λ place. slice_index_or least place None) places) to ≡ cost_between edges (Some root) (router_at members to)
costs_found edges names root least are found [] [] at to = refl
costs_found edges names root least are found [] (place ∷ places) at to = absurd at
costs_found edges names root least are found (member ∷ members) [] at to = absurd at
costs_found edges names root least are found (member ∷ members) (place ∷ places) at zero =
    sym (found-place names least place member.router (apart names are.rising) found.places at.0) ∙ found.exact member.router
costs_found edges names root least are found (member ∷ members) (place ∷ places) at (suc to) = costs_found edges names root least are found members places at.1 to

pub reach_found : (edges : List Edge) (names : List ℕ) (root : ℕ) (least : List (Option ℕ)) (members : List Member) (places : List ℕ) (reach : ReachOf) → AreNames edges names → IsFound edges names root least
    → ArePlaces names (map (λ (member : Member). member.router) members) places → reach.costs ≡ map (λ place. slice_index_or least place None) places → IsRanking members (cost_at reach.costs) reach.ranked
    → (slot : ℕ) → router_at members slot ≡ Some root → IsReach edges members slot reach
unfolding slot_cost
reach_found edges names root least members places reach are found at costs ranking slot seat =
    let exact : (to : ℕ) → cost_at reach.costs to ≡ slot_cost edges members slot to = λ to.
    ap (λ costs. cost_at costs to) costs ∙ costs_found edges names root least are found members places at to ∙ ap (λ a. cost_between edges a (router_at members to)) (sym seat) in
    record { costs = exact; ranking = ranking_same members (cost_at reach.costs) (slot_cost edges members slot) reach.ranked exact ranking }

-- those of a row
costs_of_row : (edges : List Edge) (members : List Member) (slot : ℕ) (row : List (ℕ × ℕ)) → ((router : ℕ) → get_at same_number router row ≡ cost_from edges members slot router)
    → (others : List Member) (to : ℕ) → cost_at (map (λ (member : Member). get_at same_number member.router row) others) to ≡ cost_between edges (router_at members slot) (router_at others to)
unfolding cost_from
costs_of_row edges members slot row exact [] to = sym (cost_none_to edges (router_at members slot))
costs_of_row edges members slot row exact (member ∷ others) zero = exact member.router
costs_of_row edges members slot row exact (member ∷ others) (suc to) = costs_of_row edges members slot row exact others to

pub reach_row : (edges : List Edge) (members : List Member) (slot : ℕ) (row : List (ℕ × ℕ)) (reach : ReachOf) → ((router : ℕ) → get_at same_number router row ≡ cost_from edges members slot router)
    → reach.costs ≡ map (λ (member : Member). get_at same_number member.router row) members → IsRanking members (cost_at reach.costs) reach.ranked → IsReach edges members slot reach
unfolding slot_cost
reach_row edges members slot row reach exact costs ranking =
    let same : (to : ℕ) → cost_at reach.costs to ≡ slot_cost edges members slot to = λ to. ap (λ costs. cost_at costs to) costs ∙ costs_of_row edges members slot row exact members to in
    record { costs = same; ranking = ranking_same members (cost_at reach.costs) (slot_cost edges members slot) reach.ranked same ranking }

pub row_low : (edges : List Edge) (members : List Member) (slot : ℕ) (row : List (ℕ × ℕ)) → IsGraph edges → ((router : ℕ) → get_at same_number router row ≡ cost_from edges members slot router)
    → (router : ℕ) → IfSome (get_at same_number router row) (λ n. n < 2 ^ 32 - 1)
unfolding cost_from
row_low edges members slot row graph exact router = rw (exact router) (at_router (router_at members slot)) where
  at_router : (o : Option ℕ) → IfSome (cost_between edges o (Some router)) (λ n. n < 2 ^ 32 - 1)
  at_router None = tt
  at_router (Some root) = cost_low edges graph root router

-- ---- the parts of a view

get_push : (reaches : List ReachOf) (new : ReachOf) (slot : ℕ) (reach : ReachOf) → slice_get (reaches ++ new ∷ []) slot ≡ Some reach → (slice_get reaches slot ≡ Some reach) ⊎ ((slot ≡ length reaches) × (new ≡ reach))
get_push [] new zero reach is = inr (refl, same_Some new reach is)
get_push [] new (suc slot) reach is = absurd (none-some reach is)
get_push (first ∷ reaches) new zero reach is = inl is
get_push (first ∷ reaches) new (suc slot) reach is = elim (get_push reaches new slot reach is) [ inl before ↦ inl before | inr last ↦ inr (ap suc last.0, last.1) ]

pub right_push : (edges : List Edge) (members : List Member) (reaches : List ReachOf) (new : ReachOf) → ((slot : ℕ) (reach : ReachOf) → slice_get reaches slot ≡ Some reach → IsReach edges members slot reach)
    → IsReach edges members (length reaches) new → (slot : ℕ) (reach : ReachOf) → slice_get (reaches ++ new ∷ []) slot ≡ Some reach → IsReach edges members slot reach
right_push edges members reaches new right last slot reach is = elim (get_push reaches new slot reach is) [
  | inl before ↦ right slot reach before
  | inr here ↦ subst (λ s. IsReach edges members s reach) (sym here.0) (subst (IsReach edges members (length reaches)) here.1 last)
]

-- what was renewed by some rows, and what is still the old
pub record Renewing (edges : List Edge) (members : List Member) (old reaches : List ReachOf) (rows : List (ℕ × List (ℕ × ℕ))) : Type 0 where
  pub each_member : length reaches ≡ length members
  pub either : (slot : ℕ) (reach : ReachOf) → slice_get reaches slot ≡ Some reach
      → IsReach edges members slot reach ⊎ ((slice_get old slot ≡ Some reach) × ((row : List (ℕ × ℕ)) → Contains rows (slot, row) → ⊥))

pub renewing_none : (edges : List Edge) (members : List Member) (old reaches : List ReachOf) → reaches ≡ old → length old ≡ length members → Renewing edges members old reaches []
renewing_none edges members old reaches same each = record {
  each_member = ap length same ∙ each;
  either = λ slot reach is. inr (sym (ap (λ xs. slice_get xs slot) same) ∙ is, λ row member. omega arith);
}

get_set : (reaches : List ReachOf) (s : ℕ) (new : ReachOf) (slot : ℕ) (reach : ReachOf) → slice_get (set reaches s new) slot ≡ Some reach
    → ((slot ≡ s) × (new ≡ reach)) ⊎ ((slot ≢ s) × (slice_get reaches slot ≡ Some reach))
get_set [] s new slot reach is = absurd (none-some reach is)
get_set (first ∷ reaches) zero new zero reach is = inl (refl, same_Some new reach is)
get_set (first ∷ reaches) zero new (suc slot) reach is = inr (λ same. (let h : suc slot ≡ 0 = same in omega arith), is)
get_set (first ∷ reaches) (suc s) new zero reach is = inr (λ same. (let h : 0 ≡ suc s = same in omega arith), is)
get_set (first ∷ reaches) (suc s) new (suc slot) reach is = elim (get_set reaches s new slot reach is) [
  | inl here ↦ inl (ap suc here.0, here.1)
  | inr other ↦ inr (λ same. other.0 (let h : suc slot ≡ suc s = same in omega arith), other.1)
]

pub renewing_more : (edges : List Edge) (members : List Member) (old reaches : List ReachOf) (rows : List (ℕ × List (ℕ × ℕ))) (s : ℕ) (row : List (ℕ × ℕ)) (new : ReachOf) → IsReach edges members s new
    → Renewing edges members old reaches rows → Renewing edges members old (set reaches s new) (rows ++ (s, row) ∷ [])
renewing_more edges members old reaches rows s row new right renewing = record {
  each_member = length-set reaches s new ∙ renewing.each_member;
  either = λ slot reach is. elim (get_set reaches s new slot reach is) [
    | inl here ↦ inl (subst (λ k. IsReach edges members k reach) (sym here.0) (subst (IsReach edges members s) here.1 right))
    | inr other ↦ elim (renewing.either slot reach other.1) [
      | inl renewed ↦ inl renewed
      | inr kept ↦ inr (
        kept.0,
        λ given member. elim (Contains-push_cases rows (s, row) (slot, given) member) [
          | inl before ↦ kept.1 given before
          | inr same ↦ other.0 (sym (ap (λ (pair : ℕ × List (ℕ × ℕ)). pair.0) same))
        ],
      )
    ]
  ];
}

pub renewed_all : (before edges : List Edge) (members : List Member) (old reaches : List ReachOf) (rows : List (ℕ × List (ℕ × ℕ))) → IsView before members old → AreRenewals before edges members rows
    → Renewing edges members old reaches rows → IsView edges members reaches
renewed_all before edges members old reaches rows view renewals renewing = record {
  distinct = view.distinct;
  each_member = renewing.each_member;
  right = λ slot reach is. elim (renewing.either slot reach is) [
    | inl renewed ↦ renewed
    | inr kept ↦
        let was = view.right slot reach kept.0 in
        let same = renewals.others slot kept.1 in
        record { costs = λ to. was.costs to ∙ same to; ranking = ranking_same members (slot_cost before members slot) (slot_cost edges members slot) reach.ranked same was.ranking }
  ];
}

pub ranking_none : (edges : List Edge) (members : List Member) (slot : ℕ) → router_at members slot ≡ None → IsRanking members (slot_cost edges members slot) []
ranking_none edges members slot none = record {
  reached = λ to. (λ member. absurd (Contains-none to member), λ some. absurd (false≢true (subst IsSome (cost_none_from edges members slot to none) some)));
  nearest_first = λ i j d less within. absurd (omega arith);
}

-- ---- steps of the code

-- what a reach is seen as, at its slot
pub value_at : {A : Type 0} (items : List A) (value : A → ReachOf) (slot : ℕ) (item : A) → slice_get items slot ≡ Some item → slice_get (map value items) slot ≡ Some (value item)
value_at items value slot item is = slice_get-map value items slot ∙ ap (option_map value) is

pub each_step : (edges : List Edge) (members : List Member) (reaches after : List ReachOf) (i : ℕ) (member : Member) (new : ReachOf) → length reaches ≡ i → i < length members → member ≡ get_or members i member
    → ((slot : ℕ) → router_at members slot ≡ Some member.router → IsReach edges members slot new) → after ≡ reaches ++ new ∷ []
    → ((slot : ℕ) (reach : ReachOf) → slice_get reaches slot ≡ Some reach → IsReach edges members slot reach)
    → (length after ≡ i + 1) × ((slot : ℕ) (reach : ReachOf) → slice_get after slot ≡ Some reach → IsReach edges members slot reach)
each_step edges members reaches after i member new count within read of_router is right = (
  (let n = ap length is in let m = length-append reaches (new ∷ []) in omega arith),
  λ slot reach at. right_push edges members reaches new right (of_router (length reaches) (router_there members (length reaches) member (omega arith) (subst (λ k. member ≡ get_or members k member) (sym count) read)))
      slot reach (subst (λ xs. slice_get xs slot ≡ Some reach) is at),
)

pub renewing_step : (edges : List Edge) (members : List Member) (old reaches after : List ReachOf) (rows : List (ℕ × List (ℕ × ℕ))) (i : ℕ) (given : ℕ × List (ℕ × ℕ)) (new : ReachOf) → i < length rows
    → given ≡ get_or rows i given → IsReach edges members given.0 new → after ≡ set reaches given.0 new → Renewing edges members old reaches (take i rows) → Renewing edges members old after (take (i + 1) rows)
renewing_step edges members old reaches after rows i given new within read right is renewing =
    rw is (subst (Renewing edges members old (set reaches given.0 new)) (sym (take_more rows i given within ∙ ap (λ (g : ℕ × List (ℕ × ℕ)). take i rows ++ g ∷ []) (sym read)))
    (renewing_more edges members old reaches (take i rows) given.0 given.1 new right renewing))
