-- The edges of the interior network (RFC 2328 section 16.1): what the link state and the roster give.
use Rattle.std.specs.Prelude.{ℕ, Bool, ◌&&◌, ◌||◌, ◌==◌, List, [], ◌∷◌, ◌++◌, min, Option, Some, None, is_some, nat_lt, if◌then◌else◌}
use Rattle.std.specs.List.{flat_map}
use Rattle.rcp_base.specs.declared.names.Edge.{Edge}
use Rattle.rcp_model.specs.LinkState.{RouterLink, Kept, LinkState}

-- the link type of a point-to-point link to another router (section 12.4.1.1)
abbrev pub POINT_TO_POINT : ℕ
POINT_TO_POINT = 1

abbrev pub least : ℕ → Option ℕ → ℕ
least n None = n
least n (Some m) = min n m

-- the least metric of point-to-point links to a router
abbrev pub metric_to : ℕ → List RouterLink → Option ℕ
metric_to router [] = None
metric_to router (link ∷ links) =
    if link.kind == POINT_TO_POINT && link.id == router
    then Some (least link.metric (metric_to router links))
    else metric_to router links

-- the edge from one router to another where each lists the other
abbrev pub two_way : Kept → Kept → List Edge
two_way u v = elim (metric_to v.lsa.key u.lsa.content) [
  | None ↦ []
  | Some cost ↦ if is_some (metric_to u.lsa.key v.lsa.content) then record { from = u.lsa.key; to = v.lsa.key; cost = cost } ∷ [] else []
]

abbrev pub learned : LinkState → List Edge
learned state = flat_map (λ u. flat_map (λ v. two_way u.1 v.1) state.routers) state.routers

-- ---- sorted, each once

abbrev pub same_edge : Edge → Edge → Bool
same_edge a b = a.from == b.from && a.to == b.to && a.cost == b.cost

-- by from, then to, then cost
abbrev pub is_edge_before : Edge → Edge → Bool
is_edge_before a b =
    nat_lt a.from b.from || a.from == b.from && (nat_lt a.to b.to || a.to == b.to && nat_lt a.cost b.cost)

abbrev pub include_edge : Edge → List Edge → List Edge
include_edge a [] = a ∷ []
include_edge a (b ∷ bs) = if same_edge a b then b ∷ bs else (if is_edge_before a b then a ∷ b ∷ bs else b ∷ include_edge a bs)

abbrev pub rising_edges : List Edge → List Edge
rising_edges [] = []
rising_edges (a ∷ edges) = include_edge a (rising_edges edges)

-- the edges of the link state and those of the roster
unfoldable pub edges_of : LinkState → List Edge → List Edge
edges_of state fixed = rising_edges (learned state ++ fixed)
