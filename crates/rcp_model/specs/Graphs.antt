-- Graphs: the edges of an interior network as they are kept, and the costs over them as they are listed.
use Rattle.std.specs.Prelude.{◌≡◌, ◌≢◌, ℕ, ◌<◌, ◌≤◌, not, ◌==◌, List, [], ◌∷◌, length, filter, All, AllPairs, IsTrue, if◌then◌else◌}
use Rattle.std.specs.List.{list_any}
use Rattle.rcp_base.specs.declared.names.Member.{Member}
use Rattle.rcp_base.specs.declared.names.Edge.{Edge}
use Rattle.rcp_base.specs.Maps.{get_at}
use Rattle.rcp_model.specs.LinkState.{same_number}
use Rattle.rcp_model.specs.Edges.{same_edge, is_edge_before}
use Rattle.rcp_model.specs.Costs.{cost}

-- a router put in front of those that are there, unless it is one of them
abbrev pub include_router : ℕ → List ℕ → List ℕ
include_router router routers = if list_any (λ other. other == router) routers then routers else router ∷ routers

-- the routers at which some edge begins or ends, each once
abbrev pub routers_in : List Edge → List ℕ
routers_in [] = []
routers_in (edge ∷ edges) = include_router edge.from (include_router edge.to (routers_in edges))

-- how many routers a graph may have, and the highest cost of an edge
abbrev pub most_graph_routers : ℕ
most_graph_routers = 2560

abbrev pub highest_cost : ℕ
highest_cost = 65535

-- what each graph keeps: the edges by from, to and cost, each once, of few routers and with costs of 16 bits
pub record IsGraph (edges : List Edge) : Type 0 where
  pub rising : AllPairs (λ a b. IsTrue (is_edge_before a b)) edges
  pub few : length (routers_in edges) ≤ most_graph_routers
  pub cheap : All (λ edge. edge.cost ≤ highest_cost) edges

-- the edges without one
abbrev pub exclude_edge : Edge → List Edge → List Edge
exclude_edge a edges = filter (λ b. not (same_edge a b)) edges

-- the edges that begin at a router
abbrev pub edges_from : ℕ → List Edge → List Edge
edges_from router edges = filter (λ edge. edge.from == router) edges

-- a list of costs from one router: a pair for each router that is reached, by rising ID
pub record IsCostRow (edges : List Edge) (root : ℕ) (row : List (ℕ × ℕ)) : Type 0 where
  pub rising : AllPairs (λ a b. a.0 < b.0) row
  pub exact : (v : ℕ) → get_at same_number v row ≡ cost edges root v

-- what is asked of the members of a view: few, with distinct routers and distinct BGP Identifiers
pub record AreMembers (members : List Member) : Type 0 where
  pub few : length members ≤ 512
  pub routers : AllPairs (λ a b. a.router ≢ b.router) members
  pub identifiers : AllPairs (λ a b. a.bgp_id ≢ b.bgp_id) members
