-- Interior costs: the least sum over all walks of edges, and partitions.
use Rattle.std.specs.Prelude.{◌≡◌, ℕ, ◌+◌, ◌≤◌, Bool, ◌&&◌, ◌==◌, List, [], ◌∷◌, min, Contains, Option, Some, None, is_some, MatchOption, if◌then◌else◌}
use Rattle.std.specs.List.{list_any}
use Rattle.rcp_base.specs.declared.names.Edge.{Edge}

-- a walk of edges from u to v, whose costs add up to the sum
pub data Walk (edges : List Edge) : ℕ → ℕ → ℕ → Type 0 where
  stay : (u : ℕ) → Walk edges u u 0
  step : (edge : Edge) (v sum : ℕ) → Contains edges edge → Walk edges edge.to v sum → Walk edges edge.from v (edge.cost + sum)

-- a cost is the sum of some walk, and no walk has a lower one; there is none where there is no walk
abbrev pub IsCost : List Edge → ℕ → ℕ → Option ℕ → Type 0
IsCost edges u v cost = MatchOption cost ((sum : ℕ) → Walk edges u v sum → ⊥) (λ c. Walk edges u v c × ((sum : ℕ) → Walk edges u v sum → c ≤ sum))

-- ---- the cost, computed

-- the lesser of two costs, and the cost of one way after another
abbrev pub lesser : Option ℕ → Option ℕ → Option ℕ
lesser None b = b
lesser (Some a) None = Some a
lesser (Some a) (Some b) = Some (min a b)

abbrev pub joined : Option ℕ → Option ℕ → Option ℕ
joined None b = None
joined (Some a) None = None
joined (Some a) (Some b) = Some (a + b)

-- the least cost of an edge from u to v
abbrev pub edge_cost : List Edge → ℕ → ℕ → Option ℕ
edge_cost [] u v = None
edge_cost (edge ∷ edges) u v =
    if edge.from == u && edge.to == v then lesser (Some edge.cost) (edge_cost edges u v) else edge_cost edges u v

-- the least cost of a way that enters only these routers before it ends
unfoldable pub cost_through : List Edge → List ℕ → ℕ → ℕ → Option ℕ
cost_through edges [] u v = if u == v then Some 0 else edge_cost edges u v
cost_through edges (w ∷ routers) u v =
    lesser (cost_through edges routers u v) (joined (cost_through edges routers u w) (cost_through edges routers w v))

-- the routers that some edge enters, each once
abbrev pub entered : List Edge → List ℕ
entered [] = []
entered (edge ∷ edges) = if list_any (λ router. router == edge.to) (entered edges) then entered edges else edge.to ∷ entered edges

-- the least sum over all walks from u to v
abbrev pub cost : List Edge → ℕ → ℕ → Option ℕ
cost edges u v = cost_through edges (entered edges) u v

-- whether v is in the partition of u: there is a walk
abbrev pub is_reached : List Edge → ℕ → ℕ → Bool
is_reached edges u v = is_some (cost edges u v)

-- each edge has one in the other direction, of any cost
abbrev pub IsTwoWay : List Edge → Type 0
IsTwoWay edges = (edge : Edge) → Contains edges edge → (back : Edge) × Contains edges back × (back.from ≡ edge.to) × (back.to ≡ edge.from)
