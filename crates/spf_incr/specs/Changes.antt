-- Changes of one edge: when the costs from a root stay, and what they are otherwise.
use Rattle.std.specs.Prelude.{◌≡◌, ℕ, ◌+◌, ◌<◌, ◌≤◌, ◌⊎◌, List, map, filter_map, zip, min, slice_get, slice_index_or, Contains, Option, Some, None, IsSomeAnd, if◌then◌else◌, Bool, true, false}
use Rattle.rcp_base.specs.declared.names.Edge.{Edge}
use Rattle.rcp_model.specs.Costs.{lesser}
use Rattle.rcp_model.specs.RouteServer.{same_cost}
use Rattle.cost_rows.specs.Search.{IsFound}
use Rattle.spf_incr.specs.declared.way.Hop.{Hop}
use Rattle.spf_incr.specs.declared.way.Way.{Way}
use Rattle.spf_incr.specs.declared.way.Way.TheVariants as way

-- edges with one more
pub record IsWith (edges : List Edge) (edge : Edge) (more : List Edge) : Type 0 where
  pub added : Contains more edge
  pub kept : (e : Edge) → Contains edges e → Contains more e
  pub no_other : (e : Edge) → Contains more e → (edge ≡ e) ⊎ Contains edges e

-- an edge by the places of its ends among names
pub record IsHop (names : List ℕ) (edge : Edge) (hop : Hop) : Type 0 where
  pub begins : slice_get names hop.from ≡ Some edge.from
  pub ends : slice_get names hop.to ≡ Some edge.to
  pub cost : hop.cost ≡ edge.cost

-- the cost at a place of a row
abbrev pub at_place : List (Option ℕ) → ℕ → Option ℕ
at_place row place = slice_index_or row place None

-- the edge leads to its end at the least cost of all
abbrev pub IsTight : List (Option ℕ) → Hop → Type 0
IsTight row hop = (n : ℕ) × (at_place row hop.from ≡ Some n) × (at_place row hop.to ≡ Some (n + hop.cost))

-- the edge leads to its end at no lower cost than is found
abbrev pub IsNotLower : List (Option ℕ) → Hop → Type 0
IsNotLower row hop = (n : ℕ) → at_place row hop.from ≡ Some n → IsSomeAnd (at_place row hop.to) (λ m. m ≤ n + hop.cost)

-- an edge that came or went is such that a row stays as it is
abbrev pub IsStill : Hop → Bool → List (Option ℕ) → Type 0
IsStill hop true row = IsNotLower row hop
IsStill hop false row = IsTight row hop → ⊥

-- a change for which a row stays as it is
abbrev pub IsUntouched : Way → List (Option ℕ) → Type 0
IsUntouched way.Anew row = ⊥
IsUntouched (way.Removed hop) row = IsStill hop false row
IsUntouched (way.Added hop ends) row = IsStill hop true row

-- what a way of change says of the edges before and after
abbrev pub IsWay : List Edge → List Edge → List ℕ → Way → Type 0
IsWay before after names way.Anew = Unit {0}
IsWay before after names (way.Removed hop) = (edge : Edge) × IsHop names edge hop × IsWith after edge before
IsWay before after names (way.Added hop ends) = (edge : Edge) × IsHop names edge hop × IsWith before edge after × IsFound after names edge.to ends.items

-- the edge of a change is at places below a number
abbrev pub IsHopWithin : Way → ℕ → Type 0
IsHopWithin way.Anew count = Unit {0}
IsHopWithin (way.Removed hop) count = (hop.from < count) × (hop.to < count)
IsHopWithin (way.Added hop ends) count = (hop.from < count) × (hop.to < count)

-- the largest number of four octets, at which sums stay
abbrev pub capped_sum : ℕ → ℕ → ℕ
capped_sum a b = min (a + b) 4294967295

-- the cost over an edge's beginning and the edge, and then from its end on
abbrev pub sum_over : Option ℕ → Option ℕ → Option ℕ
sum_over None b = None
sum_over (Some a) None = None
sum_over (Some a) (Some b) = Some (capped_sum a b)

-- the lower of the costs found and of those over an edge
abbrev pub lowered : Option ℕ → List (Option ℕ) → List (Option ℕ) → List (Option ℕ)
lowered through row ends = map (λ (pair : Option ℕ × Option ℕ). lesser pair.0 (sum_over through pair.1)) (zip row ends)

-- the pair of a slot and a router, where the cost between them isn't the same
abbrev pub changed_pair : ℕ → ℕ → Option ℕ → Option ℕ → Option (ℕ × ℕ)
changed_pair slot router old new = if same_cost old new then None else Some (slot, router)

abbrev pub changed_pairs : ℕ → List ℕ → List (Option ℕ) → List (Option ℕ) → List (ℕ × ℕ)
changed_pairs slot names old new =
    filter_map (λ (entry : ℕ × (Option ℕ × Option ℕ)). changed_pair slot entry.0 entry.1.0 entry.1.1) (zip names (zip old new))
