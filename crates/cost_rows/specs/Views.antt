-- Views: a graph, the members of a roster, and what each member reaches at which cost.
use Rattle.std.specs.Prelude.{◌≡◌, ℕ, ◌<◌, ◌↔◌, List, length, map, slice_get, slice_index, slice_index_or, All, AllPairs, Contains, IsTrue, Option, Some, None, IsSome}
use Rattle.rcp_base.specs.declared.names.Member.{Member}
use Rattle.rcp_base.specs.declared.names.Edge.{Edge}
use Rattle.rcp_base.specs.Maps.{get_at}
use Rattle.rcp_model.specs.LinkState.{same_number}
use Rattle.rcp_model.specs.RouteServer.{slot_cost}
use Rattle.rcp_model.specs.Decision.{is_lower_pair}
use Rattle.rcp_model.specs.Graphs.{AreMembers}
use Rattle.cost_rows.specs.Engines.{cost_from}

-- what contracts see of a view
pub record ViewOf : Type 0 where
  pub edges : List Edge
  pub members : List Member

-- the BGP Identifier of a slot's router
abbrev pub identifier_at : List Member → ℕ → ℕ
identifier_at members slot = slice_index (map (λ (member : Member). member.bgp_id) members) slot

-- whether a slot is nearer than another: by cost, then by BGP Identifier
abbrev pub is_nearer_slot : List Member → (ℕ → Option ℕ) → ℕ → ℕ → Type 0
is_nearer_slot members cost a b = IsTrue (is_lower_pair (cost a) (identifier_at members a) (cost b) (identifier_at members b))

-- a ranking: exactly the slots that are reached, each nearer than those after it
pub record IsRanking (members : List Member) (cost : ℕ → Option ℕ) (ranked : List ℕ) : Type 0 where
  pub reached : (slot : ℕ) → Contains ranked slot ↔ IsSome (cost slot)
  pub nearest_first : AllPairs (is_nearer_slot members cost) ranked

-- what a member reaches: the cost to each slot, and the ranking
pub record ReachOf : Type 0 where
  pub costs : List (Option ℕ)
  pub ranked : List ℕ

-- the cost to a slot, of costs by slot
abbrev pub cost_at : List (Option ℕ) → ℕ → Option ℕ
cost_at costs slot = slice_index_or costs slot None

pub record IsReach (edges : List Edge) (members : List Member) (slot : ℕ) (reach : ReachOf) : Type 0 where
  pub costs : (to : ℕ) → cost_at reach.costs to ≡ slot_cost edges members slot to
  pub ranking : IsRanking members (slot_cost edges members slot) reach.ranked

-- what each view keeps: for each member what it reaches
pub record IsView (edges : List Edge) (members : List Member) (reaches : List ReachOf) : Type 0 where
  pub distinct : AreMembers members
  pub each_member : length reaches ≡ length members
  pub right : (slot : ℕ) (reach : ReachOf) → slice_get reaches slot ≡ Some reach → IsReach edges members slot reach

-- rows for a view's renewal: those given are of members and are the costs over the new edges, and the costs from each other slot stay
pub record AreRenewals (before after : List Edge) (members : List Member) (rows : List (ℕ × List (ℕ × ℕ))) : Type 0 where
  pub seated : All (λ given. given.0 < length members) rows
  pub given : All (λ given. (router : ℕ) → get_at same_number router given.1 ≡ cost_from after members given.0 router) rows
  pub others : (slot : ℕ) → ((row : List (ℕ × ℕ)) → Contains rows (slot, row) → ⊥) → (to : ℕ) → slot_cost before members slot to ≡ slot_cost after members slot to
