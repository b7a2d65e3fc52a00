-- A search for the least costs from one router: what it has found, and what is still to be done.
use Rattle.std.specs.Prelude.{◌≡◌, ℕ, ◌+◌, ◌*◌, ◌^◌, ◌≤◌, ◌⊎◌, ◌==◌, List, [], ◌∷◌, ◌++◌, length, slice_get, slice_index_or, slice_set, Contains, IsPermutation, Option, Some, None, IfSome, IsSomeAnd, sum_by, map, filter_map, zip, take, drop, option_map, if◌then◌else◌}
use Rattle.std.specs.List.{AllZip}
use Rattle.std.specs.List.Sorted.{IsStrictlyIncreasing}
use Rattle.std.specs.declared.cmp.Reverse.{Reverse}
use Rattle.rcp_base.specs.declared.names.Edge.{Edge}
use Rattle.rcp_model.specs.Costs.{Walk, cost}
use Rattle.rcp_model.specs.Graphs.{edges_from}

-- the cost found for a router, where names and costs stand at the same places
abbrev pub found_at : List ℕ → List (Option ℕ) → ℕ → Option ℕ
found_at [] least v = None
found_at (name ∷ names) [] v = None
found_at (name ∷ names) (found ∷ least) v = if name == v then found else found_at names least v

-- no cost beside any name
abbrev pub nothing_found : List ℕ → List (Option ℕ)
nothing_found names = map (λ name. None) names

-- how many costs are found
abbrev pub counted : Option ℕ → ℕ
counted None = 0
counted (Some n) = 1

abbrev pub found_count : List (Option ℕ) → ℕ
found_count least = sum_by counted least

-- what falls as costs do: none counts as more than any cost
abbrev pub weight : Option ℕ → ℕ
weight None = 2 ^ 32
weight (Some n) = n

-- a router that waits, with the cost that it was found at
abbrev pub Waiting : Type 0
Waiting = Reverse ℕ × ℕ

abbrev pub waits : ℕ → ℕ → Waiting
waits router cost = (record { 0 = cost }, router)

-- how much is left to do: lowering a cost makes it less by more than the router that waits for it
abbrev pub left : List (Option ℕ) → List Waiting → ℕ
left least waiting = 2 * sum_by weight least + length waiting

-- The state of a search. Only edges that are `open`, or whose router waits, may lead to a lower cost.
pub record IsSearch (edges : List Edge) (names : List ℕ) (root : ℕ) (least : List (Option ℕ)) (waiting : List Waiting) (open_edges : List Edge) : Type 0 where
  pub places : length least ≡ length names
  pub own : found_at names least root ≡ Some 0
  pub walks : (v : ℕ) → IfSome (found_at names least v) (Walk edges root v)
  pub bound : (v n : ℕ) → found_at names least v ≡ Some n → n + 65535 ≤ 65535 * found_count least
  pub named : (router cost : ℕ) → Contains waiting (waits router cost) → Contains names router
  pub settled : (edge : Edge) (n : ℕ) → Contains edges edge → found_at names least edge.from ≡ Some n
      → Contains open_edges edge ⊎ (Contains waiting (waits edge.from n) ⊎ IsSomeAnd (found_at names least edge.to) (λ m. m ≤ n + edge.cost))

-- the end of a search: each name has its cost beside it
pub record IsFound (edges : List Edge) (names : List ℕ) (root : ℕ) (least : List (Option ℕ)) : Type 0 where
  pub places : length least ≡ length names
  pub exact : (v : ℕ) → found_at names least v ≡ cost edges root v

-- a lower cost for the router at the end of an edge that begins at a router of this cost
pub record IsLowered (names : List ℕ) (edge : Edge) (cost : ℕ) (least : List (Option ℕ)) (waiting : List Waiting) (new_least : List (Option ℕ)) (new_waiting : List Waiting) : Type 0 where
  pub place : ℕ
  pub at_place : slice_get names place ≡ Some edge.to
  pub lower : IsSomeAnd (slice_index_or least place None) (λ n. n ≤ cost + edge.cost) → ⊥
  pub costs : new_least ≡ slice_set least place (Some (cost + edge.cost))
  pub waiting_too : IsPermutation (waits edge.to (cost + edge.cost) ∷ waiting) new_waiting

-- an edge gone over: its end has no higher cost already, or is given the lower one
abbrev pub IsRelaxed : List ℕ → Edge → ℕ → List (Option ℕ) → List Waiting → List (Option ℕ) → List Waiting → Type 0
IsRelaxed names edge cost least waiting new_least new_waiting =
    (IsSomeAnd (found_at names least edge.to) (λ n. n ≤ cost + edge.cost) × (new_least ≡ least) × (new_waiting ≡ waiting))
    ⊎ IsLowered names edge cost least waiting new_least new_waiting

-- the pairs of the routers that are reached
abbrev pub reached : List ℕ → List (Option ℕ) → List (ℕ × ℕ)
reached names least = filter_map (λ (pair : ℕ × Option ℕ). option_map (λ cost. (pair.0, cost)) pair.1) (zip names least)

-- where the edges begin, and where they end
abbrev pub ends_of : List Edge → List ℕ
ends_of edges = map (λ (edge : Edge). edge.from) edges ++ map (λ (edge : Edge). edge.to) edges

-- the names are those of all routers of the edges, in order
pub record AreNames (edges : List Edge) (names : List ℕ) : Type 0 where
  pub rising : IsStrictlyIncreasing names
  pub ends : (edge : Edge) → Contains edges edge → Contains names edge.from × Contains names edge.to
  pub few : length names ≤ 4096

-- the places of routers among names
abbrev pub ArePlaces : List ℕ → List ℕ → List ℕ → Type 0
ArePlaces names = AllZip (λ router place. slice_get names place ≡ Some router)

-- the places of the routers at which edges end
abbrev pub AreEnds : List ℕ → List Edge → List ℕ → Type 0
AreEnds names = AllZip (λ (edge : Edge) place. slice_get names place ≡ Some edge.to)

-- a run of edges: those that begin at a router
abbrev pub IsRunOf : List Edge → ℕ → ℕ × ℕ → Type 0
IsRunOf edges router run = (run.0 + run.1 ≤ length edges) × (take run.1 (drop run.0 edges) ≡ edges_from router edges)

-- the places of a graph's edges: where each ends, and the run of each name
pub record AreIndexed (edges : List Edge) (names ends : List ℕ) (runs : List (ℕ × ℕ)) : Type 0 where
  pub named : AreNames edges names
  pub ending : AreEnds names edges ends
  pub beginning : AllZip (IsRunOf edges) names runs
