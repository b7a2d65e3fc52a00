-- How the cells of a prefix are decided: the candidates of the slots that reach the same ones, and the cells that are set.
use Rattle.std.specs.Prelude.{◌≡◌, ℕ, ◌<◌, ◌≤◌, Bool, not, ◌&&◌, ◌||◌, ◌==◌, List, length, Option, Some, None, IsSome, is_some, slice_get, slice_index, slice_index_or, nat_lt, if◌then◌else◌}
use Rattle.std.specs.FinMap as map_of
use Rattle.std.specs.FinSet as set_of
use Rattle.rcp_base.specs.IpPrefix.{IpPrefix}
use Rattle.rcp_base.specs.Maps.{same_prefix}
use Rattle.rcp_model.specs.Routes.{RouteFields}
use Rattle.rcp_model.specs.Ribs.{RibKey}
use Rattle.rcp_model.specs.Decision.{Contender}
use Rattle.rcp_model.specs.RouteServer.{slot_cost}
use Rattle.rcp_model.specs.ServerRibs.{Values, same_route, same_values, route_reader, contenders_from, offer_of, at_prefix}
use Rattle.cost_rows.specs.Views.{ViewOf}
use Rattle.adj_ribs.specs.Bases.{Bases, announced_at, IsAnnouncer}

-- ---- candidates

-- the candidates of a slot among the announcements of a prefix, in roster order
abbrev pub candidates_at : Bases → ViewOf → IpPrefix → ℕ → List Contender
candidates_at bases view p slot =
    contenders_from (λ route. route) (at_prefix bases.announced p) (slot_cost view.edges view.members slot) 0 view.members

-- what each slot is offered at a prefix
abbrev pub offers_at : Bases → ViewOf → IpPrefix → Values RouteFields
offers_at bases view p = offer_of (route_reader view.members) (at_prefix bases.announced p) view.edges

-- each announcement is of a member
abbrev pub AreSeated : Bases → ℕ → Type 0
AreSeated bases count = (slot : ℕ) (p : IpPrefix) → IsSome (announced_at bases slot p) → slot < count

-- the announcer of a slot at a prefix stands at its place in a list
pub record IsKept (bases : Bases) (p : IpPrefix) (from : List (Option (ℕ × ℕ))) (slot : ℕ) : Type 0 where
  pub number : ℕ
  pub here : slice_get from slot ≡ Some (Some (slot, number))
  pub announces : IsAnnouncer bases p (slot, number)

-- the announcer of an egress, unless that is the slot itself
abbrev pub chosen_from : ℕ → Option ℕ → List (Option (ℕ × ℕ)) → Option (ℕ × ℕ)
chosen_from slot None from = None
chosen_from slot (Some e) from = if e == slot then None else slice_index_or from e None

-- ---- classes

-- the class of a slot: the number of a slot that reaches the same members
abbrev pub class_at : List ℕ → ℕ → ℕ
class_at classes slot = slice_index classes slot

-- two slots reach the same members
abbrev pub ReachAlike : ViewOf → ℕ → ℕ → Type 0
ReachAlike view a b = (e : ℕ) → is_some (slot_cost view.edges view.members a e) ≡ is_some (slot_cost view.edges view.members b e)

-- what holds of the class of a slot: it isn't above the slot, is its own class, and reaches the same members
pub record IsClass (view : ViewOf) (classes : List ℕ) (slot : ℕ) : Type 0 where
  pub low : class_at classes slot ≤ slot
  pub own : class_at classes (class_at classes slot) ≡ class_at classes slot
  pub alike : ReachAlike view slot (class_at classes slot)

-- the classes of all members
pub record AreClasses (view : ViewOf) (classes : List ℕ) : Type 0 where
  pub each_member : length classes ≡ length view.members
  pub right : (slot : ℕ) → slot < length view.members → IsClass view classes slot

-- whether a slot has this class
abbrev pub is_in_class : List ℕ → ℕ → ℕ → Bool
is_in_class classes class slot = nat_lt slot (length classes) && class_at classes slot == class

-- ---- cells

-- The cells of some slots at a prefix have their values now, and dirty are also those of them that had another value.
-- All else is as before.
pub record Settles (p : IpPrefix) (values : Values RouteFields) (which : ℕ → Bool) (before now : Bases) : Type 0 where
  pub given : (key : RibKey) → map_of.get now.given key ≡ (if same_prefix key.0 p && which key.1 then values key.1 else map_of.get before.given key)
  pub dirty : (key : RibKey) → set_of.contains now.dirty key
      ≡ (set_of.contains before.dirty key || (same_prefix key.0 p && which key.1) && not (same_values same_route (map_of.get before.given key) (values key.1)))
  pub rest : now ≡ record before { given = now.given; dirty = now.dirty; cell_numbers = now.cell_numbers }
