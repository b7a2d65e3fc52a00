-- How the parts of a shard belong together.
use Rattle.std.specs.Prelude.{◌≡◌, ℕ, ◌<◌, ◌≤◌, true, List, length, Some, IsSome}
use Rattle.std.specs.FinSet as set_of
use Rattle.rcp_base.specs.IpPrefix.{IpPrefix}
use Rattle.rcp_model.specs.Routes.{RouteFields, is_usable}
use Rattle.cost_rows.specs.Views.{ViewOf}
use Rattle.pending_marks.specs.Marks.{MarksOf, is_marked}
use Rattle.pending_marks.specs.Marks as marks
use Rattle.adj_ribs.specs.Bases.{Bases, announced_at, given_at, is_opened}
use Rattle.rcs_shard.specs.Slots.{SlotsOf}
use Rattle.rcs_shard.specs.Shards.{ShardOf}
use Rattle.rcs_shard.specs.Settling.{AreSeated, AreClasses}

-- what contracts see of a shard with these parts
abbrev pub shard_in : ℕ → ℕ → ViewOf → SlotsOf → Bases → MarksOf → ShardOf
shard_in number shards view connected bases pending = record {
  number = number;
  shards = shards;
  members = view.members;
  ribs = record {
    connected = connected.inside;
    announced = bases.announced;
    given = bases.given;
    pending = pending.marked;
    edges = view.edges;
  };
  dirty = bases.dirty;
}

-- each prefix that is announced is opened among the marks
abbrev pub AreMarkable : Bases → MarksOf → Type 0
AreMarkable bases pending = (slot : ℕ) (p : IpPrefix) → IsSome (announced_at bases slot p) → marks.is_opened pending p ≡ true

-- each prefix that is announced has cells
abbrev pub AreOpened : Bases → Type 0
AreOpened bases = (slot : ℕ) (p : IpPrefix) → IsSome (announced_at bases slot p) → is_opened bases p ≡ true

-- each marked prefix has cells
abbrev pub HaveCells : Bases → MarksOf → Type 0
HaveCells bases pending = (p : IpPrefix) → is_marked pending p ≡ true → is_opened bases p ≡ true

-- each route that is given can be offered
abbrev pub AreUsable : Bases → Type 0
AreUsable bases = (slot : ℕ) (p : IpPrefix) (route : RouteFields) → given_at bases slot p ≡ Some route → is_usable route ≡ true

-- a slot that is connected is a member's
abbrev pub AreMembers : SlotsOf → Type 0
AreMembers connected = (slot : ℕ) → set_of.contains connected.inside slot ≡ true → slot < connected.members

pub record IsJoined (number shards : ℕ) (view : ViewOf) (connected : SlotsOf) (bases : Bases) (pending : MarksOf) : Type 0 where
  pub some_shard : 1 ≤ shards
  pub slots : connected.members ≡ length view.members
  pub cells : bases.members ≡ length view.members
  pub connected_are : AreMembers connected
  pub seated : AreSeated bases (length view.members)
  pub opened : AreOpened bases
  pub markable : AreMarkable bases pending
  pub marked : HaveCells bases pending
  pub usable : AreUsable bases

-- the classes of the members, and a place for each member
pub record ArePlaces (view : ViewOf) (classes : List ℕ) (list from marks tied : ℕ) : Type 0 where
  pub classes_are : AreClasses view classes
  pub list_is : list ≡ length view.members
  pub from_is : from ≡ length view.members
  pub marks_is : marks ≡ length view.members
  pub tied_is : tied ≡ length view.members
