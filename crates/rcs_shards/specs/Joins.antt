-- How the parts of all shards belong together.
use Rattle.std.specs.Prelude.{◌≡◌, ℕ, ◌<◌, ◌≤◌, true, List, length, Some, slice_get}
use Rattle.std.specs.FinSet as set_of
use Rattle.rcp_base.specs.Roster.{RosterOf}
use Rattle.cost_rows.specs.Views.{ViewOf}
use Rattle.rcs_shard.specs.Shards.{ShardOf}
use Rattle.rcs_shards.specs.Dirty.{ribs_in}
use Rattle.rcs_shards.specs.Servers.{ServerOf, IsSoundServer, connected_in, edges_in}

-- what contracts see of these shards
abbrev pub server_of : RosterOf → List ShardOf → ServerOf
server_of roster shards = record { roster = roster; shards = ribs_in shards }

-- the shard of a number of a roster, in which no cell is dirty
pub record IsPlaced (roster : RosterOf) (number : ℕ) (shard : ShardOf) : Type 0 where
  pub number_is : shard.number ≡ number
  pub shards_are : shard.shards ≡ roster.shards
  pub members_are : shard.members ≡ roster.members
  pub clean : shard.dirty ≡ set_of.empty

-- each shard stands at the place of its number
abbrev pub ArePlaced : RosterOf → List ShardOf → Type 0
ArePlaced roster shards = (n : ℕ) (shard : ShardOf) → slice_get shards n ≡ Some shard → IsPlaced roster n shard

-- the slot is a member's
abbrev pub IsSeat : RosterOf → ℕ → Type 0
IsSeat roster slot = slot < length roster.members

-- The shards are those of the roster, sound, and each has the edges of the view; and how many slots are connected is known.
pub record AreTogether (roster : RosterOf) (view : ViewOf) (count : ℕ) (shards : List ShardOf) : Type 0 where
  pub placed : ArePlaced roster shards
  pub sound : IsSoundServer (server_of roster shards)
  pub seats : (slot : ℕ) → set_of.contains (connected_in (ribs_in shards)) slot ≡ true → IsSeat roster slot
  pub few : length roster.members ≤ 512
  pub members : view.members ≡ roster.members
  pub edges : view.edges ≡ edges_in (ribs_in shards)
  pub counted : count ≡ set_of.len (connected_in (ribs_in shards))
