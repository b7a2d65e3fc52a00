-- The shards before any event.
use Rattle.std.specs.Prelude.{◌≡◌, ℕ, ◌<◌, List, length, Some, slice_get}
use Rattle.rcp_base.specs.Roster.{RosterOf}
use Rattle.rcp_base.specs.declared.names.Edge.{Edge}
use Rattle.rcs_shard.specs.Shards.{ShardOf, new_shard}

-- so many first shards of a roster, each of its number
pub record AreNew (roster : RosterOf) (edges : List Edge) (count : ℕ) (shards : List ShardOf) : Type 0 where
  pub long : length shards ≡ count
  pub each : (n : ℕ) → n < count → slice_get shards n ≡ Some (new_shard n roster.shards roster.members edges)
