use Rattle.std.proofs.Common.{◌≡◌, ℕ, ◌+◌, ◌-◌, ◌^◌, min, length}
use Rattle.rcs_shard.specs.Shards.{ShardOf}
use Rattle.shard_worker.specs.Offers.{dirty_of}
use Rattle.shard_worker.specs.Ends.{PortOf, port_of}
use Rattle.shard_worker.specs.Turns.{HasPut}
use Rattle.shard_worker.proofs.offering.put_dirty.Given as goal

-- so many were put, and none refused
pub record IsPutting (generation slot count : ℕ) (before now : ShardOf) (old new : PortOf) : Type 0 where
  pub exact : ℕ
  pub put : HasPut generation slot exact before now old new
  pub more : length new.put ≡ length old.put + exact
  pub counted_is : count ≡ min exact (2 ^ 64 - 1)
  pub unrefused : new.refusals ≡ old.refusals

abbrev pub invariant-loop-p : goal.invariant-loop-p
invariant-loop-p g l = IsPutting l.generation l.slot l.count l.fn.shard l.shard (port_of l.fn.sender) (port_of l.sender)

abbrev pub decreases-loop-p : goal.decreases-loop-p
decreases-loop-p g l = length (dirty_of l.shard l.slot)
