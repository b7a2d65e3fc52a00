use Rattle.std.proofs.Common.{◌≡◌, ℕ, ◌+◌, ◌-◌, ◌^◌, min, length, map}
use Rattle.shard_worker.specs.Ends.{port_of}
use Rattle.shard_worker.specs.Turns.{put_count}
use Rattle.shard_worker.proofs.OfferingLemmas.{IsOffering, StopsBelow}
use Rattle.shard_worker.proofs.offering.put_offers.Given as goal

-- so many were put in all
pub record HasCounted (count before now : ℕ) : Type 0 where
  pub exact : ℕ
  pub more : now ≡ before + exact
  pub counted_is : count ≡ min exact (2 ^ 64 - 1)

abbrev pub invariant-loop-slot : goal.invariant-loop-slot
invariant-loop-slot g l =
    IsOffering l.slot l.fn.running l.running (map port_of l.fn.senders) (map port_of l.senders)
    × StopsBelow l.slot l.running.shard (map port_of l.fn.senders) (map port_of l.senders)
    × HasCounted l.count (put_count (map port_of l.fn.senders)) (put_count (map port_of l.senders))
    × (l.slot-end ≡ length l.fn.running.shard.members)
