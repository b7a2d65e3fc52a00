-- What the jobs of a daemon work with.
use Rattle.std.specs.Prelude.{◌≡◌, ℕ, ◌<◌, List, length, map, slice_index_or}
use Rattle.mailbox.specs.declared.ends.Sender.{Sender}
use Rattle.mailbox.specs.Boxes.{mailbox_of, mailbox_at}
use Rattle.seats.specs.Ends.{sender_of}
use Rattle.seats.specs.Mails.{Mail}
use Rattle.seats.specs.Seats.{IsNumbered, AreUnused}
use Rattle.shard_worker.specs.Ends.{PortOf}
use Rattle.shard_worker.specs.Workers.{WorkerOf}
use Rattle.daemon_parts.specs.declared.parts.SeatEnds.{SeatEnds}

-- one sender to each shard, with the slot as its number, by which nothing was put
pub record AreOfSlot (slot shards : ℕ) (senders : List (Sender Mail)) : Type 0 where
  pub count : length senders ≡ shards
  pub numbers : IsNumbered slot (map sender_of senders)
  pub unused : AreUnused (map sender_of senders)

-- The worker at a place has the shard of this number. Each seat, and the viewer, puts to the worker's mailbox by the sender at this place, and the worker puts to
-- the mailbox that a slot's seat takes from by its sender at the slot's place.
pub record AreWired (shards slots : ℕ) (workers : List WorkerOf) (seats : List SeatEnds) (viewer : List (Sender Mail)) : Type 0 where
  pub numbers : (shard : ℕ) (worker : WorkerOf) → shard < shards → (slice_index_or workers shard worker).run.shard.number ≡ shard
  pub from_seats : (slot shard : ℕ) (seat : SeatEnds) (sender : Sender Mail) (worker : WorkerOf) → slot < slots → shard < shards
      → mailbox_of (slice_index_or (slice_index_or seats slot seat).shards.items shard sender) ≡ (slice_index_or workers shard worker).inbox.mailbox
  pub from_viewer : (shard : ℕ) (sender : Sender Mail) (worker : WorkerOf) → shard < shards
      → mailbox_of (slice_index_or viewer shard sender) ≡ (slice_index_or workers shard worker).inbox.mailbox
  pub to_seats : (slot shard : ℕ) (seat : SeatEnds) (port : PortOf) (worker : WorkerOf) → slot < slots → shard < shards
      → (slice_index_or (slice_index_or workers shard worker).ports slot port).mailbox ≡ mailbox_at (slice_index_or seats slot seat).offers
