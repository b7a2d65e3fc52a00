-- What contracts see of the worker of a shard, and what each worker keeps.
use Rattle.std.specs.Prelude.{◌≡◌, ℕ, ◌<◌, ◌≤◌, Bool, true, false, List, length, slice_get, Some, None}
use Rattle.std.specs.List.{AllByRecursion}
use Rattle.rcp_base.specs.IpPrefix.{IpPrefix}
use Rattle.rcp_model.specs.ServerRibs.{route_reader, AreSettled}
use Rattle.platform_laws.specs.Asked.{octets_of}
use Rattle.rcs_shard.specs.Shards.{ShardOf, is_connected, is_dirty, given_at, announced_at}
use Rattle.shard_worker.specs.Runs.{RunOf, generation_of, started, after_messages}
use Rattle.shard_worker.specs.Offers.{replayed}
use Rattle.shard_worker.specs.Ends.{InboxOf, PortOf}

-- The running shard, its mailbox, by slot the mailbox of the router's offers, and whether it was refused memory.
pub record WorkerOf : Type 0 where
  pub run : RunOf
  pub inbox : InboxOf
  pub ports : List PortOf
  pub spent : Bool

-- no slot is connected and nothing is announced
pub record IsIdle (shard : ShardOf) : Type 0 where
  pub down : (slot : ℕ) → is_connected shard slot ≡ false
  pub silent : (slot : ℕ) (p : IpPrefix) → announced_at shard slot p ≡ None

-- ---- what is true of a worker between its turns

-- Each connected slot has at each prefix that isn't pending what it is offered. And the offers of its generation that were put to it
-- replay to its table, except where a cell is dirty.
pub record IsCurrent (run : RunOf) (ports : List PortOf) : Type 0 where
  pub settled : AreSettled (route_reader run.shard.members) run.shard.ribs
  pub offered : (slot : ℕ) (port : PortOf) (p : IpPrefix) → slice_get ports slot ≡ Some port
      → is_connected run.shard slot ≡ true → is_dirty run.shard slot p ≡ false
      → replayed (generation_of run slot) p port.put ≡ octets_of (given_at run.shard slot p)

-- no offer has a generation above the slot's last one
abbrev pub ArePast : RunOf → List PortOf → Type 0
ArePast run ports = (slot : ℕ) (port : PortOf) → slice_get ports slot ≡ Some port → AllByRecursion (λ o. o.generation ≤ generation_of run slot) port.put

-- what each worker keeps
pub record IsWorker (run : RunOf) (ports : List PortOf) : Type 0 where
  pub each_member : length ports ≡ length run.shard.members
  pub generations : length run.generations ≡ length run.shard.members
  pub members : (slot : ℕ) → is_connected run.shard slot ≡ true → slot < length run.shard.members
  pub past : ArePast run ports
  pub current : IsCurrent run ports

-- ---- the shard is what was taken

-- the same connected slots, announcements, link state and last generations, in shards of the same number and members
pub record AreAlike (a b : RunOf) : Type 0 where
  pub number : a.shard.number ≡ b.shard.number
  pub shards : a.shard.shards ≡ b.shard.shards
  pub members : a.shard.members ≡ b.shard.members
  pub connected : a.shard.ribs.connected ≡ b.shard.ribs.connected
  pub announced : a.shard.ribs.announced ≡ b.shard.ribs.announced
  pub edges : a.shard.ribs.edges ≡ b.shard.ribs.edges
  pub generations : a.generations ≡ b.generations

-- The worker's shard has what all the messages that were taken make of the shard that it began with.
abbrev pub IsRunOf : ShardOf → WorkerOf → Type 0
IsRunOf start worker = AreAlike worker.run (after_messages worker.inbox.taken (started start))
