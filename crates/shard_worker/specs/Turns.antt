-- What a turn of a worker does.
use Rattle.std.specs.Prelude.{◌≡◌, ◌⊎◌, ℕ, ◌+◌, ◌≤◌, Bool, true, false, List, [], ◌∷◌, ◌++◌, map, take, drop, length, sum_by, slice_get, Contains, Some, IsSome, if◌then◌else◌}
use Rattle.rcp_base.specs.IpPrefix.{IpPrefix}
use Rattle.rcp_model.specs.declared.rcs_mail.ShardMail.TheVariants as mail
use Rattle.mailbox.specs.Boxes.{counted}
use Rattle.rcs_shard.specs.Shards.{ShardOf, is_connected, is_dirty, given_at}
use Rattle.shard_worker.specs.Runs.{Letter, RunOf, generation_of, after_messages, worked_off}
use Rattle.shard_worker.specs.Offers.{dirty_of, offer_at}
use Rattle.shard_worker.specs.Ends.{InboxOf, PortOf}
use Rattle.shard_worker.specs.Workers.{WorkerOf}

-- ---- messages

-- what was taken between two states of a mailbox
abbrev pub taken_since : InboxOf → InboxOf → List Letter
taken_since before after = drop (length before.taken) after.taken

-- So many messages were taken, at most `budget`, and fewer only where a take found nothing; `empty` says whether one did.
pub record HasTaken (budget count : ℕ) (empty : Bool) (before after : InboxOf) : Type 0 where
  pub taken : after ≡ record before {
    taken = before.taken ++ taken_since before after;
    empties = if empty then counted before.empties else before.empties;
  }
  pub exact : length (taken_since before after) ≡ count
  pub within : count ≤ budget
  pub enough : empty ≡ false → count ≡ budget

abbrev pub IsAnnounce : Letter → Type 0
IsAnnounce (sender, mail.Announce slot p route) = Unit {0}
IsAnnounce (sender, message) = ⊥

-- The last message that was taken is an announcement that is lost: there was no memory for it. Those before it are done.
pub record HasLost (budget : ℕ) (before after : InboxOf) (old new : RunOf) : Type 0 where
  pub earlier : List Letter
  pub lost : Letter
  pub taken : after ≡ record before { taken = before.taken ++ (earlier ++ lost ∷ []) }
  pub within : length earlier + 1 ≤ budget
  pub announces : IsAnnounce lost
  pub done : new ≡ after_messages earlier old

-- the running shard after the messages that were taken, and after its work on so many pending prefixes
abbrev pub messages_done : WorkerOf → WorkerOf → RunOf
messages_done old new = after_messages (taken_since old.inbox new.inbox) old.run

abbrev pub work_done : ℕ → WorkerOf → WorkerOf → RunOf
work_done budget old new = worked_off budget (messages_done old new)

-- ---- offers

-- So many of a slot's dirty cells were put as offers, the least prefix first, and are clean. Nothing else of the shard is another.
pub record HasPut (generation slot count : ℕ) (before after : ShardOf) (old new : PortOf) : Type 0 where
  pub shard : after ≡ record before { dirty = after.dirty }
  pub port : new ≡ record old {
    put = old.put ++ map (offer_at before generation slot) (take count (dirty_of before slot));
    refusals = new.refusals;
  }
  pub rest : dirty_of after slot ≡ drop count (dirty_of before slot)
  pub others : (other : ℕ) → (other ≡ slot → ⊥) → dirty_of after other ≡ dirty_of before other

-- the same with the slot's own generation, and to a slot that isn't connected nothing
abbrev pub IsOfferedTo : RunOf → ℕ → ShardOf → PortOf → PortOf → Type 0
IsOfferedTo run slot after old new =
    (count : ℕ) × HasPut (generation_of run slot) slot count run.shard after old new × (is_connected run.shard slot ≡ false → count ≡ 0)

-- So many of a slot's dirty cells were put as offers of its generation, the least prefix first, and are clean. To a slot that isn't connected
-- nothing was put.
abbrev pub IsOfferedAt : RunOf → ShardOf → ℕ → PortOf → PortOf → Type 0
IsOfferedAt run after slot before now =
    (count : ℕ)
    × (now ≡ record before {
      put = before.put ++ map (offer_at run.shard (generation_of run slot) slot) (take count (dirty_of run.shard slot));
      refusals = now.refusals;
    })
    × (dirty_of after slot ≡ drop count (dirty_of run.shard slot))
    × (is_connected run.shard slot ≡ false → count ≡ 0)

-- the same of every slot, and nothing else of the shard is another
pub record AreOffered (run : RunOf) (after : ShardOf) (old new : List PortOf) : Type 0 where
  pub shard : after ≡ record run.shard { dirty = after.dirty }
  pub ports : length new ≡ length old
  pub each : (slot : ℕ) (before now : PortOf) → slice_get old slot ≡ Some before → slice_get new slot ≡ Some now → IsOfferedAt run after slot before now

-- how many offers were put in all
abbrev pub put_count : List PortOf → ℕ
put_count ports = sum_by (λ port. length port.put) ports

-- where a connected slot has a dirty cell left, its mailbox was full once more
abbrev pub StopsWhereFull : ShardOf → List PortOf → List PortOf → Type 0
StopsWhereFull shard old new = (slot : ℕ) (before now : PortOf) (p : IpPrefix) → slice_get old slot ≡ Some before → slice_get new slot ≡ Some now
    → is_connected shard slot ≡ true → is_dirty shard slot p ≡ true → now.refusals ≡ counted before.refusals

-- a dirty cell of the slot has attributes to offer
pub record HasAttributesLeft (shard : ShardOf) (slot : ℕ) : Type 0 where
  pub prefix : IpPrefix
  pub dirty : is_dirty shard slot prefix ≡ true
  pub attributes : IsSome (given_at shard slot prefix)

-- the same of some connected slot
pub record HasOfferLeft (shard : ShardOf) : Type 0 where
  pub slot : ℕ
  pub up : is_connected shard slot ≡ true
  pub left : HasAttributesLeft shard slot

-- ---- what the table of answers says of NoMemory

-- an announcement is among these messages
abbrev pub HasAnnounce : List Letter → Type 0
HasAnnounce letters = (letter : Letter) × Contains letters letter × IsAnnounce letter

-- The worker was spent before, and nothing has changed but that it passed the gate.
-- Or the last message is an announcement that is lost, and nothing was put.
pub record IsLost (budget : ℕ) (old new : WorkerOf) : Type 0 where
  pub fresh : old.spent ≡ false
  pub lost : HasLost budget old.inbox new.inbox old.run new.run
  pub ports : new.ports ≡ old.ports

-- Or the messages were taken and the pending prefixes worked, and an offer of some slot was refused, whose cell is dirty still.
pub record IsRefused (budget : ℕ) (old new : WorkerOf) : Type 0 where
  pub fresh : old.spent ≡ false
  pub taken : (count : ℕ) × (empty : Bool) × HasTaken budget count empty old.inbox new.inbox
  pub generations : new.run.generations ≡ (work_done budget old new).generations
  pub offered : AreOffered (work_done budget old new) new.run.shard old.ports new.ports
  pub left : HasOfferLeft new.run.shard

abbrev pub HasFailed : ℕ → WorkerOf → WorkerOf → Type 0
HasFailed budget old new = ((old.spent ≡ true) × (new ≡ old)) ⊎ (IsLost budget old new ⊎ IsRefused budget old new)
