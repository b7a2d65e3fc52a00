-- The slots so far were sent what is dirty for them, and there is a cursor for each shard.
use Rattle.std.proofs.Common.{◌≡◌, ◌≤◌, length, map}
use Rattle.std.specs.Prelude.{All}
use Rattle.rcs_shards.proofs.SendLemmas.{Sends}
use Rattle.rcs_shards.proofs.sending.send.Given as goal

abbrev pub invariant-loop-slot : goal.invariant-loop-slot
invariant-loop-slot l =
    Sends l.roster l.shards l.slots l.slot-index (map (λ messages. map (λ m. m.items) messages.items) l.lists.items)
    × All (λ messages. All (λ m. length m.items ≤ 4096) messages.items) l.lists.items
    × (length l.cursors.prefixes.items ≡ length l.shards)
    × (length l.cursors.routes.items ≡ length l.shards)
    × (length l.cursors.passed.items ≡ length l.shards)
