-- The event is done to the shards so far, and a copy is left for each of the others.
use Rattle.std.proofs.Common.{◌≡◌, ◌+◌, length}
use Rattle.std.specs.Prelude.{All}
use Rattle.rcp_model.specs.ServerRibs.{Links}
use Rattle.rcs_shard.specs.Shards.{acted}
use Rattle.rcs_shards.proofs.EachLemmas.{changed_to}
use Rattle.rcs_shards.proofs.events.view_each.Given as goal

abbrev pub invariant-loop-shard : goal.invariant-loop-shard
invariant-loop-shard l =
    (l.shard-items ≡ changed_to (acted (Links l.view.value.edges)) l.shard-index l.initial.shard-items)
    × (length l.copies.items + l.shard-index ≡ length l.initial.shard-items)
    × All (λ copy. copy.value ≡ l.view.value) l.copies.items
