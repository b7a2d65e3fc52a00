-- So many copies so far.
use Rattle.std.proofs.Common.{◌≡◌, length}
use Rattle.std.specs.Prelude.{All}
use Rattle.rcs_shards.proofs.events.copies_of.Given as goal

abbrev pub invariant-loop : goal.invariant-loop
invariant-loop l = (length l.copies.items ≡ l.counter) × All (λ copy. copy.value ≡ l.view.value) l.copies.items
