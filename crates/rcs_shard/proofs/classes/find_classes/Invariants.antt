use Rattle.std.proofs.Common.{◌≡◌, ℕ, ◌<◌, length}
use Rattle.rcs_shard.specs.Settling.{IsClass}
use Rattle.rcs_shard.proofs.classes.find_classes.Given as goal

abbrev pub invariant-loop-slot : goal.invariant-loop-slot
invariant-loop-slot l = record {
  len : length l.classes ≡ length l.view.members;
  right : (s : ℕ) → s < l.slot → IsClass l.view l.classes s;
}
