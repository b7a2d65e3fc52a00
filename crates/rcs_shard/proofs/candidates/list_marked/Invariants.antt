use Rattle.std.proofs.Common.{ℕ, ◌≤◌, length, take}
use Rattle.std.specs.Prelude.{◌↔◌, Contains}
use Rattle.rcs_shard.proofs.ContenderLemmas.{MarkedBefore}
use Rattle.rcs_shard.proofs.candidates.list_marked.Given as goal

abbrev pub invariant-loop-candidate : goal.invariant-loop-candidate
invariant-loop-candidate l = record {
  few : l.count ≤ l.candidate-index;
  room : length l.list ≤ length l.slots;
  marked : (e : ℕ) → Contains (take l.count l.slots) e ↔ MarkedBefore l.list l.marks l.candidate-index e;
}
