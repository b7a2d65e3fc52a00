use Rattle.std.proofs.Common.{◌≡◌, ℕ, ◌+◌, ◌-◌, ◌≤◌, length}
use Rattle.shard_worker.specs.Runs.{RunOf, run_in, worked_off, pending_of}
use Rattle.shard_worker.proofs.running.Running.work.Given as goal

-- what is left of the work does what all of it does
pub record IsUnderWay (budget worked : ℕ) (before now : RunOf) : Type 0 where
  pub rest : worked_off (budget - worked) now ≡ worked_off budget before
  pub count : worked + length (pending_of now.shard) ≡ length (pending_of before.shard)

abbrev pub invariant-loop-worked : goal.invariant-loop-worked
invariant-loop-worked l =
    IsUnderWay l.budget l.worked l.fn.self (run_in l.self-inside.shard l.self-inside.generations) × (length l.self-inside.shard.members ≤ 512)
