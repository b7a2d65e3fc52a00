use Rattle.std.proofs.Common.{ap, arith, ◌≤◌, ℕ, List, length}
use Rattle.shard_worker.proofs.RunningLemmas.{zeros}
use Rattle.shard_worker.specs.Runs.{RunOf}
use Rattle.shard_worker.proofs.running.Running.new.Goals as goal

pub returns : goal.returns
returns c =
    let few = c.members-members.ensures.distinct.few in
    let fits : length c.args.shard.members ≤ length c.no_generations.result = omega (arith, few, c.no_generations.ensures.count) in
    let run : List ℕ → RunOf = λ g. record { shard = c.args.shard; generations = g } in
    ap run (zeros c.args.shard.members c.no_generations.result fits c.no_generations.ensures.none)
