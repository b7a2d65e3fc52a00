use Rattle.std.proofs.Common.{ℕ, ◌<◌, get_or, sym, ap, ◌∙◌, subst}
use Rattle.std.proofs.Math.ListN.{set}
use Rattle.shard_worker.specs.Runs.{RunOf, run_in, is_own}
use Rattle.shard_worker.proofs.RunningLemmas.{up_in_place}
use Rattle.shard_worker.proofs.running.Running.up.Goals as goal

pub returns : goal.returns
returns c =
    let place = c.from-place.ensures ∙ c.slot.view_is in
    (λ i. run_in (c.up.ensures i) (set c.self.inside.generations (place i) c.args.generation))
    ∙ up_in_place c.self.inside.shard c.self.inside.generations c.args.sender c.args.slot c.args.generation c.args.self.now c.self.view_is
    (ap (λ (run : RunOf). is_own run.shard c.args.sender c.args.slot) c.self.view_is ∙ sym c.is_own.ensures ∙ c.if-not-is_own.false) (sym c.connected.ensures ∙ c.if-connected.false)
    (subst (λ (k : ℕ). get_or c.self.inside.generations k 0 < c.args.generation) place c.if-generation-self.false)
