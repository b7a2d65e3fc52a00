use Rattle.std.proofs.Common.{◌≡◌, ℕ, suc, ◌+◌, ◌-◌, ◌≤◌, length, refl, sym, ap, subst, ◌∙◌, inl, inr, arith}
use Rattle.rcs_shard.specs.Shards.{ShardOf}
use Rattle.shard_worker.specs.Runs.{RunOf, run_in, pending_of, worked_off}
use Rattle.shard_worker.proofs.WorkLemmas.{pending_first, none_pending, work_step, work_done, no_work}
use Rattle.shard_worker.proofs.running.Running.work.Goals as goal

-- the run with another shard of as many members
abbrev with_shard : RunOf → ShardOf → RunOf
with_shard run shard = record run { shard = shard }

pub returns-in-None-clause-done : goal.returns-in-None-clause-done
returns-in-None-clause-done c =
    let shard = c.loop-worked.self-inside.shard in
    let generations = c.loop-worked.self-inside.generations in
    ap (λ (s : ShardOf). run_in s generations) c.in-None.ensures.after
    ∙ ap (with_shard (run_in shard generations)) (sym (work_done shard (c.args.budget - c.loop-worked.worked) c.in-None.ensures.least))
    ∙ c.loop-worked.invariant.0.rest

pub returns-in-None-clause-count : goal.returns-in-None-clause-count
returns-in-None-clause-count c =
    let none = ap length (none_pending c.loop-worked.self-inside.shard c.in-None.ensures.least) in
    omega (arith, none, c.loop-worked.invariant.0.count, c.loop-worked-test.true)

pub loop-worked-preserved : goal.loop-worked-preserved
loop-worked-preserved c =
    let shard = c.loop-worked.self-inside.shard in
    let generations = c.loop-worked.self-inside.generations in
    let p = c.in-Some.field-0 in
    let k : ℕ = c.args.budget - (c.loop-worked.worked + 1) in
    let one_less : suc k ≡ c.args.budget - c.loop-worked.worked = omega (arith, c.loop-worked-test.true) in
    let first = ap length (pending_first shard p c.in-Some.ensures.least) in
    let later = ap (λ (s : ShardOf). length (pending_of s)) c.in-Some.ensures.after in
    let members = ap (λ (s : ShardOf). length s.members) c.in-Some.ensures.after in (
      record {
        rest =
            ap (λ (s : ShardOf). worked_off k (run_in s generations)) c.in-Some.ensures.after
            ∙ ap (with_shard (run_in shard generations)) (work_step shard k p c.in-Some.ensures.least)
            ∙ ap (λ (n : ℕ). worked_off n (run_in shard generations)) one_less
            ∙ c.loop-worked.invariant.0.rest;
        count = omega (arith, first, later, c.loop-worked.invariant.0.count);
      },
      subst (λ (n : ℕ). n ≤ 512) (sym members) c.loop-worked.invariant.1,
    )

pub returns-clause-done : goal.returns-clause-done
returns-clause-done c =
    let shard = c.loop-worked.self-inside.shard in
    let generations = c.loop-worked.self-inside.generations in
    let none_left : 0 ≡ c.args.budget - c.loop-worked.worked = omega (arith, c.loop-worked-test.false) in
    ap (with_shard (run_in shard generations)) (sym (no_work shard))
    ∙ ap (λ (n : ℕ). worked_off n (run_in shard generations)) none_left
    ∙ c.loop-worked.invariant.0.rest

pub returns-clause-count : goal.returns-clause-count
returns-clause-count c = omega (arith, c.loop-worked.invariant.0.count, c.loop-worked-test.false, c.loop-worked.auto.worked-end)

pub returns-in-None-clause-enough : goal.returns-in-None-clause-enough
returns-in-None-clause-enough c =
    inr (ap pending_of c.in-None.ensures.after ∙ none_pending c.loop-worked.self-inside.shard c.in-None.ensures.least)

pub returns-clause-enough : goal.returns-clause-enough
returns-clause-enough c = inl refl
