use Rattle.std.proofs.Common.{refl, ap, ◌∙◌}
use Rattle.platform_core.specs.States.{StateOf}
use Rattle.platform_core.specs.Following.{seen_of}
use Rattle.platform_core.proofs.StepLemmas.{step_turns, steps_by}
use Rattle.platform_core.proofs.JoinLemmas.{joined_spent, two_way_kept, taken_sessions, taken_shards, taken_output, taken_joined}
use Rattle.platform_core.proofs.platform.Platform.take_turns.Goals as goal

pub returns-clause-steps : goal.returns-clause-steps
returns-clause-steps c =
    let s = c.self.inside in
    let take = c.in_ok-turns.ensures in
    let value = c.roster.ensures.value in
    let server = s.shards in
    let after = c.carry_out_all.new.shards in
    let sessions = taken_sessions server c.roster.result.now value s.connections c.turns.new.self s.time c.args.item.now c.in_ok-turns.turns.items take in
    let shards = taken_shards server c.roster.result.now value s.connections c.turns.new.self s.time c.args.item.now c.in_ok-turns.turns.items take after c.in_ok-carry_out_all.ensures.shards in
    let output = taken_output server c.roster.result.now value s.connections c.turns.new.self s.time c.args.item.now c.in_ok-turns.turns.items take c.new-out.result c.carry_out_all.new.out c.new-out.ensures c.in_ok-carry_out_all.ensures.output in
    steps_by (seen_of server s.connections.sessions s.time s.links s.updates) c.args.self.now.seen (seen_of after c.turns.new.self.sessions s.time s.links s.updates) (seen_of after c.turns.new.self.sessions s.time s.links s.updates)
    c.args.item.now c.carry_out_all.new.out (ap (λ (p : StateOf). p.seen) c.self.view_is) refl
    (step_turns server after s.connections.sessions c.turns.new.self.sessions s.time s.links s.updates c.args.item.now c.carry_out_all.new.out c.requires.kind c.carry_out_all.ensures.kept.roster sessions shards output)

pub invariant_of-self-in_err-carry_out_all : goal.invariant_of-self-in_err-carry_out_all
invariant_of-self-in_err-carry_out_all c =
    let s = c.self.inside in
    let kept = c.carry_out_all.ensures.kept in
    joined_spent s.shards c.carry_out_all.new.shards s.connections c.turns.new.self s.time s.time s.links s.links s.is_spent (two_way_kept s.shards c.carry_out_all.new.shards s.connections s.time s.links s.is_spent kept c.self.invariant) kept.roster c.self.invariant

pub invariant_of-self-2 : goal.invariant_of-self-2
invariant_of-self-2 c =
    let s = c.self.inside in
    taken_joined s.shards c.roster.result.now c.roster.ensures.value s.connections c.turns.new.self s.time c.args.item.now c.in_ok-turns.turns.items c.in_ok-turns.ensures
    c.carry_out_all.new.shards s.links s.is_spent (ap (λ (p : StateOf). p.spent) c.self.view_is ∙ c.requires.fresh) c.carry_out_all.ensures.kept c.self.invariant
