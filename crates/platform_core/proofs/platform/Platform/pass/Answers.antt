use Rattle.std.proofs.Common.{[], ◌≡◌, ℕ, sym, ap, subst, ◌∙◌, arith}
use Rattle.rcp_base.specs.Feed.{FeedRecord, moment_of}
use Rattle.rcp_base.specs.Roster.{RosterOf}
use Rattle.rcp_base.specs.declared.kinds.Kind.TheVariants as kind
use Rattle.rcp_model.specs.Costs.{IsTwoWay}
use Rattle.platform_core.specs.Open.{OpenOf}
use Rattle.platform_core.specs.Turns.{turns_at, Take}
use Rattle.platform_core.specs.States.{StateOf, Steps}
use Rattle.platform_core.specs.Following.{seen_of, Links}
use Rattle.platform_core.proofs.StepLemmas.{step_time, steps_by}
use Rattle.platform_core.proofs.JoinLemmas.{joined_spent, joined_now, kept_spent, two_way_kept, followed_kept, taken_sessions, taken_shards, taken_output}
use Rattle.platform_core.proofs.platform.Platform.pass.Goals as goal

pub returns-clause-steps : goal.returns-clause-steps
returns-clause-steps c =
    let s = c.self.inside in
    let server = s.shards in
    let between = c.carry_out_all.new.shards in
    let after = c.pass.new.shards in
    let then = c.pass.new.self in
    let opened = c.turns.new.self in
    let out = c.carry_out_all.new.out in
    let body = c.args.item.now.body in
    let source = c.args.item.now.source in
    let item : FeedRecord = record { kind = kind.Time; source = source; body = body } in
    let item_is : c.args.item.now ≡ item = (λ i. record { kind = c.requires.kind i; source = source; body = body }) in
    let time_is : c.read_time-self-inside.result ≡ moment_of body = c.read_time-self-inside.ensures ∙ ap moment_of (c.deref.ensures.value ∙ ap (λ (r : FeedRecord). r.body) c.item.view_is) in
    let roster = c.roster.result.now in
    let value = c.roster.ensures.value in
    let taken = c.in_ok-turns.turns.items in
    let take = subst (λ (r : FeedRecord). Take roster (turns_at roster s.time s.connections.sessions r) s.connections opened taken) item_is c.in_ok-turns.ensures in
    let sessions = taken_sessions server roster value s.connections opened s.time item taken take in
    let shards = taken_shards server roster value s.connections opened s.time item taken take between c.in_ok-carry_out_all.ensures.shards in
    let output = taken_output server roster value s.connections opened s.time item taken take c.new-out.result out c.new-out.ensures c.in_ok-carry_out_all.ensures.output in
    let old = seen_of server s.connections.sessions s.time s.links s.updates in
    let new = seen_of after opened.sessions c.read_time-self-inside.result then s.updates in
    steps_by old c.args.self.now.seen (seen_of after opened.sessions (moment_of body) then s.updates) new c.args.item.now out
    (ap (λ (p : StateOf). p.seen) c.self.view_is) (ap (λ (t : ℕ). seen_of after opened.sessions t then s.updates) (sym time_is))
    (subst (λ (r : FeedRecord). Steps old (seen_of after opened.sessions (moment_of body) then s.updates) r out) (sym item_is)
    (step_time server between after s.connections.sessions opened.sessions s.time s.links then s.updates source body out c.carry_out_all.ensures.kept.roster sessions shards output
    (subst (λ (t : ℕ). Links body kind.Time t s.links then between after []) time_is (c.in_ok-pass.ensures.links body))))

pub pass-requires-clause-followed : goal.pass-requires-clause-followed
pass-requires-clause-followed c =
    let s = c.self.inside in
    let time_is : c.read_time-self-inside.result ≡ moment_of c.args.item.now.body = c.read_time-self-inside.ensures ∙ ap moment_of (c.deref.ensures.value ∙ ap (λ (r : FeedRecord). r.body) c.item.view_is) in (
      s.time,
      followed_kept s.shards c.carry_out_all.new.shards s.links s.time c.carry_out_all.ensures.kept (c.self.invariant.followed (ap (λ (p : StateOf). p.spent) c.self.view_is ∙ c.requires.fresh)),
      omega (arith, c.requires.time, ap (λ (p : StateOf). p.seen.time) c.self.view_is, time_is),
    )

pub pass-requires-clause-links : goal.pass-requires-clause-links
pass-requires-clause-links c = subst (λ (r : RosterOf). IsTwoWay r.links) (sym c.carry_out_all.ensures.kept.roster) c.self.invariant.links

pub invariant_of-self-in_err-carry_out_all : goal.invariant_of-self-in_err-carry_out_all
invariant_of-self-in_err-carry_out_all c =
    let s = c.self.inside in
    kept_spent s.shards c.carry_out_all.new.shards s.connections c.turns.new.self s.time s.time s.links s.links s.is_spent c.carry_out_all.ensures.kept c.self.invariant

pub invariant_of-self-in_err-pass : goal.invariant_of-self-in_err-pass
invariant_of-self-in_err-pass c =
    let s = c.self.inside in
    let kept = c.carry_out_all.ensures.kept in
    joined_spent s.shards c.pass.new.shards s.connections c.turns.new.self s.time c.read_time-self-inside.result s.links c.pass.new.self s.is_spent
    (c.pass.ensures.two_way (two_way_kept s.shards c.carry_out_all.new.shards s.connections s.time s.links s.is_spent kept c.self.invariant)) (c.pass.ensures.roster ∙ kept.roster) c.self.invariant

pub invariant_of-self-2 : goal.invariant_of-self-2
invariant_of-self-2 c =
    let s = c.self.inside in
    let kept = c.carry_out_all.ensures.kept in
    joined_now s.shards c.pass.new.shards s.connections c.turns.new.self s.time c.read_time-self-inside.result s.links c.pass.new.self s.is_spent (ap (λ (p : StateOf). p.spent) c.self.view_is ∙ c.requires.fresh)
    (c.pass.ensures.two_way (two_way_kept s.shards c.carry_out_all.new.shards s.connections s.time s.links s.is_spent kept c.self.invariant)) (c.pass.ensures.roster ∙ kept.roster)
    (ap (λ (o : OpenOf). o.spent) c.in_ok-turns.ensures.after) (ap (λ (o : OpenOf). o.members) c.in_ok-turns.ensures.after) c.in_ok-pass.ensures.followed c.self.invariant
