use Rattle.std.proofs.Common.{ℕ, List, ◌++◌, refl, sym, ap, subst, ◌∙◌}
use Rattle.rcp_base.specs.Feed.{OutRecord}
use Rattle.rcp_base.specs.declared.kinds.Kind.{Kind}
use Rattle.rcp_base.specs.declared.kinds.Kind.TheVariants as kind
use Rattle.platform_core.specs.States.{StateOf, Steps}
use Rattle.platform_core.specs.Following.{seen_of, Links}
use Rattle.platform_core.proofs.StepLemmas.{step_links, steps_by}
use Rattle.platform_core.proofs.JoinLemmas.{joined_spent, joined_now}
use Rattle.platform_core.proofs.platform.Platform.take_links.Goals as goal

pub returns-clause-steps : goal.returns-clause-steps
returns-clause-steps c = λ item is body_is.
    let s = c.self.inside in
    let server = s.shards in
    let after = c.take_octets.new.shards in
    let then = c.take_octets.new.self in
    let out = c.take_octets.new.out in
    let old = seen_of server s.connections.sessions s.time s.links s.updates in
    let new = seen_of after s.connections.sessions s.time then s.updates in
    let did = c.in_ok-take_octets.ensures.links in
    steps_by old c.args.self.now.seen new new item out (ap (λ (p : StateOf). p.seen) c.self.view_is) refl
    (subst (λ (k : Kind). Steps old new (record { kind = k; source = item.source; body = item.body }) out) (sym is)
    (subst (λ (l : List OutRecord). Steps old new (record { kind = kind.Links; source = item.source; body = item.body }) l) (sym (did.1 ∙ ap (λ (l : List OutRecord). l ++ did.0) c.new-out.ensures))
    (step_links server after s.connections.sessions s.time s.links then s.updates item.source item.body did.0
    (subst (λ (b : List ℕ). Links b kind.Links s.time s.links then server after did.0) (sym body_is) did.2))))

pub take_octets-requires-clause-followed : goal.take_octets-requires-clause-followed
take_octets-requires-clause-followed c = c.self.invariant.followed (ap (λ (p : StateOf). p.spent) c.self.view_is ∙ c.requires)

pub invariant_of-self : goal.invariant_of-self
invariant_of-self c =
    let s = c.self.inside in
    joined_spent s.shards c.take_octets.new.shards s.connections s.connections s.time s.time s.links c.take_octets.new.self s.is_spent (c.take_octets.ensures.two_way c.self.invariant.two_way) c.take_octets.ensures.roster c.self.invariant

pub invariant_of-self-2 : goal.invariant_of-self-2
invariant_of-self-2 c =
    let s = c.self.inside in
    joined_now s.shards c.take_octets.new.shards s.connections s.connections s.time s.time s.links c.take_octets.new.self s.is_spent (ap (λ (p : StateOf). p.spent) c.self.view_is ∙ c.requires)
    (c.take_octets.ensures.two_way c.self.invariant.two_way) c.take_octets.ensures.roster refl refl c.in_ok-take_octets.ensures.followed c.self.invariant
