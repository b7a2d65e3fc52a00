use Rattle.std.proofs.Common.{List, [], sym, ap, subst, ◌∙◌}
use Rattle.rcp_base.specs.declared.names.Edge.{Edge}
use Rattle.rcp_base.specs.declared.kinds.Kind.TheVariants as kind
use Rattle.igp_view.specs.Igp.{IgpOf}
use Rattle.platform_core.specs.Following.{AllHave, IsFollowed, Links}
use Rattle.platform_core.proofs.LinkLemmas.{edges_stay, followed_now, moment_is, young_time, time_leads, on_all, two_way_follow}
use Rattle.platform_core.proofs.links.LinkView.pass.Goals as goal

pub follow-requires-clause-same : goal.follow-requires-clause-same
follow-requires-clause-same c = λ same less.
    let followed = subst (λ (i : IgpOf). IsFollowed i c.args.shards.now c.requires.followed.0) (sym c.self.view_is) c.requires.followed.1 in
    subst (λ (l : List Edge). AllHave l c.args.shards.now.shards) (sym (edges_stay c.self.inside.igp c.clock.new.self c.changes-before.result c.in_ok-clock.ensures.changes c.changes-before.ensures same less)) followed.shards_have

pub returns-clause-followed : goal.returns-clause-followed
returns-clause-followed c =
    let followed = subst (λ (i : IgpOf). IsFollowed i c.args.shards.now c.requires.followed.0) (sym c.self.view_is) c.requires.followed.1 in
    let done = c.in_ok-clock.ensures in
    on_all c.follow.result (λ after edges held.
    followed_now c.self.inside.igp c.clock.new.self c.args.shards.now c.follow.new.shards c.requires.followed.0 followed done.roster done.fresh.1 after edges held c.args.time
    (moment_is c.self.inside.igp c.clock.new.self c.args.shards.now c.follow.new.shards c.requires.followed.0 followed done.roster done.fresh.1 after edges held c.args.time c.requires.followed.2 done.time done.stream done.state)
    (young_time c.self.inside.igp c.clock.new.self c.args.shards.now c.follow.new.shards c.requires.followed.0 followed done.roster done.fresh.1 after edges held c.args.time c.requires.followed.2 done.time done.stream done.state))
    c.follow.ensures.after c.follow.ensures.edges c.follow.ensures.held

pub returns-clause-links : goal.returns-clause-links
returns-clause-links c =
    let followed = subst (λ (i : IgpOf). IsFollowed i c.args.shards.now c.requires.followed.0) (sym c.self.view_is) c.requires.followed.1 in
    let done = c.in_ok-clock.ensures in
    on_all c.follow.result (λ after edges held body.
    subst (λ (i : IgpOf). Links body kind.Time c.args.time i c.clock.new.self c.args.shards.now c.follow.new.shards []) c.self.view_is
    (time_leads c.self.inside.igp c.clock.new.self c.args.shards.now c.follow.new.shards c.requires.followed.0 followed done.roster done.fresh.1 after edges held c.args.time c.requires.followed.2 done.time done.stream done.state body))
    c.follow.ensures.after c.follow.ensures.edges c.follow.ensures.held

pub returns-clause-two_way : goal.returns-clause-two_way
returns-clause-two_way c =
    let links = c.in_ok-clock.ensures.roster.links ∙ ap (λ (i : IgpOf). i.links) c.self.view_is ∙ c.requires.followed.1.links in
    two_way_follow c.follow.result c.args.shards.now c.follow.new.shards c.clock.new.self c.follow.ensures.after c.follow.ensures.edges c.follow.ensures.held c.follow.ensures.err links c.requires.links
