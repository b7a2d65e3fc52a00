use Rattle.std.proofs.Common.{◌≡◌, ℕ, max, Option, arith, List, [], ◌++◌, sym, ap, subst, ◌∙◌, append-nil}
use Rattle.rcp_base.specs.declared.names.Edge.{Edge}
use Rattle.rcp_base.specs.declared.kinds.Kind.TheVariants as kind
use Rattle.feed_meaning.specs.OutRecords.{lost_record}
use Rattle.igp_view.specs.Igp.{IgpOf}
use Rattle.igp_view.specs.Streams.{lost_by}
use Rattle.platform_core.specs.Following.{AllHave, IsFollowed, Links}
use Rattle.platform_core.proofs.LinkLemmas.{edges_stay, followed_now, young_octets, octets_lead, lost_leads, on_any, on_ok, two_way_follow, some_of, none_of}
use Rattle.platform_core.proofs.links.LinkView.take_octets.Goals as goal

pub returns-then-self-clause-links : goal.returns-then-self-clause-links
returns-then-self-clause-links c =
    let followed = subst (λ (i : IgpOf). IsFollowed i c.args.shards.now c.args.time) (sym c.self.view_is) c.requires.followed in
    let gone = none_of c.self.inside.igp.stream (sym (c.self.invariant followed.unspent) ∙ c.if-self.true) in (
      [],
      sym (append-nil c.args.out.now),
      subst (λ (i : IgpOf). Links c.args.octets.now kind.Links c.args.time i i c.args.shards.now c.args.shards.now []) c.self.view_is
          (lost_leads c.self.inside.igp c.args.shards.now c.args.time c.args.octets.now followed gone),
    )

pub follow-requires-clause-same : goal.follow-requires-clause-same
follow-requires-clause-same c = λ same less.
    let followed = subst (λ (i : IgpOf). IsFollowed i c.args.shards.now c.args.time) (sym c.self.view_is) c.requires.followed in
    subst (λ (l : List Edge). AllHave l c.args.shards.now.shards) (sym (edges_stay c.self.inside.igp c.octets.new.self c.changes-before.result c.in_ok-got.ensures.changes c.changes-before.ensures same less)) followed.shards_have

pub returns-in_err-follow-clause-two_way : goal.returns-in_err-follow-clause-two_way
returns-in_err-follow-clause-two_way c =
    let links = c.in_ok-got.ensures.roster.links ∙ ap (λ (i : IgpOf). i.links) c.self.view_is ∙ c.requires.followed.links in
    two_way_follow c.follow.result c.args.shards.now c.follow.new.shards c.octets.new.self c.follow.ensures.after c.follow.ensures.edges c.follow.ensures.held c.follow.ensures.err links c.requires.links

pub returns-clause-two_way : goal.returns-clause-two_way
returns-clause-two_way c =
    let links = c.in_ok-got.ensures.roster.links ∙ ap (λ (i : IgpOf). i.links) c.self.view_is ∙ c.requires.followed.links in
    two_way_follow c.follow.result c.args.shards.now c.follow.new.shards c.octets.new.self c.follow.ensures.after c.follow.ensures.edges c.follow.ensures.held c.follow.ensures.err links c.requires.links

pub returns-clause-followed : goal.returns-clause-followed
returns-clause-followed c =
    let followed = subst (λ (i : IgpOf). IsFollowed i c.args.shards.now c.args.time) (sym c.self.view_is) c.requires.followed in
    let some = some_of c.self.inside.igp.stream (sym (c.self.invariant followed.unspent) ∙ c.if-self.false) in
    let got = c.in_ok-got.ensures in
    let then = c.in_ok-follow.ensures in
    let now = got.time ∙ (let e : max c.args.time c.self.inside.igp.database.moment ≡ c.args.time = omega (arith, followed.time_is) in e) in
    on_any c.add_lost.result
    (followed_now c.self.inside.igp c.octets.new.self c.args.shards.now c.follow.new.shards c.args.time followed got.roster got.fresh.1 then.after then.edges then.held c.args.time now
    (young_octets c.self.inside.igp c.octets.new.self c.args.shards.now c.follow.new.shards c.args.time followed got.roster got.fresh.1 then.after then.edges then.held c.args.octets.now some.0 some.1 got.stream got.state))

pub returns-clause-links : goal.returns-clause-links
returns-clause-links c =
    let followed = subst (λ (i : IgpOf). IsFollowed i c.args.shards.now c.args.time) (sym c.self.view_is) c.requires.followed in
    let some = some_of c.self.inside.igp.stream (sym (c.self.invariant followed.unspent) ∙ c.if-self.false) in
    let got = c.in_ok-got.ensures in
    let then = c.in_ok-follow.ensures in
    let lost = lost_record (lost_by c.self.inside.igp.stream c.args.octets.now) in
    on_ok c.add_lost.result (λ added. (
      lost,
      added ∙ ap (λ (o : Option ℕ). c.args.out.now ++ lost_record o) got.lost,
      subst (λ (i : IgpOf). Links c.args.octets.now kind.Links c.args.time i c.octets.new.self c.args.shards.now c.follow.new.shards lost) c.self.view_is
          (octets_lead c.self.inside.igp c.octets.new.self c.args.shards.now c.follow.new.shards c.args.time followed got.roster got.fresh.1 then.after then.edges then.held c.args.octets.now some.0 some.1 got.stream got.state),
    )) c.add_lost.ensures
