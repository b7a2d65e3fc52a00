use Rattle.std.proofs.Common.{◌≡◌, [], length, ap, ◌∙◌, arith}
use Rattle.rcp_model.specs.Updates.{update_octets}
use Rattle.feed_make.specs.Routes.{attributes, prefixes}
use Rattle.feed_make.proofs.Lengths.{short_announcement}
use Rattle.feed_make.proofs.routes.announcement.Goals as goal
use Rattle.feed_make.proofs.routes.announcement.Goals.{After-deref}

-- the UPDATE of the attributes and prefixes of the group
octets : (c : After-deref) → update_octets [] c.attributes-attrs.result c.deref.result.now ≡ update_octets [] (attributes c.args.draws.now.number c.args.draws.now.drawn c.args.group c.args.router) (prefixes c.args.group)
octets c = λ i. update_octets [] (c.attributes-attrs.ensures.attributes i) ((c.deref.ensures.value ∙ c.in_ok-prefixes.ensures) i)

pub update_message-requires : goal.update_message-requires
update_message-requires c =
    omega (arith, ap length (octets (goal.at.update_message-requires c).After-deref), short_announcement c.args.draws.now.number c.args.draws.now.drawn c.args.group c.args.router)

pub returns-clause-message : goal.returns-clause-message
returns-clause-message c = c.in_ok-message.ensures ∙ octets (goal.at.returns-clause-message c).After-deref

pub returns-clause-short : goal.returns-clause-short
returns-clause-short c =
    omega (arith, ap length (c.in_ok-message.ensures ∙ octets (goal.at.returns-clause-short c).After-deref), short_announcement c.args.draws.now.number c.args.draws.now.drawn c.args.group c.args.router)
