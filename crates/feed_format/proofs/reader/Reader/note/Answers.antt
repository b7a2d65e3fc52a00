use Rattle.std.proofs.Common.{arith, rules, ap, ◌≡◌, length}
use Rattle.rcp_base.specs.Feed.{FeedState}
use Rattle.feed_format.proofs.AgainLemmas.{lawful_length, lawful_parts}
use Rattle.feed_format.proofs.reader.Reader.note.Goals as goal

pub moment_after-moment-requires : goal.moment_after-moment-requires
moment_after-moment-requires c = lawful_length c.args.self.now c.args.item.now c.requires.lawful

pub invariant_of-self-2 : goal.invariant_of-self-2
invariant_of-self-2 c =
    let few = (lawful_parts c.args.self.now c.args.item.now c.requires.lawful).few in
    let octets : c.self.inside.octets ≡ c.args.self.now.octets = ap (λ (s : FeedState). s.octets) c.self.view_is in
    let count : c.len.result ≡ length c.args.item.now.body = search rules in
    (omega (arith, c.self.invariant.0), omega (arith, c.requires.form.length))
