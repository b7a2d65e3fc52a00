use Rattle.std.proofs.Common.{◌<◌, length, rules, arith}
use Rattle.path_attrs.proofs.Texting.{attributes-none, attributes-front}
use Rattle.path_attrs.proofs.text.next_attribute.Goals as goal

pub returns-in_default-clause-none : goal.returns-in_default-clause-none
returns-in_default-clause-none c = attributes-none c.args.octets.now c.in_default.ensures.none

pub returns-clause-front : goal.returns-clause-front
returns-clause-front c =
    let some : 0 < length c.args.octets.now = search rules in
    attributes-front c.args.octets.now (length c.in-Some.attribute.now) c.split_at.result.0.now c.split_at.result.1.now c.in-Some.ensures.size
    (omega (arith, c.in-Some.ensures.long)) some c.split_at.ensures.front c.split_at.ensures.back
