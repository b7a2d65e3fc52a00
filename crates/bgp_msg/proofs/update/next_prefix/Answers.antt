use Rattle.std.proofs.Common.{◌∙◌}
use Rattle.bgp_msg.proofs.Walks.{walk_ends, walk_goes}
use Rattle.bgp_msg.proofs.update.next_prefix.Goals as goal

pub returns-in_default-clause-ends : goal.returns-in_default-clause-ends
returns-in_default-clause-ends c =
    (walk_ends c.args.section.now _ c.args.place c.requires.within c.split_at.ensures.back c.requires.faultless c.in_default.ensures.value).end

pub returns-in_default-clause-prefixes : goal.returns-in_default-clause-prefixes
returns-in_default-clause-prefixes c =
    (walk_ends c.args.section.now _ c.args.place c.requires.within c.split_at.ensures.back c.requires.faultless c.in_default.ensures.value).nothing

pub returns-clause-prefixes : goal.returns-clause-prefixes
returns-clause-prefixes c =
    (walk_goes c.args.section.now _ c.args.place _ _ c.split_at.ensures.back c.in-Some.ensures.value).first

pub returns-clause-faultless : goal.returns-clause-faultless
returns-clause-faultless c =
    (walk_goes c.args.section.now _ c.args.place _ _ c.split_at.ensures.back c.in-Some.ensures.value).faults ∙ c.requires.faultless
