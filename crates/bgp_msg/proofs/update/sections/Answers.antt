use Rattle.bgp_msg.proofs.Sections.{no_first_section, no_second_section, both_sections}
use Rattle.bgp_msg.proofs.update.sections.Goals as goal

pub returns-in_default-clause-sections : goal.returns-in_default-clause-sections
returns-in_default-clause-sections c = no_first_section c.args.body.now c.in_default.ensures.found

pub returns-in_default-split_section-clause-sections : goal.returns-in_default-split_section-clause-sections
returns-in_default-split_section-clause-sections c =
    no_second_section c.args.body.now c.in-Some.rest.now c.in-Some.ensures.found.2 c.in_default-split_section.ensures.found

pub returns-clause-sections : goal.returns-clause-sections
returns-clause-sections c =
    let first = c.in-Some.ensures.found in
    let second = c.in-Some-split_section.ensures.found in
    both_sections c.args.body.now c.in-Some.rest.now _ _ _ first.0 first.1 first.2 second.0 second.1 second.2
