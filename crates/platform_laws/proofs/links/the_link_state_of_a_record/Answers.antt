use Rattle.platform_laws.proofs.LinkSteps.{seen-links, links-out}
use Rattle.platform_laws.proofs.links.the_link_state_of_a_record.Goals as goal

pub returns : goal.returns
returns c = record { after = seen-links; output = links-out }
