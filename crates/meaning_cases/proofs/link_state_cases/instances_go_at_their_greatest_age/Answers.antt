use Rattle.std.proofs.Common.{refl}
use Rattle.rcp_model.specs.LinkState.{answer_to, kept_after, installation, installed, aged}
use Rattle.meaning_cases.proofs.link_state_cases.instances_go_at_their_greatest_age.Goals as goal

pub returns : goal.returns
unfolding answer_to kept_after installation installed aged
returns c = record { there = refl; gone = refl }
