use Rattle.std.proofs.Common.{refl}
use Rattle.rcp_model.specs.LinkState.{answer_to, kept_after, installation, installed, aged}
use Rattle.meaning_cases.proofs.link_state_cases.the_more_recent_instance_is_kept.Goals as goal

pub returns : goal.returns
unfolding answer_to kept_after installation installed aged
returns c = record { first = refl; same = refl; much_older = refl; little_older = refl; lower = refl; higher = refl; flushed = refl; flushed_first = refl }
