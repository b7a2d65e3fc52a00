use Rattle.make_laws.proofs.FeedLemmas.{meaning-is}
use Rattle.make_laws.proofs.generated_feeds_have_no_fault.Goals as goal

pub returns : goal.returns
returns c = meaning-is
