use Rattle.lsdb.proofs.ListedLinks.{not-both}
use Rattle.lsdb.proofs.laws.one_is_more_recent.Goals as goal

pub returns : goal.returns
returns c = not-both
