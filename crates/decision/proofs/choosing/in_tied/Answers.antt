use Rattle.decision.proofs.ChoosingLemmas.{at_place}
use Rattle.decision.proofs.choosing.in_tied.Goals as goal

pub returns : goal.returns
returns c = at_place c.args.list.now c.args.place c.index-list-place.result c.is_beaten.result c.requires c.index-list-place.is c.is_beaten.ensures
