use Rattle.rcs_shards.proofs.StepLemmas.{new-is, new-together}
use Rattle.rcs_shards.proofs.shards.Shards.new.Goals as goal

pub invariant_of-result : goal.invariant_of-result
invariant_of-result c = new-together c.args.roster c.args.view.value c.in_ok-shards.shards.items c.new_shards.ensures.some c.new_shards.ensures.few c.requires.members c.in_ok-shards.ensures.new

pub returns : goal.returns
returns c = new-is c.args.roster c.args.view.value c.in_ok-shards.shards.items c.new_shards.ensures.some c.new_shards.ensures.few c.requires.members c.in_ok-shards.ensures.new
