use Rattle.platform_laws.proofs.WorkSteps.{seen-worked, same-updates}
use Rattle.platform_laws.proofs.work.prefixes_are_worked_in_their_shards.Goals as goal

pub returns : goal.returns
returns c = record { after = seen-worked; updates = same-updates }
