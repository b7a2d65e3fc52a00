use Rattle.platform_laws.proofs.PartEvents.{settled-shards}
use Rattle.platform_laws.proofs.parts.shards_stay_settled.Goals as goal

pub returns : goal.returns
returns c = settled-shards
