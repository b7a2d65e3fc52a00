use Rattle.platform_laws.proofs.PartEvents.{parts-after, parts-after_all}
use Rattle.platform_laws.proofs.parts.an_event_acts_on_its_shards.Goals as goal

pub returns : goal.returns
returns c = record { one = parts-after; all = parts-after_all }
