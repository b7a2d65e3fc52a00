use Rattle.platform_laws.proofs.RecordSteps.{seen-fresh, first-edges}
use Rattle.platform_laws.proofs.records.nothing_has_happened.Goals as goal

pub returns : goal.returns
returns c = record { seen = seen-fresh; edges = first-edges }
