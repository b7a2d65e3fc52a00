use Rattle.platform_laws.proofs.TurnSteps.{turns-alike}
use Rattle.platform_laws.proofs.turns.turns_depend_on_sessions.Goals as goal

pub returns : goal.returns
returns c = turns-alike
