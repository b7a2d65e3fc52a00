use Rattle.platform_laws.proofs.TurnSteps.{seen-turn, seen-turns}
use Rattle.platform_laws.proofs.turns.a_turn_acts_on_its_session_and_the_shards.Goals as goal

pub returns : goal.returns
returns c = record { one = seen-turn; all = seen-turns }
