use Rattle.platform_laws.proofs.TurnSteps.{seen-turns_act, same-output}
use Rattle.platform_laws.proofs.turns.the_turns_of_a_record.Goals as goal

pub returns : goal.returns
returns c = record { after = seen-turns_act; output = same-output }
