use Rattle.platform_laws.specs.Parts.{roster_reader}
use Rattle.platform_laws.proofs.IdleSlots.{down-idle, change-idle, idle-after}
use Rattle.platform_laws.proofs.answers.idle_slots_change_nothing.Goals as goal

pub returns : goal.returns
returns c = record {
  down = λ roster ribs h slot down. down-idle (roster_reader roster) ribs h slot down;
  change = λ roster ribs h slot p route down. change-idle (roster_reader roster) ribs h slot p route down;
  kept = λ roster ribs h event. idle-after (roster_reader roster) ribs h event;
}
