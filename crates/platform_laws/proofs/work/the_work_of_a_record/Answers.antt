use Rattle.platform_laws.proofs.WorkSteps.{seen-work, work-out, same-pending, same-summary}
use Rattle.platform_laws.proofs.work.the_work_of_a_record.Goals as goal

pub returns : goal.returns
returns c = record { after = seen-work; output = work-out; pending = same-pending; summary = same-summary }
