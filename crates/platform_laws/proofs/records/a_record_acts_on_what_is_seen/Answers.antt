use Rattle.platform_laws.proofs.RecordSteps.{seen-act, act-out}
use Rattle.platform_laws.proofs.records.a_record_acts_on_what_is_seen.Goals as goal

pub returns : goal.returns
returns c = record { after = seen-act; output = act-out }
