use Rattle.rcp_model.proofs.UpdateLemmas.{update_fault-update_octets, changes_of-update_octets}
use Rattle.rcp_model.proofs.laws.reading.written_update_is_faultless.Goals as goal

pub returns : goal.returns
returns c = record {
  faultless = λ withdrawn announced attributes width fits gone new faultless. update_fault-update_octets withdrawn attributes announced fits width gone new faultless;
  changes = λ withdrawn announced attributes fits gone new. changes_of-update_octets withdrawn attributes announced fits gone new;
}
