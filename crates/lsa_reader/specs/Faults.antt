-- The numbers of faults.
use Rattle.std.specs.Prelude.{ℕ}
use Rattle.rcp_model.specs.declared.lsa_fault.LsaFault.{LsaFault}
use Rattle.rcp_model.specs.declared.lsa_fault.LsaFault.TheVariants as fault

abbrev pub number_of_fault : LsaFault → ℕ
number_of_fault fault.Short = 1
number_of_fault fault.Checksum = 2
number_of_fault fault.Links = 3
number_of_fault fault.Owner = 4
