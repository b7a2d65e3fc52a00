-- The numbers of faults.
use Rattle.std.specs.Prelude.{ℕ}
use Rattle.rcp_base.specs.declared.kinds.RosterWhy.{RosterWhy}
use Rattle.rcp_base.specs.declared.kinds.RosterWhy.TheVariants as why

abbrev pub number_of_fault : RosterWhy → ℕ
number_of_fault why.Word = 1
number_of_fault why.Number = 2
number_of_fault why.Repeated = 3
number_of_fault why.Unknown = 4
number_of_fault why.Missing = 5
number_of_fault why.TooMany = 6
