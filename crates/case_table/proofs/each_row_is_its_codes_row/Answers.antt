use Rattle.case_table.proofs.Search.{row_of-contained}
use Rattle.case_table.proofs.each_row_is_its_codes_row.Goals as goal

pub returns : goal.returns
returns c = row_of-contained
