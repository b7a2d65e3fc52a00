use Rattle.rib_laws.proofs.ListLookups.{given_in_tables}
use Rattle.rib_laws.proofs.join.tables_are_the_same.Goals as goal

pub returns : goal.returns
returns c = λ server p slot. given_in_tables server.tables (p, slot)
