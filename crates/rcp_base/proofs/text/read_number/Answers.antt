use Rattle.rcp_base.proofs.TextLemmas.{found_number, no_number}
use Rattle.rcp_base.proofs.text.read_number.Goals as goal

pub returns-clause-found : goal.returns-clause-found
returns-clause-found c = found_number c.args.text.now c.number_in.result c.number_in.ensures

pub returns-clause-none : goal.returns-clause-none
returns-clause-none c = no_number c.args.text.now c.number_in.result c.number_in.ensures
