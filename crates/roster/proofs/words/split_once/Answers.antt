use Rattle.std.proofs.Common.{sym}
use Rattle.rcp_base.proofs.TextLemmas.{split_nowhere, split_there}
use Rattle.roster.proofs.words.split_once.Goals as goal

pub returns-in_err-place-clause-parts : goal.returns-in_err-place-clause-parts
returns-in_err-place-clause-parts c = rw c.from_residual.ensures (split_nowhere _ c.args.text.now (sym c.in_err-place.ensures))

pub returns-clause-parts : goal.returns-clause-parts
returns-clause-parts c = split_there _ c.args.text.now c.in_ok-place.place (sym c.in_ok-place.ensures)
