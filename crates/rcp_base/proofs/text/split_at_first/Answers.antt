use Rattle.std.proofs.Common.{sym}
use Rattle.rcp_base.proofs.TextLemmas.{split_nowhere, split_there}
use Rattle.rcp_base.proofs.text.split_at_first.Goals as goal

pub returns-in_err-place : goal.returns-in_err-place
returns-in_err-place c = rw c.from_residual.ensures (split_nowhere _ c.args.text.now (sym c.in_err-place.ensures))

pub returns : goal.returns
returns c = split_there _ c.args.text.now c.in_ok-place.place (sym c.in_ok-place.ensures)
