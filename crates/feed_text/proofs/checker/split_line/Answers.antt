use Rattle.std.proofs.Common.{sym}
use Rattle.rcp_base.proofs.TextLemmas.{split_nowhere, split_there}
use Rattle.feed_text.proofs.checker.split_line.Goals as goal

pub returns-in_err-place-clause-lines : goal.returns-in_err-place-clause-lines
returns-in_err-place-clause-lines c = rw c.from_residual.ensures (split_nowhere _ c.args.text.now (sym c.in_err-place.ensures.first))

pub returns-clause-lines : goal.returns-clause-lines
returns-clause-lines c = split_there _ c.args.text.now c.in_ok-place.place (sym c.in_ok-place.ensures.first)
