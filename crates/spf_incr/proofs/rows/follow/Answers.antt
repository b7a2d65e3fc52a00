use Rattle.std.proofs.Common.{sym, ◌∙◌, ap, ◌++◌}
use Rattle.std.proofs.lemmas.List.{append-nil}
use Rattle.spf_incr.proofs.RowLemmas.{untouched_row}
use Rattle.spf_incr.proofs.PairLemmas.{changed-none}
use Rattle.spf_incr.proofs.rows.follow.Goals as goal

pub returns-then-not-is_touched-clause-row : goal.returns-then-not-is_touched-clause-row
returns-then-not-is_touched-clause-row c =
    untouched_row c.requires.way.0 c.args.graph.now c.args.places.now.names.items c.args.root c.args.way.now c.args.row.now.items c.requires.indexed.named.rising c.requires.way.3 c.requires.way.4 (rw c.as_slice.ensures.value at c.if-not-is_touched.ensures)

pub returns-then-not-is_touched-clause-pairs : goal.returns-then-not-is_touched-clause-pairs
returns-then-not-is_touched-clause-pairs c =
    sym (ap (λ more. c.args.pairs.now.items ++ more) (changed-none c.args.slot c.args.places.now.names.items c.args.row.now.items) ∙ append-nil c.args.pairs.now.items)
