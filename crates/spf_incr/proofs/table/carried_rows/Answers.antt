use Rattle.std.proofs.Common.{map, length, ap, ◌∙◌, sym, subst, arith}
use Rattle.std.proofs.lemmas.List.{length-map, take_all}
use Rattle.cost_rows.specs.Search.{found_at}
use Rattle.spf_incr.specs.Tables.{AreRows}
use Rattle.spf_incr.proofs.TableLemmas.{item_row, row_length, carried_all}
use Rattle.spf_incr.proofs.table.carried_rows.Goals as goal

pub carried-requires-clause-places : goal.carried-requires-clause-places
carried-requires-clause-places c =
    ap length (c.as_slice.ensures.value ∙ sym (item_row (λ row. row.items) c.args.rows.now c.loop-row.row-index c.row-item.result c.loop-row-test.true c.row-item.is))
    ∙ row_length c.requires.rows.0 c.args.old.now c.requires.rows.1 (map (λ row. row.items) c.args.rows.now) c.requires.rows.3 c.loop-row.row-index
    (let len = length-map c.args.rows.now (λ row. row.items) in let less = c.loop-row-test.true in omega arith)

pub returns : goal.returns
returns c = λ before members old rows names named.
    subst (AreRows before c.args.names.now members)
    (sym (c.loop-row.invariant ∙ ap (λ rows. map (λ row. map (found_at c.args.old.now row) c.args.names.now) (map (λ row. row.items) rows)) (take_all c.loop-row.row-index c.args.rows.now c.loop-row-test.false)))
    (carried_all before c.args.old.now c.args.names.now members (map (λ row. row.items) c.args.rows.now) names named rows)
