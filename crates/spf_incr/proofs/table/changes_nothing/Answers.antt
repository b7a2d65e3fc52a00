use Rattle.std.proofs.Common.{length, map, ap, ◌∙◌, sym, subst, arith, inl, inr}
use Rattle.std.proofs.lemmas.Option.{slice_get_within}
use Rattle.spf_incr.specs.Changes.{IsStill}
use Rattle.spf_incr.specs.Tables.{row_at}
use Rattle.spf_incr.proofs.TableLemmas.{item_row, last_cases}
use Rattle.spf_incr.proofs.table.changes_nothing.Goals as goal

pub may_change-requires-clause-begins : goal.may_change-requires-clause-begins
may_change-requires-clause-begins c =
    let within = slice_get_within c.args.names.now c.hop_of-hop.result.from c.args.edge.now.from c.hop_of-hop.ensures.begins in
    let here = ap length (item_row (λ row. row.items) c.args.rows.now c.loop-row.row-index c.row-item.result c.loop-row-test.true c.row-item.is) in
    let same = c.requires.places c.loop-row.row-index c.loop-row-test.true in
    let value = ap length c.as_slice.ensures.value in
    omega arith

pub may_change-requires-clause-ends : goal.may_change-requires-clause-ends
may_change-requires-clause-ends c =
    let within = slice_get_within c.args.names.now c.hop_of-hop.result.to c.args.edge.now.to c.hop_of-hop.ensures.ends in
    let here = ap length (item_row (λ row. row.items) c.args.rows.now c.loop-row.row-index c.row-item.result c.loop-row-test.true c.row-item.is) in
    let same = c.requires.places c.loop-row.row-index c.loop-row-test.true in
    let value = ap length c.as_slice.ensures.value in
    omega arith

pub loop-row-preserved : goal.loop-row-preserved
loop-row-preserved c = λ slot less. elim (last_cases slot c.loop-row.row-index less) [
  | inl before ↦ c.loop-row.invariant slot before
  | inr last ↦ subst (λ k. IsStill c.hop_of-hop.result c.args.added (row_at (map (λ row. row.items) c.args.rows.now) k)) (sym last)
      (subst (IsStill c.hop_of-hop.result c.args.added)
      (c.as_slice.ensures.value ∙ sym (item_row (λ row. row.items) c.args.rows.now c.loop-row.row-index c.row-item.result c.loop-row-test.true c.row-item.is)) c.if-may_change.ensures)
]

pub returns : goal.returns
returns c = (c.hop_of-hop.result, c.hop_of-hop.ensures, λ slot less. c.loop-row.invariant slot (let h = less in let past = c.loop-row-test.false in omega arith))
