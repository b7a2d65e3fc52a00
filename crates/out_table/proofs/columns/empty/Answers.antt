use Rattle.std.proofs.Common.{◌<◌, length, sym, ◌∙◌, subst}
use Rattle.out_table.specs.Columns.{index_of}
use Rattle.out_table.proofs.ColumnLemmas.{index_within, empties-more}
use Rattle.out_table.proofs.columns.empty.Goals as goal

pub loop-place-preserved : goal.loop-place-preserved
loop-place-preserved c =
    let within : index_of c.args.members c.args.slot c.loop-place.place < length c.loop-place.numbers.items =
    subst (λ n. index_of c.args.members c.args.slot c.loop-place.place < n) (sym (c.loop-place.invariant.len ∙ c.requires.whole)) (index_within c.args.members c.args.lines c.args.slot c.loop-place.place c.requires.slot c.loop-place-test.true) in
    empties-more c.args.members c.args.slot c.loop-place.place c.index-at.result c.args.numbers.now.items c.loop-place.numbers.items c.requires.slot c.loop-place.invariant c.index-at.ensures
    (subst (λ n. n < length c.loop-place.numbers.items) (sym c.index-at.ensures) within)
