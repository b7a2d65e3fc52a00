-- Each cell goes into the group of its value, and the messages are those of all groups.
use Rattle.std.proofs.Common.{List, sym, ap, subst, ◌∙◌}
use Rattle.std.specs.Prelude.{flat_map}
use Rattle.std.proofs.lemmas.Result.{IfOk-weaker}
use Rattle.rcp_model.specs.Packing.{group_updates}
use Rattle.update_pack.specs.declared.group.Group.{Group}
use Rattle.update_pack.specs.Values.{value_in}
use Rattle.update_pack.specs.Shown.{offered_cell, groups_in}
use Rattle.update_pack.specs.Places.{ArePlaces, IsAPlace}
use Rattle.update_pack.proofs.PackLemmas.{count_short, sendable-at, grouped-none, grouped-more, grouped-packed}
use Rattle.update_pack.proofs.PlaceLemmas.{placed-none, at_start}
use Rattle.update_pack.proofs.cells.pack_groups.Goals as goal

pub loop-cell-init : goal.loop-cell-init
loop-cell-init c = (
  grouped-none offered_cell c.args.cells.now _ c.in_ok-groups.ensures,
  subst (ArePlaces c.new-places.result) (sym c.in_ok-groups.ensures) (placed-none c.new-places.result c.new-places.ensures.empty),
  subst (IsAPlace 0) (sym c.in_ok-groups.ensures) at_start,
)

pub put-requires-clause-short : goal.put-requires-clause-short
put-requires-clause-short c = count_short (value_in c.cell-item.result.attrs) (sendable-at offered_cell c.args.cells.now c.loop-cell.cell-index c.cell-item.result c.requires c.loop-cell-test.true c.cell-item.is).short

pub loop-cell-preserved : goal.loop-cell-preserved
loop-cell-preserved c =
    let sendable = sendable-at offered_cell c.args.cells.now c.loop-cell.cell-index c.cell-item.result c.requires c.loop-cell-test.true c.cell-item.is in (
      grouped-more offered_cell c.args.cells.now c.loop-cell.cell-index (groups_in c.loop-cell.groups.items) _ c.cell-item.result c.loop-cell.invariant.0 c.loop-cell-test.true c.cell-item.is sendable c.in_ok-last.ensures.grouped,
      c.in_ok-last.ensures.placed,
      c.in_ok-last.ensures.last,
    )

pub returns : goal.returns
returns c =
    IfOk-weaker c.write_groups.result _ _
    (λ messages e. grouped-packed offered_cell c.args.cells.now c.loop-cell.cell-index (groups_in c.loop-cell.groups.items) c.loop-cell.invariant.0 c.loop-cell-test.false _
    (e ∙ ap (λ (l : List Group). flat_map group_updates (groups_in l)) c.as_slice.ensures.value))
    c.write_groups.ensures
