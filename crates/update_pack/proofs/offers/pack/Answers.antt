-- The offers' cells are packed.
use Rattle.std.proofs.Common.{List, map, sym, ap, subst, ◌∙◌}
use Rattle.std.specs.List.{AllByRecursion}
use Rattle.std.proofs.lemmas.Result.{IfOk-weaker}
use Rattle.rcp_model.specs.Cells.{Cell, IsSendable}
use Rattle.rcp_model.specs.Packing.{packed}
use Rattle.rcp_model.specs.Routes.{OfferFields}
use Rattle.update_pack.specs.declared.offered.OfferedCell.{OfferedCell}
use Rattle.update_pack.specs.Shown.{cell_of, offered_cell}
use Rattle.update_pack.proofs.PackLemmas.{packed-all}
use Rattle.update_pack.proofs.offers.pack.Goals as goal

pub pack_cells-requires : goal.pack_cells-requires
pack_cells-requires c =
    subst (AllByRecursion IsSendable) (sym c.in_ok-cells.ensures.cells ∙ sym (ap (λ (l : List OfferedCell). map offered_cell l) c.deref.ensures.value)) c.in_ok-cells.ensures.sendable

pub returns-clause-packed : goal.returns-clause-packed
returns-clause-packed c =
    IfOk-weaker c.pack_cells.result _ _
    (λ messages e. e ∙ ap (λ (l : List OfferedCell). packed (map offered_cell l)) c.deref.ensures.value ∙ ap packed c.in_ok-cells.ensures.cells)
    c.pack_cells.ensures

pub returns-clause-carried : goal.returns-clause-carried
returns-clause-carried c =
    IfOk-weaker c.pack_cells.result _ _
    (λ messages e rising. packed-all cell_of c.args.offers.now c.in_ok-cells.ensures.sendable
    (λ (cell : Cell). let o : OfferFields = record { generation = 0; prefix = cell.0; attrs = cell.1 } in o) _
    (e ∙ ap (λ (l : List OfferedCell). packed (map offered_cell l)) c.deref.ensures.value ∙ ap packed c.in_ok-cells.ensures.cells) rising)
    c.pack_cells.ensures
