-- The cells so far are those of the offers so far.
use Rattle.std.proofs.Common.{◌≡◌, true, not, cond, is_ok, List, [], ◌∷◌, ◌++◌, map, refl, ap, sym, subst, ◌∙◌}
use Rattle.std.proofs.lemmas.List.{map-append}
use Rattle.rcp_model.specs.Cells.{Cell}
use Rattle.update_pack.specs.declared.offered.OfferedCell.{OfferedCell}
use Rattle.update_pack.specs.Shown.{cell_of, offered_cell}
use Rattle.update_pack.proofs.PackLemmas.{AreListed, listed-more, listed-all, sendable-all}
use Rattle.update_pack.proofs.offers.cells_of.Goals as goal

pub loop-offer-init : goal.loop-offer-init
loop-offer-init c = subst (λ (l : List OfferedCell). AreListed cell_of c.args.offers.now 0 (map offered_cell l)) (sym c.in_ok-cells.ensures.items) (record { listed = refl; sendable = tt })

pub loop-offer-preserved : goal.loop-offer-preserved
loop-offer-preserved c =
    let ok : is_ok c.push.result ≡ true = c.is_err.ensures.negation ∙ ap not c.if-is_err.false in
    let pushed : c.push.new.self.items ≡ c.loop-offer.cells.items ++ c.cell_of.result ∷ [] =
    c.push.ensures.items ∙ ap (λ b. cond b (c.loop-offer.cells.items ++ c.cell_of.result ∷ []) c.loop-offer.cells.items) ok in
    listed-more cell_of c.args.offers.now c.loop-offer.offer-index _ _ c.offer-item.result c.loop-offer.invariant c.loop-offer-test.true c.offer-item.is c.cell_of.ensures.sendable
    (ap (map offered_cell) pushed ∙ map-append offered_cell c.loop-offer.cells.items (c.cell_of.result ∷ []) ∙ ap (λ (x : Cell). map offered_cell c.loop-offer.cells.items ++ x ∷ []) c.cell_of.ensures.cell)

pub returns-clause-cells : goal.returns-clause-cells
returns-clause-cells c = listed-all cell_of c.args.offers.now c.loop-offer.offer-index (map offered_cell c.loop-offer.cells.items) c.loop-offer.invariant c.loop-offer-test.false

pub returns-clause-sendable : goal.returns-clause-sendable
returns-clause-sendable c = sendable-all cell_of c.args.offers.now c.loop-offer.offer-index (map offered_cell c.loop-offer.cells.items) c.loop-offer.invariant c.loop-offer-test.false
