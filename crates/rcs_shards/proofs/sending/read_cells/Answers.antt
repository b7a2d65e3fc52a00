use Rattle.std.proofs.Common.{◌≡◌, true, not, cond, is_ok, List, ◌∷◌, ◌++◌, [], map, Some, None, ap, sym, subst, ◌∙◌}
use Rattle.std.specs.Prelude.{option_map}
use Rattle.std.proofs.lemmas.List.{map-append}
use Rattle.update_pack.specs.declared.offered.OfferedCell.{OfferedCell}
use Rattle.update_pack.specs.Shown.{offered_cell}
use Rattle.rcs_shards.specs.Fronts.{IsNextCell}
use Rattle.rcs_shards.proofs.ReadLemmas.{AreListed, listed-none, listed-more, listed-all}
use Rattle.rcs_shards.proofs.sending.read_cells.Goals as goal

pub loop-cell-init : goal.loop-cell-init
loop-cell-init c = record {
  listed = subst (λ (l : List OfferedCell). AreListed c.args.roster.now c.args.shards.now c.args.slot (map offered_cell l) c.args.cursors.now.last) (sym c.requires.none)
      (subst (AreListed c.args.roster.now c.args.shards.now c.args.slot []) (sym c.requires.first) (listed-none c.args.roster.now c.args.shards.now c.args.slot));
  fronts = c.requires.fronts;
  passed = c.requires.passed;
}

pub loop-cell-preserved : goal.loop-cell-preserved
loop-cell-preserved c =
    let ok : is_ok c.push.result ≡ true = c.is_err.ensures.negation ∙ ap not c.if-is_err.false in
    let pushed : c.push.new.self.items ≡ c.loop-cell.cells.items ++ c.in-Some.cell ∷ [] =
    c.push.ensures.items ∙ ap (λ b. cond b (c.loop-cell.cells.items ++ c.in-Some.cell ∷ []) c.loop-cell.cells.items) ok in
    record {
      listed = listed-more c.args.roster.now c.args.shards.now c.args.slot (map offered_cell c.loop-cell.cells.items) (map offered_cell c.push.new.self.items) c.loop-cell.cursors.last c.next_cell.new.cursors.last
          (offered_cell c.in-Some.cell) c.loop-cell.invariant.listed
          (subst (λ o. IsNextCell c.args.roster.now c.args.shards.now c.args.slot c.loop-cell.cursors.last c.next_cell.new.cursors.last (option_map offered_cell o)) c.in-Some.is c.next_cell.ensures.next)
          (ap (map offered_cell) pushed ∙ map-append offered_cell c.loop-cell.cells.items (c.in-Some.cell ∷ []));
      fronts = c.next_cell.ensures.fronts;
      passed = c.next_cell.ensures.passed;
    }
