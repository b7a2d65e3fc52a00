use Rattle.std.proofs.Common.{ℕ, List, map, None, Vec, Global, sym, ap, subst, ◌∙◌}
use Rattle.std.specs.List.{AllByRecursion}
use Rattle.std.proofs.lemmas.Result.{IfOk-weaker}
use Rattle.rcp_model.specs.Cells.{IsSendable}
use Rattle.rcp_model.specs.Packing.{packed}
use Rattle.update_pack.specs.declared.offered.OfferedCell.{OfferedCell}
use Rattle.update_pack.specs.Shown.{offered_cell}
use Rattle.rcs_shards.specs.Fronts.{AreFronts}
use Rattle.rcs_shards.proofs.SendLemmas.{IsShort, packed-short, short-messages}
use Rattle.rcs_shards.proofs.ReadLemmas.{packed-offered}
use Rattle.rcs_shards.proofs.sending.updates.Goals as goal

pub read_cells-requires-clause-fronts : goal.read_cells-requires-clause-fronts
read_cells-requires-clause-fronts c = subst (λ last. AreFronts c.args.shards.now c.args.busy.now c.args.slot last c.find_fronts.new.cursors.prefixes.items c.find_fronts.new.cursors.routes.items) (sym c.find_fronts.ensures.last) c.find_fronts.ensures.fronts

pub pack_cells-requires : goal.pack_cells-requires
pack_cells-requires c = subst (λ (l : List OfferedCell). AllByRecursion IsSendable (map offered_cell l)) (sym c.deref.ensures.value) c.in_ok-read_cells.ensures.cells.sendable

pub returns-clause-packed : goal.returns-clause-packed
returns-clause-packed c =
    IfOk-weaker c.pack_cells.result _ _
    (λ messages e prefixes dirty. e ∙ ap (λ (l : List OfferedCell). packed (map offered_cell l)) c.deref.ensures.value
    ∙ packed-offered c.args.roster.now c.args.shards.now c.args.slot (map offered_cell c.read_cells.new.cells.items) c.in_ok-read_cells.ensures.cells prefixes dirty)
    c.pack_cells.ensures

pub returns-clause-short : goal.returns-clause-short
returns-clause-short c =
    let offered = c.in_ok-read_cells.ensures.cells in
    let short = packed-short c.args.roster.now c.args.shards.now c.args.slot _ offered.dirty.rising (subst (AllByRecursion IsSendable) offered.values offered.sendable) in
    IfOk-weaker c.pack_cells.result _ _
    (λ messages e. short-messages (λ (m : Vec ℕ Global). m.items) messages.items
    (subst (AllByRecursion IsShort) (sym (e ∙ ap (λ (l : List OfferedCell). packed (map offered_cell l)) c.deref.ensures.value ∙ ap packed offered.values)) short))
    c.pack_cells.ensures
