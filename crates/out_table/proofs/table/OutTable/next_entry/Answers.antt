use Rattle.std.proofs.Common.{◌<◌, ◌≤◌, ◌&&◌, length, Option, Some, None, is_some, sym, ap, subst, rules}
use Rattle.std.proofs.lemmas.Bool.{and_right}
use Rattle.rcp_base.specs.IpPrefix.{IpPrefix}
use Rattle.out_table.specs.Cells.{number_at}
use Rattle.out_table.specs.Tables.{cell, is_after, IsLeast}
use Rattle.out_table.specs.Places.{cells_at}
use Rattle.out_table.proofs.FoundLemmas.{cell_past}
use Rattle.out_table.proofs.LeastLemmas.{least_of_all, least_after, number_by}
use Rattle.out_table.proofs.table.OutTable.next_entry.Goals as goal

pub returns-then-slot-len : goal.returns-then-slot-len
returns-then-slot-len c =
    let t = c.self.inside in
    let past : length t.columns.items ≤ c.slot.inside.0 = search rules in
    λ q. and_right (is_after c.args.after q) (is_some (cell c.args.self.now c.args.slot q))
    (ap is_some (cell_past c.args.self.now t.columns.members t.places.entries t.prefixes.items t.columns.items c.self.view_is c.self.invariant.inverse.sorted c.slot.inside.0 c.args.slot c.slot.view_is past q))

pub returns-in-None : goal.returns-in-None
returns-in-None c =
    let t = c.self.inside in
    let less : c.slot.inside.0 < length t.columns.items = search rules in
    subst (λ (a : Option IpPrefix). IsLeast (λ q. is_after a q && is_some (cell c.args.self.now c.args.slot q)) c.first_with.result) (sym c.in-None.is)
    (subst (IsLeast (λ q. is_after None q && is_some (cell c.args.self.now c.args.slot q)))
    (sym c.first_with.ensures)
    (least_of_all (λ k. is_some (number_at k (cells_at c.slot.inside.0 t.columns.items).numbers)) t.places.entries (λ q. is_some (cell c.args.self.now c.args.slot q)) c.self.invariant.inverse.sorted
    (number_by c.args.self.now t.columns.members t.places.entries t.prefixes.items t.columns.items c.self.view_is c.self.invariant.inverse.sorted c.slot.inside.0 c.args.slot c.slot.view_is)))

pub returns-in-Some : goal.returns-in-Some
returns-in-Some c =
    let t = c.self.inside in
    let less : c.slot.inside.0 < length t.columns.items = search rules in
    subst (λ (a : Option IpPrefix). IsLeast (λ q. is_after a q && is_some (cell c.args.self.now c.args.slot q)) c.first_after_with.result) (sym c.in-Some.is)
    (subst (IsLeast (λ q. is_after (Some c.in-Some.p) q && is_some (cell c.args.self.now c.args.slot q)))
    (sym c.first_after_with.ensures)
    (least_after (λ k. is_some (number_at k (cells_at c.slot.inside.0 t.columns.items).numbers)) c.in-Some.p t.places.entries (λ q. is_some (cell c.args.self.now c.args.slot q)) c.self.invariant.inverse.sorted
    (number_by c.args.self.now t.columns.members t.places.entries t.prefixes.items t.columns.items c.self.view_is c.self.invariant.inverse.sorted c.slot.inside.0 c.args.slot c.slot.view_is)))
