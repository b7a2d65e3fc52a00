use Rattle.std.proofs.Common.{is_some, ap, sym, ◌∙◌}
use Rattle.out_table.specs.Tables.{Table, is_opened}
use Rattle.out_table.proofs.EntryLemmas.{opened_is}
use Rattle.out_table.proofs.table.OutTable.is_opened.Goals as goal

pub returns : goal.returns
returns c =
    let t = c.self.inside in
    c.is_some.ensures ∙ ap is_some c.place_of.ensures
    ∙ sym (opened_is t.columns.members t.places.entries t.prefixes.items t.columns.items c.args.p) ∙ ap (λ (u : Table). is_opened u c.args.p) c.self.view_is
