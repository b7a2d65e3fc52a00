use Rattle.std.proofs.Common.{sym, ◌∙◌}
use Rattle.out_table.proofs.FoundLemmas.{members_by}
use Rattle.out_table.proofs.table.OutTable.members.Goals as goal

pub returns : goal.returns
returns c =
    let t = c.self.inside in
    c.members.ensures ∙ sym (members_by c.args.self.now t.columns.members t.places.entries t.prefixes.items t.columns.items c.self.view_is)
