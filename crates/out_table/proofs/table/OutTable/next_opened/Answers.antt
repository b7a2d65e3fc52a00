use Rattle.std.proofs.Common.{◌&&◌, Option, Some, sym, subst}
use Rattle.rcp_base.specs.IpPrefix.{IpPrefix}
use Rattle.out_table.specs.Tables.{is_opened, is_after, IsLeast}
use Rattle.out_table.proofs.LeastLemmas.{next_of_all, next_after}
use Rattle.out_table.proofs.table.OutTable.next_opened.Goals as goal

pub returns-in-None : goal.returns-in-None
returns-in-None c =
    let t = c.self.inside in
    subst (λ (a : Option IpPrefix). IsLeast (λ q. is_after a q && is_opened c.args.self.now q) c.first.result) (sym c.in-None.is)
    (subst (IsLeast (λ q. is_opened c.args.self.now q)) (sym c.first.ensures)
    (next_of_all c.args.self.now t.columns.members t.room t.places.entries t.prefixes.items t.columns.items c.self.view_is c.self.invariant))

pub returns-in-Some : goal.returns-in-Some
returns-in-Some c =
    let t = c.self.inside in
    subst (λ (a : Option IpPrefix). IsLeast (λ q. is_after a q && is_opened c.args.self.now q) c.first_after.result) (sym c.in-Some.is)
    (subst (IsLeast (λ q. is_after (Some c.in-Some.p) q && is_opened c.args.self.now q)) (sym c.first_after.ensures)
    (next_after c.args.self.now t.columns.members t.room c.in-Some.p t.places.entries t.prefixes.items t.columns.items c.self.view_is c.self.invariant))
