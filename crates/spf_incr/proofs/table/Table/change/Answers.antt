use Rattle.std.proofs.Common.{◌≡◌, Result, Ok, Err, IfOk, false, refl, subst}
use Rattle.cost_rows.specs.Engines.{graph_before}
use Rattle.spf_incr.specs.Tables.{engine_costs}
use Rattle.spf_incr.proofs.TableLemmas.{changes_same, over_same}
use Rattle.spf_incr.proofs.table.Table.change.Goals as goal

weaker : {T E : Type 0} {P Q : T → Type 0} (r : Result T E) → ((x : T) → P x → Q x) → IfOk r P → IfOk r Q
weaker (Ok x) f p = f x p
weaker (Err e) f p = tt

pub returns-in-Ok-clause-changes : goal.returns-in-Ok-clause-changes
returns-in-Ok-clause-changes c =
    let over = c.requires.over (subst (λ e. e.is_spent ≡ false) c.self.view_is c.if-self.false) in
    weaker c.renew.result (λ pairs are.
    changes_same (engine_costs c.args.self.now) (engine_costs c.name_ends.new.self) (engine_costs c.renew.new.self) (engine_costs c.renew.new.self) pairs.items
    (over_same c.args.self.now c.name_ends.new.self (graph_before c.args.edge.now c.args.added c.args.graph.now) over c.in-Ok.ensures.over c.in-Ok.ensures.members) (λ slot router. refl) are) c.renew.ensures.changes
