use Rattle.std.proofs.Common.{map, ◌∙◌, sym, refl, subst}
use Rattle.spf_incr.specs.Tables.{AreRows}
use Rattle.spf_incr.proofs.TableLemmas.{table_over, engine_over}
use Rattle.spf_incr.proofs.table.Table.new.Goals as goal

pub invariant_of-result : goal.invariant_of-result
invariant_of-result c =
    let rows = subst (λ names. AreRows c.args.graph.now names c.args.members.now (map (λ row. row.items) c.in_ok-rows.rows.items)) (c.in_ok-places.ensures.names ∙ c.as_slice.ensures.value) c.in_ok-rows.ensures in
    rw c.in_ok-members.ensures.items (table_over c.args.graph.now c.args.members.now c.in_ok-names.names.items (map (λ row. row.items) c.in_ok-rows.rows.items) _ c.requires.few c.in_ok-names.ensures.names rows)

pub returns-clause-over : goal.returns-clause-over
returns-clause-over c =
    let rows = subst (λ names. AreRows c.args.graph.now names c.args.members.now (map (λ row. row.items) c.in_ok-rows.rows.items)) (c.in_ok-places.ensures.names ∙ c.as_slice.ensures.value) c.in_ok-rows.ensures in
    engine_over _ c.args.graph.now refl c.in_ok-names.ensures.names (subst (λ members. AreRows c.args.graph.now c.in_ok-names.names.items members (map (λ row. row.items) c.in_ok-rows.rows.items)) (sym c.in_ok-members.ensures.items) rows)
