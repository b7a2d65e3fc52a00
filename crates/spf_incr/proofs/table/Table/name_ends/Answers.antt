use Rattle.std.proofs.Common.{map, sym, subst}
use Rattle.cost_rows.specs.Engines.{graph_before}
use Rattle.cost_rows.specs.Search.{AreNames}
use Rattle.spf_incr.specs.Tables.{IsEngineOver}
use Rattle.spf_incr.proofs.TableLemmas.{names_after, names_before, table_over, engine_over}
use Rattle.spf_incr.proofs.table.Table.name_ends.Goals as goal

pub returns-then-ends_have_places-clause-names : goal.returns-then-ends_have_places-clause-names
returns-then-ends_have_places-clause-names c =
    let over = subst (λ e. IsEngineOver e (graph_before c.args.edge.now c.args.added c.args.graph.now)) (sym c.self.view_is) c.requires.over in
    subst (λ e. AreNames c.args.graph.now e.names) c.self.view_is
    (names_after c.args.edge.now c.args.added c.args.graph.now c.self.inside.names.items (c.requires.changed.0) (rw c.as_slice.ensures.value at c.if-ends_have_places.ensures.named) over.named)

pub carried_rows-requires : goal.carried_rows-requires
carried_rows-requires c =
    let over = subst (λ e. IsEngineOver e (graph_before c.args.edge.now c.args.added c.args.graph.now)) (sym c.self.view_is) c.requires.over in
    let added = c.if-ends_have_places.ensures.unnamed in
    record {
      rows = (
        graph_before c.args.edge.now c.args.added c.args.graph.now,
        c.self.inside.members.items,
        subst (AreNames (graph_before c.args.edge.now c.args.added c.args.graph.now)) (sym c.as_slice-3.ensures.value) over.named,
        rw (c.as_slice-3.ensures.value, c.as_slice-4.ensures.value) over.rows,
        subst (AreNames (graph_before c.args.edge.now c.args.added c.args.graph.now)) (sym c.as_slice-5.ensures.value)
            (names_before c.args.edge.now c.args.added c.args.graph.now c.in_ok-names.names.items added (c.requires.changed.0 added) c.in_ok-names.ensures.names),
        λ slot root seat. rw c.as_slice-5.ensures.value (c.in_ok-names.ensures.named slot root (rw c.as_slice-2.ensures.value seat)),
      );
    }

pub invariant_of-self : goal.invariant_of-self
invariant_of-self c =
    let over = subst (λ e. IsEngineOver e (graph_before c.args.edge.now c.args.added c.args.graph.now)) (sym c.self.view_is) c.requires.over in
    let added = c.if-ends_have_places.ensures.unnamed in
    let names = names_before c.args.edge.now c.args.added c.args.graph.now c.in_ok-names.names.items added (c.requires.changed.0 added) c.in_ok-names.ensures.names in
    table_over (graph_before c.args.edge.now c.args.added c.args.graph.now) c.self.inside.members.items c.in_ok-names.names.items (map (λ row. row.items) c.in_ok-rows.rows.items) c.self.inside.spent c.self.invariant.few names
    (rw c.as_slice-5.ensures.value at (c.in_ok-rows.ensures (graph_before c.args.edge.now c.args.added c.args.graph.now) c.self.inside.members.items
    (subst (AreNames (graph_before c.args.edge.now c.args.added c.args.graph.now)) (sym c.as_slice-3.ensures.value) over.named) (rw (c.as_slice-3.ensures.value, c.as_slice-4.ensures.value) over.rows)
    (subst (AreNames (graph_before c.args.edge.now c.args.added c.args.graph.now)) (sym c.as_slice-5.ensures.value) names) (λ slot root seat. rw c.as_slice-5.ensures.value (c.in_ok-names.ensures.named slot root (rw c.as_slice-2.ensures.value seat)))))

pub returns-clause-over : goal.returns-clause-over
returns-clause-over c =
    let over = subst (λ e. IsEngineOver e (graph_before c.args.edge.now c.args.added c.args.graph.now)) (sym c.self.view_is) c.requires.over in
    let added = c.if-ends_have_places.ensures.unnamed in
    let names = names_before c.args.edge.now c.args.added c.args.graph.now c.in_ok-names.names.items added (c.requires.changed.0 added) c.in_ok-names.ensures.names in
    engine_over _ (graph_before c.args.edge.now c.args.added c.args.graph.now) over.unspent names
    (rw c.as_slice-5.ensures.value at (c.in_ok-rows.ensures (graph_before c.args.edge.now c.args.added c.args.graph.now) c.self.inside.members.items
    (subst (AreNames (graph_before c.args.edge.now c.args.added c.args.graph.now)) (sym c.as_slice-3.ensures.value) over.named) (rw (c.as_slice-3.ensures.value, c.as_slice-4.ensures.value) over.rows)
    (subst (AreNames (graph_before c.args.edge.now c.args.added c.args.graph.now)) (sym c.as_slice-5.ensures.value) names) (λ slot root seat. rw c.as_slice-5.ensures.value (c.in_ok-names.ensures.named slot root (rw c.as_slice-2.ensures.value seat)))))
