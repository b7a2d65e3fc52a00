use Rattle.std.proofs.Common.{arith, ◌++◌, false, length, take, drop, map, ap, ◌∙◌, refl, sym, subst}
use Rattle.std.proofs.lemmas.List.{length-map}
use Rattle.cost_rows.specs.Engines.{graph_before}
use Rattle.cost_rows.specs.Search.{AreNames}
use Rattle.cost_rows.proofs.SearchLemmas.{whole}
use Rattle.spf_incr.specs.Tables.{AreRows, IsEngineOver, engine_costs}
use Rattle.spf_incr.proofs.TableLemmas.{ends_named, row_length, still_rows, no_changes, table_over, engine_over, engine_changes}
use Rattle.spf_incr.proofs.table.Table.renew.Goals as goal

pub changes_nothing-requires-clause-rising : goal.changes_nothing-requires-clause-rising
changes_nothing-requires-clause-rising c = rw c.as_slice.ensures.value c.self.invariant.rising

pub changes_nothing-requires-clause-ends : goal.changes_nothing-requires-clause-ends
changes_nothing-requires-clause-ends c =
    let over = subst (λ e. IsEngineOver e (graph_before c.args.edge.now c.args.added c.args.graph.now)) (sym c.self.view_is) c.requires.over in
    let names = subst (λ e. AreNames c.args.graph.now e.names) (sym c.self.view_is) c.requires.names in
    rw c.as_slice.ensures.value (ends_named c.args.edge.now c.args.added c.args.graph.now c.self.inside.names.items c.requires.changed.0 names over.named)

pub changes_nothing-requires-clause-places : goal.changes_nothing-requires-clause-places
changes_nothing-requires-clause-places c =
    let over = subst (λ e. IsEngineOver e (graph_before c.args.edge.now c.args.added c.args.graph.now)) (sym c.self.view_is) c.requires.over in
    rw (c.as_slice.ensures.value, c.as_slice-2.ensures.value) (λ slot less.
    row_length (graph_before c.args.edge.now c.args.added c.args.graph.now) c.self.inside.names.items c.self.inside.members.items (map (λ row. row.items) c.self.inside.rows.items) over.rows slot
    (let len = length-map c.self.inside.rows.items (λ row. row.items) in let h = less in omega arith))

pub returns-then-changes_nothing-clause-over : goal.returns-then-changes_nothing-clause-over
returns-then-changes_nothing-clause-over c =
    let over = subst (λ e. IsEngineOver e (graph_before c.args.edge.now c.args.added c.args.graph.now)) (sym c.self.view_is) c.requires.over in
    let names = subst (λ e. AreNames c.args.graph.now e.names) (sym c.self.view_is) c.requires.names in
    let still = (rw (c.as_slice.ensures.value, c.as_slice-2.ensures.value) at c.if-changes_nothing.ensures) in
    subst (λ e. IsEngineOver e c.args.graph.now) c.self.view_is (engine_over _ c.args.graph.now over.unspent names
    (still_rows c.args.edge.now c.args.added c.args.graph.now c.self.inside.names.items c.self.inside.members.items (map (λ row. row.items) c.self.inside.rows.items) still.0 c.requires.changed.0 c.self.invariant.rising still.1 over.rows
    (λ slot less. still.2 slot (let len = length-map c.self.inside.rows.items (λ row. row.items) in let h = less in omega arith))))

pub returns-then-changes_nothing-clause-changes : goal.returns-then-changes_nothing-clause-changes
returns-then-changes_nothing-clause-changes c = rw c.new.ensures.items (no_changes (engine_costs c.args.self.now))

pub way_of-requires-clause-ends : goal.way_of-requires-clause-ends
way_of-requires-clause-ends c =
    let over = subst (λ e. IsEngineOver e (graph_before c.args.edge.now c.args.added c.args.graph.now)) (sym c.self.view_is) c.requires.over in
    let names = subst (λ e. AreNames c.args.graph.now e.names) (sym c.self.view_is) c.requires.names in
    rw (c.in_ok-places.ensures.names ∙ c.as_slice-3.ensures.value) (ends_named c.args.edge.now c.args.added c.args.graph.now c.self.inside.names.items c.requires.changed.0 names over.named)

pub follow_all-requires-clause-way : goal.follow_all-requires-clause-way
follow_all-requires-clause-way c =
    let over = subst (λ e. IsEngineOver e (graph_before c.args.edge.now c.args.added c.args.graph.now)) (sym c.self.view_is) c.requires.over in (
      graph_before c.args.edge.now c.args.added c.args.graph.now,
      c.requires.graph,
      c.edges-edges.ensures.kept,
      c.in_ok-way.ensures,
      rw (c.in_ok-places.ensures.names ∙ c.as_slice-3.ensures.value, c.as_slice-4.ensures.value, c.deref_mut.ensures.value) over.rows,
    )

pub invariant_of-self-2 : goal.invariant_of-self-2
invariant_of-self-2 c =
    let names = subst (λ e. AreNames c.args.graph.now e.names) (sym c.self.view_is) c.requires.names in
    let rows = rw (c.in_ok-places.ensures.names ∙ c.as_slice-3.ensures.value, c.as_slice-4.ensures.value) at c.in_ok-pairs.ensures.rows in
    rw (whole c.follow_all.new.rows c.self.inside.rows.items c.self.inside.rows.len (c.follow_all.auto.rows ∙ c.deref_mut.ensures.len))
    (table_over c.args.graph.now c.self.inside.members.items c.self.inside.names.items (map (λ row. row.items) c.follow_all.new.rows) _ c.self.invariant.few names rows)

pub returns-clause-over : goal.returns-clause-over
returns-clause-over c =
    let names = subst (λ e. AreNames c.args.graph.now e.names) (sym c.self.view_is) c.requires.names in
    let rows = rw (c.in_ok-places.ensures.names ∙ c.as_slice-3.ensures.value, c.as_slice-4.ensures.value) at c.in_ok-pairs.ensures.rows in
    engine_over _ c.args.graph.now refl names
    (subst (λ rows. AreRows c.args.graph.now c.self.inside.names.items c.self.inside.members.items (map (λ row. row.items) rows))
    (sym (whole c.follow_all.new.rows c.self.inside.rows.items c.self.inside.rows.len (c.follow_all.auto.rows ∙ c.deref_mut.ensures.len))) rows)

pub returns-clause-changes : goal.returns-clause-changes
returns-clause-changes c =
    let over = subst (λ e. IsEngineOver e (graph_before c.args.edge.now c.args.added c.args.graph.now)) (sym c.self.view_is) c.requires.over in
    let named = c.in_ok-places.ensures.names ∙ c.as_slice-3.ensures.value in
    engine_changes c.args.self.now
    (record { members = c.self.inside.members.items; names = c.self.inside.names.items; rows = map (λ row. row.items) (take c.self.inside.rows.len (c.follow_all.new.rows ++ drop (length c.follow_all.new.rows) c.self.inside.rows.items)); is_spent = false })
    c.in_ok-places.places.names.items (map (λ row. row.items) c.deref_mut.result.now) (map (λ row. row.items) c.follow_all.new.rows) c.in_ok-pairs.pairs.items
    c.requires.over.unspent refl (named ∙ ap (λ e. e.names) c.self.view_is) named (ap (map (λ row. row.items)) c.deref_mut.ensures.value ∙ ap (λ e. e.rows) c.self.view_is)
    (ap (map (λ row. row.items)) (sym (whole c.follow_all.new.rows c.self.inside.rows.items c.self.inside.rows.len (c.follow_all.auto.rows ∙ c.deref_mut.ensures.len)))) c.in_ok-pairs.ensures.changes
