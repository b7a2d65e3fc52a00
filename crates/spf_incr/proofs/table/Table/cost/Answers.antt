use Rattle.std.proofs.Common.{◌≡◌, slice_get, Some, map, length, refl, ap, ◌∙◌, sym, arith}
use Rattle.std.proofs.lemmas.List.{length-map}
use Rattle.std.proofs.lemmas.Option.{slice_get_read}
use Rattle.spf_incr.proofs.TableLemmas.{kept_length, cost_past}
use Rattle.spf_incr.proofs.table.Table.cost.Goals as goal

pub returns-in_err-row : goal.returns-in_err-row
returns-in_err-row c =
    c.from_residual.ensures ∙ rw (← c.self.view_is, ← c.from.view_is, c.if-self.false) (sym (cost_past c.self.inside.names.items (map (λ row. row.items) c.self.inside.rows.items) c.from.inside.0 c.args.to
    (omega (arith, length-map c.self.inside.rows.items (λ row. row.items), ap length c.deref.ensures.value, c.in_err-row.ensures.lookup.3))))

pub cost_in-requires-clause-places : goal.cost_in-requires-clause-places
cost_in-requires-clause-places c =
    let read : slice_get c.self.inside.rows.items c.from.inside.0 ≡ Some c.in_ok-row.row.now =
    rw c.deref.ensures.value at (slice_get_read c.deref.result.now _ c.from.inside.0 c.in_ok-row.row.now refl c.in_ok-row.ensures.lookup.3.0 c.in_ok-row.ensures.lookup.1) in
    ap length c.as_slice-2.ensures.value ∙ kept_length (λ row. row.items) c.self.inside.rows.items (length c.self.inside.names.items) c.from.inside.0 c.in_ok-row.row.now (c.self.invariant.places c.if-self.false) read ∙ ap length (sym c.as_slice.ensures.value)
