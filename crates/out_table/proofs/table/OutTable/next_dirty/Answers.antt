use Rattle.std.proofs.Common.{◌≡◌, ℕ, ◌<◌, ◌≤◌, ◌&&◌, List, length, Option, Some, None, sym, ap, subst, ◌∙◌, rules}
use Rattle.std.specs.Option.{option_map}
use Rattle.std.proofs.lemmas.List.{get_or_read}
use Rattle.rcp_base.specs.IpPrefix.{IpPrefix}
use Rattle.out_table.specs.Tables.{cell, is_dirty, IsLeast, is_after}
use Rattle.std.specs.List.{AllByRecursion}
use Rattle.out_table.specs.Places.{prefix_in, no_prefix, cells_at, is_listed, IsRising}
use Rattle.out_table.proofs.FoundLemmas.{value_by}
use Rattle.out_table.proofs.LeastLemmas.{next_listed, next_past}
use Rattle.out_table.proofs.table.OutTable.next_dirty.Goals as goal

pub returns-then-slot-len-clause-least : goal.returns-then-slot-len-clause-least
returns-then-slot-len-clause-least c =
    let t = c.self.inside in
    let past : length t.columns.items ≤ c.slot.inside.0 = search rules in
    next_past c.args.self.now t.columns.members t.places.entries t.prefixes.items t.columns.items c.self.view_is c.slot.inside.0 c.args.slot c.slot.view_is past c.args.after

pub next_dirty-requires-clause-below : goal.next_dirty-requires-clause-below
next_dirty-requires-clause-below c =
    let t = c.self.inside in
    let less : c.slot.inside.0 < length t.columns.items = search rules in
    let same : t.prefixes.items ≡ c.as_slice.result.now = search rules in
    subst (λ (ps : List IpPrefix). AllByRecursion (λ place. place < length ps) (cells_at c.slot.inside.0 t.columns.items).dirty) same (c.self.invariant.each c.slot.inside.0 less).below

pub next_dirty-requires-clause-rising : goal.next_dirty-requires-clause-rising
next_dirty-requires-clause-rising c =
    let t = c.self.inside in
    let less : c.slot.inside.0 < length t.columns.items = search rules in
    let same : t.prefixes.items ≡ c.as_slice.result.now = search rules in
    subst (λ (ps : List IpPrefix). IsRising ps (cells_at c.slot.inside.0 t.columns.items).dirty) same (c.self.invariant.each c.slot.inside.0 less).rising

pub returns-in_err-place-clause-least : goal.returns-in_err-place-clause-least
returns-in_err-place-clause-least c =
    let t = c.self.inside in
    let same : c.as_slice.result.now ≡ t.prefixes.items = search rules in
    subst (λ (o : Option (IpPrefix × Option ℕ)). IsLeast (λ q. is_after c.args.after q && is_dirty c.args.self.now c.args.slot q) (option_map (λ found. found.0) o)) (sym c.from_residual.ensures)
    (next_listed c.args.self.now t.columns.members t.places.entries t.prefixes.items t.columns.items c.self.view_is c.slot.inside.0 c.args.slot c.slot.view_is c.args.after None
    (subst (λ (ps : List IpPrefix). IsLeast (λ q. is_after c.args.after q && is_listed q ps (cells_at c.slot.inside.0 t.columns.items).dirty) None) same c.in_err-place.ensures.least))

pub returns-clause-least : goal.returns-clause-least
returns-clause-least c =
    let t = c.self.inside in
    let same : c.as_slice.result.now ≡ t.prefixes.items = search rules in
    let within : c.in_ok-place.place < length t.prefixes.items = subst (λ (ps : List IpPrefix). c.in_ok-place.place < length ps) same c.in_ok-place.ensures.within in
    let read : c.index.result.now ≡ prefix_in t.prefixes.items c.in_ok-place.place = get_or_read t.prefixes.items c.in_ok-place.place c.index.result.now within c.index.ensures no_prefix in
    subst (λ (p : IpPrefix). IsLeast (λ q. is_after c.args.after q && is_dirty c.args.self.now c.args.slot q) (Some p)) (sym read)
    (next_listed c.args.self.now t.columns.members t.places.entries t.prefixes.items t.columns.items c.self.view_is c.slot.inside.0 c.args.slot c.slot.view_is c.args.after (Some (prefix_in t.prefixes.items c.in_ok-place.place))
    (subst (λ (ps : List IpPrefix). IsLeast (λ q. is_after c.args.after q && is_listed q ps (cells_at c.slot.inside.0 t.columns.items).dirty) (Some (prefix_in ps c.in_ok-place.place))) same c.in_ok-place.ensures.least))

pub returns-clause-value : goal.returns-clause-value
returns-clause-value c =
    let t = c.self.inside in
    let same : c.as_slice.result.now ≡ t.prefixes.items = search rules in
    let within : c.in_ok-place.place < length t.prefixes.items = subst (λ (ps : List IpPrefix). c.in_ok-place.place < length ps) same c.in_ok-place.ensures.within in
    let read : c.index.result.now ≡ prefix_in t.prefixes.items c.in_ok-place.place = get_or_read t.prefixes.items c.in_ok-place.place c.index.result.now within c.index.ensures no_prefix in
    c.number-value.ensures
    ∙ value_by c.args.self.now t.columns.members t.places.entries t.prefixes.items t.columns.items c.self.view_is c.self.invariant.inverse c.slot.inside.0 c.args.slot c.slot.view_is c.in_ok-place.place within
    ∙ ap (cell c.args.self.now c.args.slot) (sym read)
