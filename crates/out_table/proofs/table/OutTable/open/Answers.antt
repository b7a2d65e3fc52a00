use Rattle.std.proofs.Common.{◌≡◌, ℕ, ◌<◌, ◌≤◌, OnOk, OnErr, length, sym, ap, subst, ◌∙◌, arith, rules}
use Rattle.out_table.specs.Tables.{Table, opened, is_opened}
use Rattle.out_table.specs.Places.{place_of, IsKept, IsRoom, table_of}
use Rattle.out_table.proofs.EntryLemmas.{opened_is}
use Rattle.out_table.proofs.OpenLemmas.{none_from, on_err, kept_grown, kept_room, table_grown, table_again, kept_either, table_ok, table_err}
use Rattle.out_table.proofs.table.OutTable.open.Goals as goal

pub returns-then-contains_key-clause-ok : goal.returns-then-contains_key-clause-ok
returns-then-contains_key-clause-ok c =
    let t = c.self.inside in
    subst (λ (u : Table). u ≡ opened c.args.p u) c.self.view_is (table_again t.columns.members c.args.p t.places.entries t.prefixes.items t.columns.items (sym c.if-contains_key.ensures))

pub invariant_of-self : goal.invariant_of-self
invariant_of-self c =
    let t = c.self.inside in
    subst (λ (m : ℕ). IsKept m t.room t.places.entries t.prefixes.items c.make_room.new.columns.items) (sym c.in_err-self-inside.ensures.members)
    (kept_grown t.columns.members t.room t.places.entries t.prefixes.items t.columns.items c.make_room.new.columns.items c.self.invariant c.in_err-self-inside.ensures.kept
    (subst (λ m. length c.make_room.new.columns.items ≤ m) c.in_err-self-inside.ensures.members c.in_err-self-inside.ensures.few))

pub returns-in_err-self-inside-clause-err : goal.returns-in_err-self-inside-clause-err
returns-in_err-self-inside-clause-err c =
    let t = c.self.inside in
    on_err c.from_residual.result _
    (ap (λ m. table_of m t.places.entries t.prefixes.items c.make_room.new.columns.items) c.in_err-self-inside.ensures.members
    ∙ table_grown t.columns.members t.places.entries t.prefixes.items t.columns.items c.make_room.new.columns.items c.self.invariant.inverse.sorted c.in_err-self-inside.ensures.kept ∙ c.self.view_is)

pub invariant_of-self-2 : goal.invariant_of-self-2
invariant_of-self-2 c =
    let t = c.self.inside in
    let count : c.len-place.result ≡ length t.prefixes.items = search rules in
    let enough = c.in_ok-self-inside.ensures.enough in
    let less : length t.prefixes.items < c.in_ok-self-inside.field-0 = subst (λ (n : ℕ). n < c.in_ok-self-inside.field-0) count enough.0 in
    let members = c.in_ok-self-inside.ensures.members in
    let roomy : IsRoom t.columns.members c.in_ok-self-inside.field-0 c.make_room.new.columns.items = subst (λ m. IsRoom m c.in_ok-self-inside.field-0 c.make_room.new.columns.items) members enough.1 in
    let kept = kept_room t.columns.members t.room c.in_ok-self-inside.field-0 t.places.entries t.prefixes.items t.columns.items c.make_room.new.columns.items c.self.invariant c.in_ok-self-inside.ensures.kept roomy (omega arith) in
    subst (λ m. IsKept m c.in_ok-self-inside.field-0 c.add_place.new.places.entries c.add_place.new.prefixes.items c.make_room.new.columns.items) (sym members)
    (kept_either c.add_place.result t.columns.members c.in_ok-self-inside.field-0 c.args.p t.places.entries c.add_place.new.places.entries t.prefixes.items c.add_place.new.prefixes.items c.make_room.new.columns.items kept less
    (none_from (place_of c.args.p t.places.entries) c.if-contains_key.ensures) c.add_place.ensures.place c.add_place.ensures.prefix c.add_place.ensures.places_err c.add_place.ensures.prefixes_err)

pub returns-clause-ok : goal.returns-clause-ok
returns-clause-ok c =
    let t = c.self.inside in
    let count : c.len-place.result ≡ length t.prefixes.items = search rules in
    let enough = c.in_ok-self-inside.ensures.enough in
    let less : length t.prefixes.items < c.in_ok-self-inside.field-0 = subst (λ (n : ℕ). n < c.in_ok-self-inside.field-0) count enough.0 in
    let members = c.in_ok-self-inside.ensures.members in
    let roomy : IsRoom t.columns.members c.in_ok-self-inside.field-0 c.make_room.new.columns.items = subst (λ m. IsRoom m c.in_ok-self-inside.field-0 c.make_room.new.columns.items) members enough.1 in
    let kept = kept_room t.columns.members t.room c.in_ok-self-inside.field-0 t.places.entries t.prefixes.items t.columns.items c.make_room.new.columns.items c.self.invariant c.in_ok-self-inside.ensures.kept roomy (omega arith) in
    subst (λ m. OnOk c.add_place.result (table_of m c.add_place.new.places.entries c.add_place.new.prefixes.items c.make_room.new.columns.items ≡ opened c.args.p c.args.self.now)) (sym members)
    (table_ok c.add_place.result c.args.self.now t.columns.members c.in_ok-self-inside.field-0 c.args.p t.places.entries c.add_place.new.places.entries t.prefixes.items c.add_place.new.prefixes.items c.make_room.new.columns.items kept
    (table_grown t.columns.members t.places.entries t.prefixes.items t.columns.items c.make_room.new.columns.items c.self.invariant.inverse.sorted c.in_ok-self-inside.ensures.kept ∙ c.self.view_is)
    (none_from (place_of c.args.p t.places.entries) c.if-contains_key.ensures) c.add_place.ensures.place c.add_place.ensures.prefix)

pub returns-clause-err : goal.returns-clause-err
returns-clause-err c =
    let t = c.self.inside in
    subst (λ m. OnErr c.add_place.result (table_of m c.add_place.new.places.entries c.add_place.new.prefixes.items c.make_room.new.columns.items ≡ c.args.self.now)) (sym c.in_ok-self-inside.ensures.members)
    (table_err c.add_place.result c.args.self.now t.columns.members t.places.entries c.add_place.new.places.entries t.prefixes.items c.add_place.new.prefixes.items c.make_room.new.columns.items
    (table_grown t.columns.members t.places.entries t.prefixes.items t.columns.items c.make_room.new.columns.items c.self.invariant.inverse.sorted c.in_ok-self-inside.ensures.kept ∙ c.self.view_is)
    c.add_place.ensures.places_err c.add_place.ensures.prefixes_err)

pub returns-then-place-clause-new : goal.returns-then-place-clause-new
returns-then-place-clause-new c =
    let t = c.self.inside in
    sym (ap (λ (u : Table). is_opened u c.args.p) c.self.view_is) ∙ opened_is t.columns.members t.places.entries t.prefixes.items t.columns.items c.args.p ∙ sym c.if-contains_key.ensures

pub returns-in_err-self-inside-clause-new : goal.returns-in_err-self-inside-clause-new
returns-in_err-self-inside-clause-new c =
    let t = c.self.inside in
    on_err c.from_residual.result _
    (sym (ap (λ (u : Table). is_opened u c.args.p) c.self.view_is) ∙ opened_is t.columns.members t.places.entries t.prefixes.items t.columns.items c.args.p ∙ sym c.if-contains_key.ensures)

pub returns-clause-new : goal.returns-clause-new
returns-clause-new c =
    let t = c.self.inside in
    on_err c.add_place.result _
    (sym (ap (λ (u : Table). is_opened u c.args.p) c.self.view_is) ∙ opened_is t.columns.members t.places.entries t.prefixes.items t.columns.items c.args.p ∙ sym c.if-contains_key.ensures)
