use Rattle.std.proofs.Common.{◌≡◌, ℕ, List, [], ◌∷◌, ◌++◌, Some, option_map, slice_get, sym, ap, ◌∙◌, codes}
use Rattle.rcp_base.specs.Text.{address_text}
use Rattle.rcp_model.specs.RouteServer.{table_of}
use Rattle.rcp_base.specs.Roster.{RosterOf}
use Rattle.rcp_base.specs.declared.names.Member.{Member}
use Rattle.rcp_run.specs.Entries.{AddsTable, AddsEntries}
use Rattle.rcp_run.proofs.AskedLemmas.{connected-asked}
use Rattle.rcp_run.proofs.TableLemmas.{no-table, table-added, on_ok}
use Rattle.rcp_run.proofs.tables.put_table.Goals as goal

pub returns-then-not-connected : goal.returns-then-not-connected
returns-then-not-connected c = λ platform member h at.
    no-table platform.roster.as_number member.router c.args.text.now.items (table_of platform.server c.args.slot)
    (sym (connected-asked platform c.args.platform.now.seen h c.args.slot) ∙ sym c.connected.ensures ∙ c.if-not-connected.true)

pub returns : goal.returns
returns c =
    let line : c.extend_from_slice.new.self.items ≡ c.args.text.now.items ++ (codes "table " ++ address_text c.router.result ++ 10 ∷ []) =
    c.in_ok-extend_from_slice.ensures.items ∙ ap (λ (l : List ℕ). c.args.text.now.items ++ l) (c.as_bytes.ensures.value ∙ c.in_ok-line.ensures.ok) in
    let added : AddsEntries c.args.platform.now.seen c.args.slot c.extend_from_slice.new.self.items c.put_entries.new.text.items
    → AddsTable c.args.platform.now.seen c.args.slot c.args.text.now.items c.put_entries.new.text.items =
    λ adds platform member h at.
    let named : Some c.router.result ≡ Some member.router =
    sym c.router.ensures ∙ ap (λ (r : RosterOf). option_map (λ (m : Member). m.router) (slice_get r.members c.args.slot)) h.roster
    ∙ ap (option_map (λ (m : Member). m.router)) at in
    let router : c.router.result ≡ member.router = cc in
    table-added platform.roster.as_number member.router (table_of platform.server c.args.slot) c.args.text.now.items c.extend_from_slice.new.self.items c.put_entries.new.text.items
    (sym (connected-asked platform c.args.platform.now.seen h c.args.slot) ∙ sym c.connected.ensures ∙ c.if-not-connected.false)
    (line ∙ ap (λ (r : ℕ). c.args.text.now.items ++ (codes "table " ++ address_text r ++ 10 ∷ [])) router)
    (adds platform h) in
    on_ok c.put_entries.result added c.put_entries.ensures
