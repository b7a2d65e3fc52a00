use Rattle.std.proofs.Common.{◌≡◌, ℕ, List, ◌++◌, Some, None, sym, ap, ◌∙◌}
use Rattle.rcp_base.specs.Roster.{RosterOf}
use Rattle.rcp_model.specs.Attributes.{number_width}
use Rattle.rcp_model.specs.Routes.{route_in}
use Rattle.rcp_model.specs.RouteServer.{table_of}
use Rattle.feed_meaning.specs.Work.{cell_of}
use Rattle.platform_laws.specs.Asked.{given_route, octets_of}
use Rattle.rcp_run.specs.Tables.{route_line}
use Rattle.rcp_run.specs.Entries.{AddsEntry}
use Rattle.rcp_run.proofs.AskedLemmas.{given-asked}
use Rattle.rcp_run.proofs.TableLemmas.{entry-is, no-entry, on_ok}
use Rattle.rcp_run.proofs.tables.put_entry.Goals as goal

pub returns-in-Some-clause-entry : goal.returns-in-Some-clause-entry
returns-in-Some-clause-entry c =
    let attrs : Some c.in-Some.route.now.attrs ≡ octets_of (given_route c.args.platform.now.seen.roster c.args.platform.now.seen.shards c.args.prefix c.args.slot) = c.in-Some.ensures.attrs in
    let fields : c.in-Some.route.now ≡ route_in number_width c.args.platform.now.seen.roster.as_number c.in-Some.route.now.attrs = c.in-Some.ensures.fields in
    let added : c.put_route.new.text.items ≡ c.args.text.now.items ++ route_line c.args.prefix c.in-Some.route.now.next_hop c.in-Some.route.now.pref c.in-Some.route.now.attrs
    → AddsEntry c.args.platform.now.seen c.args.slot c.args.prefix c.args.text.now.items c.put_route.new.text.items =
    λ adds platform h.
    adds ∙ ap (λ (l : List ℕ). c.args.text.now.items ++ l)
    (entry-is platform.roster.as_number c.args.prefix c.in-Some.route.now (cell_of (table_of platform.server c.args.slot) c.args.prefix)
    (sym (attrs ∙ given-asked platform c.args.platform.now.seen h c.args.prefix c.args.slot))
    (fields ∙ ap (λ (r : RosterOf). route_in number_width r.as_number c.in-Some.route.now.attrs) h.roster)) in
    on_ok c.put_route.result added c.put_route.ensures

pub returns-in-None-clause-entry : goal.returns-in-None-clause-entry
returns-in-None-clause-entry c = λ platform h.
    let attrs : None ≡ octets_of (given_route c.args.platform.now.seen.roster c.args.platform.now.seen.shards c.args.prefix c.args.slot) = c.in-None.ensures.attrs in
    no-entry platform.roster.as_number c.args.prefix c.args.text.now.items (cell_of (table_of platform.server c.args.slot) c.args.prefix)
    (sym (attrs ∙ given-asked platform c.args.platform.now.seen h c.args.prefix c.args.slot))
