use Rattle.std.proofs.Common.{◌≡◌, ℕ, List, ◌++◌, ap, ◌∙◌, codes}
use Rattle.std.specs.Fmt.{decimal}
use Rattle.rcp_base.specs.Text.{address_text, prefix_text}
use Rattle.rcp_model.specs.Routes.{RouteFields}
use Rattle.path_attrs.specs.Texts.{path_text}
use Rattle.rcp_run.specs.Tables.{route_line}
use Rattle.rcp_run.proofs.TableLemmas.{line-added}
use Rattle.rcp_run.proofs.tables.put_route.Goals as goal

pub returns : goal.returns
returns c =
    let path : c.in_ok-path.path.items ≡ path_text c.args.route.now.attrs = c.in_ok-path.ensures ∙ ap path_text c.octets.ensures.octets in
    line-added c.args.text.now.items c.as_bytes.result.now (path_text c.args.route.now.attrs) (prefix_text c.args.prefix) (codes " next-hop ") (address_text c.route.inside.next_hop) (codes " local-pref ")
    (decimal c.route.inside.pref) (codes " path ") c.extend_from_slice.new.self.items c.extend_from_slice-2.new.self.items c.push.new.self.items
    (c.as_bytes.ensures.value ∙ c.in_ok-front.ensures.ok) c.in_ok-extend_from_slice.ensures.items
    (c.in_ok-extend_from_slice-2.ensures.items ∙ ap (λ (l : List ℕ). c.extend_from_slice.new.self.items ++ l) (c.deref.ensures.value ∙ path))
    c.in_ok-push.ensures.items
    ∙ ap (λ (r : RouteFields). c.args.text.now.items ++ route_line c.args.prefix r.next_hop r.pref c.args.route.now.attrs) c.route.view_is
