-- The links and the members of a roster.
use Rattle.std.proofs.Common.{◌≡◌, ◌≢◌, ℕ, ◌<◌, ◌≤◌, Bool, true, ◌==◌, List, [], ◌∷◌, length, map, All, Contains, refl, sym, ap, subst, ◌∙◌, arith, eqb-true}
use Rattle.std.proofs.lemmas.List.{length-map}
use Rattle.std.proofs.lemmas.List.Elements.{All-contains}
use Rattle.rcp_base.specs.declared.names.Member.{Member}
use Rattle.rcp_base.specs.Roster.{has_router}
use Rattle.rcp_base.specs.declared.names.Edge.{Edge}
use Rattle.rcp_base.specs.Roster.{RosterOf}
use Rattle.rcp_model.specs.Graphs as graphs
use Rattle.rcp_model.proofs.GraphLemmas.{routers_within}
use Rattle.rcp_model.proofs.MemberLemmas.{any_member}
use Rattle.cost_rows.proofs.EndLemmas.{map_member}
use Rattle.roster.specs.Form.{InForm, IsLinkOf}
use Rattle.igp_view.specs.Igp.{AreRosterLinks}

named : (members : List Member) (router : ℕ) → has_router members router ≡ true → Contains (map (λ (m : Member). m.router) members) router
named members router has =
    let found = any_member (λ (m : Member). m.router == router) members has in
    subst (Contains (map (λ (m : Member). m.router) members)) (eqb-true found.0.router router found.2) (map_member (λ (m : Member). m.router) members found.0 found.1)

pub roster_links : (roster : RosterOf) → InForm roster → AreRosterLinks roster.links
roster_links roster form = record {
  few = omega (
    arith,
    form.members.few,
    length-map roster.members (λ (m : Member). m.router),
    routers_within roster.links (map (λ (m : Member). m.router) roster.members) (λ edge member.
        let link = All-contains (IsLinkOf roster.members) roster.links edge form.links member in
        (named roster.members edge.from link.from, named roster.members edge.to link.to)),
  );
  cheap = λ k d within. (form.links k d within).most;
}

pub roster_members : (roster : RosterOf) → InForm roster → graphs.AreMembers roster.members
roster_members roster form = record { few = form.members.few; routers = form.members.routers; identifiers = form.members.identifiers }
