use Rattle.std.proofs.Common.{sym, subst}
use Rattle.std.proofs.lemmas.Result.{MatchResult-weaker}
use Rattle.lsdb.specs.Databases.{Database, Holds}
use Rattle.lsdb.specs.Links.{AreEdges}
use Rattle.lsdb.proofs.Learned.{edges_are}
use Rattle.lsdb.proofs.Limits.{few-routers, cheap-edges}
use Rattle.lsdb.proofs.Installing.{holds-itself}
use Rattle.lsdb.proofs.database.Lsdb.edges.Goals as goal

pub returns-clause-edges : goal.returns-clause-edges
returns-clause-edges c = MatchResult-weaker c.edges_in.result c.edges_in.ensures
    (λ edges are state holds. edges_are c.self.inside.routers.entries c.in_ok-links.links.items c.self.invariant c.in_ok-links.ensures.links state
    (subst (λ (d : Database). Holds d.state state) (sym c.self.view_is) holds) c.args.fixed.now edges.items (subst (λ links. AreEdges links c.args.fixed.now edges.items) c.as_slice.ensures.value are))
    (λ e q. q)

pub returns-clause-rising : goal.returns-clause-rising
returns-clause-rising c = MatchResult-weaker c.edges_in.result c.edges_in.ensures (λ edges are. are.rising) (λ e q. q)

pub returns-clause-few : goal.returns-clause-few
returns-clause-few c = MatchResult-weaker c.edges_in.result c.edges_in.ensures
    (λ edges are. few-routers c.self.inside.routers.entries c.in_ok-links.links.items c.args.fixed.now edges.items
    (subst (λ links. AreEdges links c.args.fixed.now edges.items) c.as_slice.ensures.value are) c.self.invariant c.in_ok-links.ensures.links)
    (λ e q. q)

pub returns-clause-cheap : goal.returns-clause-cheap
returns-clause-cheap c = MatchResult-weaker c.edges_in.result c.edges_in.ensures
    (λ edges are. cheap-edges c.self.inside.routers.entries c.in_ok-links.links.items c.args.fixed.now edges.items
    (subst (λ links. AreEdges links c.args.fixed.now edges.items) c.as_slice.ensures.value are) c.in_ok-links.ensures.cheap)
    (λ e q. q)

pub returns-clause-kept : goal.returns-clause-kept
returns-clause-kept c = subst (λ (d : Database). Holds d.state d.state) c.self.view_is (holds-itself c.self.inside.routers.entries c.self.invariant)

pub returns-in_err-links-clause-kept : goal.returns-in_err-links-clause-kept
returns-in_err-links-clause-kept c = subst (λ (d : Database). Holds d.state d.state) c.self.view_is (holds-itself c.self.inside.routers.entries c.self.invariant)
