use Rattle.std.proofs.Common.{◌≡◌, Option, true, false, sym, ap, subst, ◌∙◌}
use Rattle.std.proofs.lemmas.Bool.{false≢true}
use Rattle.rcp_base.specs.IpPrefix.{IpPrefix}
use Rattle.rcp_model.specs.Costs.{IsTwoWay}
use Rattle.rcp_model.specs.Graphs.{IsGraph, AreMembers}
use Rattle.rcp_model.specs.Routes.{RouteFields}
use Rattle.cost_rows.specs.Views.{ViewOf}
use Rattle.replica_law.proofs.tests.recorded.RecordedAssigned.members.Goals as goal

pub returns-clause-law : goal.returns-clause-law
returns-clause-law c =
    let same : c.self.inside.view.value ≡ c.args.self.now.0 = ap (λ (x : ViewOf × IpPrefix × Option RouteFields). x.0) c.self.view_is in
    record {
      members = subst (λ (v : ViewOf). AreMembers v.members) (c.deref-2.ensures ∙ same) c.members.ensures.distinct;
      graph = subst (λ (v : ViewOf). IsGraph v.edges) (c.deref.ensures ∙ same) (rw c.graph.ensures at c.edges-edges.ensures.kept);
      two_way = subst (λ (v : ViewOf). IsTwoWay v.edges) same c.self.invariant.0;
      settled = λ slot p on pending. absurd (false≢true (sym pending));
    }
