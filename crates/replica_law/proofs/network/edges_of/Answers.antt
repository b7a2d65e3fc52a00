use Rattle.std.proofs.Common.{arith}
use Rattle.replica_law.proofs.ListLemmas.{took_item, took_all}
use Rattle.replica_law.proofs.network.edges_of.Goals as goal

pub loop-edge-preserved : goal.loop-edge-preserved
loop-edge-preserved g c =
    took_item (g.X.Costs.edges c.args.platform.now) c.loop-edge.edges.items c.push.new.self.items c.len.result c.in-Some.edge c.loop-edge.invariant (omega (arith, c.len.ensures, c.loop-edge.edges.ok.0)) c.in-Some.ensures
    c.in_ok-push.ensures.items

pub returns : goal.returns
returns g c = took_all (g.X.Costs.edges c.args.platform.now) c.loop-edge.edges.items c.len.result c.loop-edge.invariant (omega (arith, c.len.ensures, c.loop-edge.edges.ok.0)) c.in_default.ensures
