use Rattle.std.proofs.Common.{sym, ◌∙◌}
use Rattle.std.proofs.lemmas.Bool.{false≢true}
use Rattle.hop_walk.proofs.StepLemmas.{found_next, passed_edge, no_next}
use Rattle.hop_walk.proofs.ways.Ways.next_hop.Goals as goal

pub returns-then-leads_on : goal.returns-then-leads_on
returns-then-leads_on c =
    found_next c.args.self.now.edges c.args.at c.args.self.now.end c.in_ok-total.total c.edges_from-edge-items.result.now c.loop-edge.edge-index c.edge-item.result c.loop-edge.invariant c.loop-edge-test.true
    c.edge-item.is (c.leads_on.ensures.0 c.if-leads_on.true)

pub loop-edge-preserved : goal.loop-edge-preserved
loop-edge-preserved c =
    passed_edge c.args.self.now.edges c.args.at c.args.self.now.end c.in_ok-total.total c.edges_from-edge-items.result.now c.loop-edge.edge-index c.edge-item.result c.loop-edge.invariant c.loop-edge-test.true
    c.edge-item.is (λ leads. false≢true (sym c.if-leads_on.false ∙ c.leads_on.ensures.1 leads))

pub returns : goal.returns
returns c =
    no_next c.args.self.now.edges c.args.at c.args.self.now.end c.in_ok-total.total c.edges_from-edge-items.result.now c.loop-edge.edge-index c.loop-edge.invariant c.loop-edge-test.false
