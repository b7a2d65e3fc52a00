use Rattle.std.proofs.Common.{sym, ap, is_some, ◌∙◌}
use Rattle.hop_walk.proofs.StepLemmas.{found_free}
use Rattle.hop_walk.proofs.ways.Ways.least_free.Goals as goal

pub returns-then-is_some : goal.returns-then-is_some
returns-then-is_some c =
    found_free c.args.self.now.edges c.args.self.now.end c.edges-edge-items.result.now c.loop-edge.edge-index c.edge-item.result c.loop-edge.invariant c.loop-edge-test.true c.edge-item.is
    (rw (← c.self.view_is) (ap is_some (sym (c.self.invariant c.edge-item.result.from)) ∙ ap is_some (sym c.cost.ensures) ∙ sym c.is_some.ensures ∙ c.if-is_some.true)) c.if-edge-eq0.true
