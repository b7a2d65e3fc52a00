use Rattle.std.proofs.Common.{◌≡◌, sym, inl, inr, ◌∙◌, ap₂, arith}
use Rattle.rcp_model.specs.RouteServer.{slot_cost}
use Rattle.rib_laws.proofs.CostCases.{lone_cost, no_other_cost}
use Rattle.rib_laws.proofs.tests.LoneCosts.cost.Goals as goal
use Rattle.rib_laws.proofs.tests.LoneCosts.cost.Goals.{then-from-gt0-via-then-from-gt0, then-from-gt0-via-else-from-gt0+then-to-gt0}

pub returns-then-from-gt0 : goal.returns-then-from-gt0
returns-then-from-gt0 c = elim c.then-from-gt0.branch [
  | then-from-gt0-via-then-from-gt0 w ↦ sym (no_other_cost _ c.args.from c.args.to (inl (omega (arith, w.if-from-gt0.true, c.from.view_is))))
  | then-from-gt0-via-else-from-gt0+then-to-gt0 w ↦ sym (no_other_cost _ c.args.from c.args.to (inr (omega (arith, w.if-to-gt0.true, c.to.view_is))))
]

pub returns : goal.returns
returns c =
    let from : c.args.from ≡ 0 = omega (arith, c.if-from-gt0.false, c.from.view_is) in
    let to : c.args.to ≡ 0 = omega (arith, c.if-to-gt0.false, c.to.view_is) in
    sym (ap₂ (λ a b. slot_cost _ _ a b) from to ∙ lone_cost _)
