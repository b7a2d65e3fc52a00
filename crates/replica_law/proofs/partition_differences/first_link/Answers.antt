use Rattle.std.proofs.Common.{◌≡◌, ℕ}
use Rattle.rcp_model.specs.Costs.{edge_cost}
use Rattle.replica_law.proofs.FirstLemmas.{taken_more, taken_all, link_found}
use Rattle.replica_law.proofs.partition_differences.first_link.Goals as goal

pub loop-from-preserved : goal.loop-from-preserved
loop-from-preserved c =
    taken_more (λ w. (x : ℕ) → edge_cost c.args.first.now w x ≡ edge_cost c.args.second.now w x) c.args.routers.now c.loop-from.from-index c.from-item.result c.loop-from-test.true c.from-item.is
    c.loop-from.invariant c.in_default.ensures

pub returns-in-Some : goal.returns-in-Some
returns-in-Some c =
    link_found c.args.first.now c.args.second.now c.args.routers.now c.loop-from.from-index c.from-item.result c.in-Some.to c.requires c.loop-from-test.true c.from-item.is c.loop-from.invariant c.in-Some.ensures

pub returns : goal.returns
returns c = λ u v member. taken_all (λ w. (x : ℕ) → edge_cost c.args.first.now w x ≡ edge_cost c.args.second.now w x) c.args.routers.now c.loop-from.from-index c.loop-from-test.false c.loop-from.invariant u member v
