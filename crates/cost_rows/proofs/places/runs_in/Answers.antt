use Rattle.cost_rows.specs.Search.{IsRunOf}
use Rattle.cost_rows.proofs.IndexLemmas.{zip_more}
use Rattle.cost_rows.proofs.places.runs_in.Goals as goal

pub loop-name-preserved : goal.loop-name-preserved
loop-name-preserved c =
    rw c.in_ok-push.ensures.items
    (zip_more (IsRunOf c.args.edges.now) c.args.names.now c.loop-name.runs.items c.loop-name.name-index c.name-item.result c.run_of.result
    c.loop-name-test.true c.name-item.is c.loop-name.invariant (c.run_of.ensures.within, c.run_of.ensures.run))
