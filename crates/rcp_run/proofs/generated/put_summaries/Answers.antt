use Rattle.replica_law.proofs.TextLemmas.{pieces_more}
use Rattle.rcp_run.specs.Trials.{summary_line}
use Rattle.rcp_run.proofs.generated.put_summaries.Goals as goal

pub loop-out-preserved : goal.loop-out-preserved
loop-out-preserved c =
    pieces_more summary_line c.args.text.now.items c.loop-out.text.items c.put_summary.new.text.items c.args.outs.now c.loop-out.out-index c.out-item.result
    c.loop-out.invariant c.loop-out-test.true c.out-item.is c.in_ok-put_summary.ensures
