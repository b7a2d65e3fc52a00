use Rattle.std.proofs.Common.{sym, ap, ◌∙◌}
use Rattle.daemon_jobs.specs.Jobs.{is_session}
use Rattle.daemon_jobs.proofs.JobsLemmas.{same_map}
use Rattle.daemon_jobs.proofs.wiring.run_jobs.Goals as goal

pub returns-clause-kinds : goal.returns-clause-kinds
returns-clause-kinds g c = same_map is_session c.args.jobs.now c.for_each_mut.new.s c.for_each_mut.auto.s
    (λ i d within. let at = (c.for_each_mut.ensures i d within).1 in ap is_session (sym at.left) ∙ at.call.0 ∙ ap is_session at.argument_is)
