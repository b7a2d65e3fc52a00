use Rattle.std.proofs.Common.{◌≡◌, ℕ, List, Option, Some, sym, subst}
use Rattle.feed_run.specs.Going.{ReadsSo}
use Rattle.rcp_run.specs.Commands.{input_end, input_left}
use Rattle.rcp_words.specs.declared.command.Command.{Command}
use Rattle.rcp_run.proofs.CommandLemmas.{reads-nothing}
use Rattle.rcp_run.proofs.running.run_command.Goals as goal

pub returns-in-Report-clause-reads : goal.returns-in-Report-clause-reads
returns-in-Report-clause-reads g c = λ octets told.
    subst (λ (a : Command). ReadsSo (input_end a) (input_left a) 0 c.put_report.result octets (g.S.Source.left c.put_report.new.source)) (sym c.in-Report.is) (c.put_report.ensures.reads octets told)

pub returns-in-Make-clause-reads : goal.returns-in-Make-clause-reads
returns-in-Make-clause-reads g c = λ octets told.
    subst (λ (left : Option (List ℕ)). ReadsSo (input_end c.args.asked) (input_left c.args.asked) 0 c.put_feed.result octets left) (sym told)
    (subst (λ (a : Command). ReadsSo (input_end a) (input_left a) 0 c.put_feed.result octets (Some octets)) (sym c.in-Make.is)
    (reads-nothing c.put_feed.result octets _ _ c.put_feed.ensures.cause))

pub returns-in-Trial-clause-reads : goal.returns-in-Trial-clause-reads
returns-in-Trial-clause-reads g c = λ octets told.
    subst (λ (left : Option (List ℕ)). ReadsSo (input_end c.args.asked) (input_left c.args.asked) 0 c.put_trial.result octets left) (sym told)
    (subst (λ (a : Command). ReadsSo (input_end a) (input_left a) 0 c.put_trial.result octets (Some octets)) (sym c.in-Trial.is)
    (reads-nothing c.put_trial.result octets _ _ c.put_trial.ensures.cause))
