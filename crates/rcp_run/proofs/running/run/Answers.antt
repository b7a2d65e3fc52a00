use Rattle.std.proofs.Common.{◌≡◌, ◌⊎◌, Some, subst, ap, ◌∙◌}
use Rattle.feed_format.specs.declared.status.Status.TheVariants.{NoMemory}
use Rattle.feed_run.specs.Statuses.{EndsSo}
use Rattle.feed_run.specs.Written.{EndsCut}
use Rattle.rcp_run.specs.Commands.{input_end, input_left, reads_input}
use Rattle.rcp_run.specs.Reports.{IsStatusFor}
use Rattle.rcp_words.specs.declared.command.Command.{Command}
use Rattle.rcp_words.specs.declared.command.Command.TheVariants as command
use Rattle.rcp_run.proofs.HeadlineLemmas.{headline-written}
use Rattle.rcp_words.proofs.WordLemmas.{same_command}
use Rattle.rcp_run.proofs.CommandLemmas.{command-status, read-cause, write-cause, never-usage, never-net, refused-alone}
use Rattle.rcp_run.proofs.running.run.Goals as goal

-- ---- no command

pub returns-in-None-clause-ended : goal.returns-in-None-clause-ended
returns-in-None-clause-ended g c = λ a stand octets told. absurd (c.in-None.ensures a stand)

pub returns-in-None-clause-through : goal.returns-in-None-clause-through
returns-in-None-clause-through g c = λ a stand done octets told. absurd (c.in-None.ensures a stand)

pub returns-in-None-clause-cut : goal.returns-in-None-clause-cut
returns-in-None-clause-cut g c = λ a stand read octets told. absurd (c.in-None.ensures a stand)

pub returns-in-None-clause-written : goal.returns-in-None-clause-written
returns-in-None-clause-written g c = λ stand octets told. absurd (c.in-None.ensures command.Replay stand)

pub returns-in-None-clause-headline : goal.returns-in-None-clause-headline
returns-in-None-clause-headline g c = λ stand octets before written roster told found old new. absurd (c.in-None.ensures command.Replay stand)

pub returns-in-None-clause-text : goal.returns-in-None-clause-text
returns-in-None-clause-text g c = λ report stand octets told. absurd (c.in-None.ensures (command.Report report) stand)

pub returns-in-None-clause-silent : goal.returns-in-None-clause-silent
returns-in-None-clause-silent g c = λ report stand not_done not_written. absurd (c.in-None.ensures (command.Report report) stand)

pub returns-in-None-clause-complete : goal.returns-in-None-clause-complete
returns-in-None-clause-complete g c = λ a stand octets told read write. absurd (c.in-None.ensures a stand)

pub returns-in-None-clause-made : goal.returns-in-None-clause-made
returns-in-None-clause-made g c = λ number stand. absurd (c.in-None.ensures (command.Make number) stand)

pub returns-in-None-clause-tried : goal.returns-in-None-clause-tried
returns-in-None-clause-tried g c = λ number threads stand. absurd (c.in-None.ensures (command.Trial number threads) stand)

pub returns-in-None-clause-unread : goal.returns-in-None-clause-unread
returns-in-None-clause-unread g c = λ a stand reads. absurd (c.in-None.ensures a stand)

-- ---- a command

pub returns-in-Some-clause-usage : goal.returns-in-Some-clause-usage
returns-in-Some-clause-usage g c = (
  λ is. absurd (never-usage c.in-Some.command c.run_command.result _ _ _ _ c.run_command.ensures.cause is),
  λ none. absurd (none c.in-Some.command c.in-Some.ensures),
)

pub returns-in-Some-clause-nothing_read : goal.returns-in-Some-clause-nothing_read
returns-in-Some-clause-nothing_read g c = λ is. absurd (never-usage c.in-Some.command c.run_command.result _ _ _ _ c.run_command.ensures.cause is)

pub returns-in-Some-clause-nothing_written : goal.returns-in-Some-clause-nothing_written
returns-in-Some-clause-nothing_written g c = λ is. absurd (never-usage c.in-Some.command c.run_command.result _ _ _ _ c.run_command.ensures.cause is)

pub returns-in-Some-clause-read : goal.returns-in-Some-clause-read
returns-in-Some-clause-read g c = λ is. read-cause c.in-Some.command c.run_command.result _ _ _ _ c.run_command.ensures.cause is

pub returns-in-Some-clause-write : goal.returns-in-Some-clause-write
returns-in-Some-clause-write g c = λ is. write-cause c.in-Some.command c.run_command.result _ _ _ _ c.run_command.ensures.cause is

pub returns-in-Some-clause-no_path : goal.returns-in-Some-clause-no_path
returns-in-Some-clause-no_path g c = λ why is. refused-alone c.in-Some.command c.run_command.result _ _ _ _ c.run_command.ensures.cause _ why is c.in-Some.ensures

pub returns-in-Some-clause-no_net_fault : goal.returns-in-Some-clause-no_net_fault
returns-in-Some-clause-no_net_fault g c = λ is. never-net c.in-Some.command c.run_command.result _ _ _ _ c.run_command.ensures.cause is

pub returns-in-Some-clause-ended : goal.returns-in-Some-clause-ended
returns-in-Some-clause-ended g c = λ a stand octets told.
    subst (λ (b : Command). EndsSo c.run_command.result (input_end b octets)) (same_command _ c.in-Some.command a c.in-Some.ensures stand) (c.run_command.ensures.reads octets told).ended

pub returns-in-Some-clause-through : goal.returns-in-Some-clause-through
returns-in-Some-clause-through g c = λ a stand done octets told.
    let same : c.in-Some.command ≡ a = same_command _ c.in-Some.command a c.in-Some.ensures stand in
    subst (λ (b : Command). g.S.Source.left c.run_command.new.source ≡ Some (input_left b octets)) same ((c.run_command.ensures.reads octets told).through done)

pub returns-in-Some-clause-stops : goal.returns-in-Some-clause-stops
returns-in-Some-clause-stops g c = λ octets told. (c.run_command.ensures.reads octets told).stops

pub returns-in-Some-clause-cut : goal.returns-in-Some-clause-cut
returns-in-Some-clause-cut g c = λ a stand read octets told.
    let same : c.in-Some.command ≡ a = same_command _ c.in-Some.command a c.in-Some.ensures stand in
    subst (λ (b : Command). EndsCut (input_end b) octets (g.S.Source.left c.run_command.new.source)) same ((c.run_command.ensures.reads octets told).cut read)

pub returns-in-Some-clause-written : goal.returns-in-Some-clause-written
returns-in-Some-clause-written g c = λ stand octets told.
    (c.run_command.ensures.replayed (same_command _ c.in-Some.command command.Replay c.in-Some.ensures stand) octets told).wrote

pub returns-in-Some-clause-headline : goal.returns-in-Some-clause-headline
returns-in-Some-clause-headline g c = λ stand octets before written roster told found old new.
    headline-written c.run_command.result roster octets before written (g.S.Source.left c.run_command.new.source) (g.K.Sink.taken c.args.sink.now) (g.K.Sink.taken c.run_command.new.sink) found old new
    (c.run_command.ensures.replayed (same_command _ c.in-Some.command command.Replay c.in-Some.ensures stand) octets told)

pub returns-in-Some-clause-text : goal.returns-in-Some-clause-text
returns-in-Some-clause-text g c = λ report stand octets told.
    c.run_command.ensures.wrote report (same_command _ c.in-Some.command (command.Report report) c.in-Some.ensures stand) octets told

pub returns-in-Some-clause-silent : goal.returns-in-Some-clause-silent
returns-in-Some-clause-silent g c = λ report stand not_done not_written.
    c.run_command.ensures.silent report (same_command _ c.in-Some.command (command.Report report) c.in-Some.ensures stand) not_done not_written

pub returns-in-Some-clause-complete : goal.returns-in-Some-clause-complete
returns-in-Some-clause-complete g c = λ a stand octets told read write.
    let same : c.in-Some.command ≡ a = same_command _ c.in-Some.command a c.in-Some.ensures stand in
    subst (λ (b : Command). IsStatusFor b (input_end b octets) c.run_command.result ⊎ (c.run_command.result ≡ NoMemory)) same
    (command-status c.in-Some.command c.run_command.result (input_end c.in-Some.command octets) _ _ _ _ c.run_command.ensures.cause (c.run_command.ensures.reads octets told).ended read write)

pub returns-in-Some-clause-made : goal.returns-in-Some-clause-made
returns-in-Some-clause-made g c = λ number stand. c.run_command.ensures.made number (same_command _ c.in-Some.command (command.Make number) c.in-Some.ensures stand)

pub returns-in-Some-clause-tried : goal.returns-in-Some-clause-tried
returns-in-Some-clause-tried g c = λ number threads stand.
    c.run_command.ensures.tried number threads (same_command _ c.in-Some.command (command.Trial number threads) c.in-Some.ensures stand)

pub returns-in-Some-clause-unread : goal.returns-in-Some-clause-unread
returns-in-Some-clause-unread g c = λ a stand reads.
    c.run_command.ensures.unread (ap reads_input (same_command _ c.in-Some.command a c.in-Some.ensures stand) ∙ reads)
