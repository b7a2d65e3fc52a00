use Rattle.rcp_run.proofs.ReportLemmas.{unmade-wrote, unmade-cause}
use Rattle.rcp_run.proofs.report.put_report.Goals as goal

pub returns-in-Err-clause-reads : goal.returns-in-Err-clause-reads
returns-in-Err-clause-reads g c = λ octets told. (c.in-Err.ensures.unmade octets told).reads

pub returns-in-Err-clause-wrote : goal.returns-in-Err-clause-wrote
returns-in-Err-clause-wrote g c = λ octets told.
    unmade-wrote c.args.report octets c.in-Err.status (g.S.Source.left c.report_of.new.source) (g.K.Sink.taken c.args.sink.now) _ _ c.in-Err.ensures.cause (c.in-Err.ensures.unmade octets told)

pub returns-in-Err-clause-cause : goal.returns-in-Err-clause-cause
returns-in-Err-clause-cause g c = unmade-cause c.args.report c.in-Err.status _ _ _ _ c.in-Err.ensures.cause

pub returns-in-Ok-write_all-clause-reads : goal.returns-in-Ok-write_all-clause-reads
returns-in-Ok-write_all-clause-reads g c = λ octets told.
    let made = c.in-Ok.ensures.made octets told in
    record { ended = made.ended; through = λ is. made.left; stops = tt; cut = λ is. absurd cc }

pub returns-clause-reads : goal.returns-clause-reads
returns-clause-reads g c = λ octets told. record { ended = tt; through = λ is. absurd cc; stops = tt; cut = λ is. absurd cc }
