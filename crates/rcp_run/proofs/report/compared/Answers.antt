use Rattle.std.proofs.Common.{Some, refl}
use Rattle.rcp_words.specs.declared.command.Report.TheVariants as report
use Rattle.rcp_run.proofs.ReportLemmas.{first-feed, agreement-made, second-unread, memory-unmade, made-cause}
use Rattle.rcp_run.proofs.report.compared.Goals as goal

pub returns-in-Err-clause-unmade : goal.returns-in-Err-clause-unmade
returns-in-Err-clause-unmade g c = λ octets h.
    second-unread h.earlier octets _ (Some octets) (g.S.Source.left c.args.source.now) (g.S.Source.left c.read_feed.new.source) c.in-Err.status _ _ h.none refl h.whole c.in-Err.ensures.cause
    (λ rest left. c.in-Err.ensures.ends rest left)

pub returns-in-Err-clause-cause : goal.returns-in-Err-clause-cause
returns-in-Err-clause-cause g c = made-cause report.Agree c.in-Err.status _ _ c.in-Err.ensures.cause

pub returns-in-Ok-comparison_of-clause-made : goal.returns-in-Ok-comparison_of-clause-made
returns-in-Ok-comparison_of-clause-made g c = λ octets h.
    agreement-made octets _ c.in-Ok.second (g.S.Source.left c.args.source.now) (g.S.Source.left c.read_feed.new.source) c.in-Ok-comparison_of.text.items
    (first-feed h.earlier octets _ (Some octets) (g.S.Source.left c.args.source.now) h.none refl h.whole) c.in-Ok.ensures.whole c.in-Ok-comparison_of.ensures

pub returns-clause-unmade : goal.returns-clause-unmade
returns-clause-unmade g c = λ octets h. memory-unmade report.Agree octets (g.S.Source.left c.read_feed.new.source)
