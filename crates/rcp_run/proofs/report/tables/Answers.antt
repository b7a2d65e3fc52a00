use Rattle.rcp_words.specs.declared.command.Report.TheVariants as report
use Rattle.rcp_run.proofs.ReportLemmas.{first-feed, tables-made, tables-unread, memory-unmade, made-cause}
use Rattle.rcp_run.proofs.report.tables.Goals as goal

pub returns-in-Err-clause-unmade : goal.returns-in-Err-clause-unmade
returns-in-Err-clause-unmade g c = λ octets told.
    tables-unread c.new.result octets (g.S.Source.left c.read_feed.new.source) c.in-Err.status _ _ c.new.ensures c.in-Err.ensures.cause (c.in-Err.ensures.ends octets told)

pub returns-in-Err-clause-cause : goal.returns-in-Err-clause-cause
returns-in-Err-clause-cause g c = made-cause report.Tables c.in-Err.status _ _ c.in-Err.ensures.cause

pub returns-in-Ok-tables_of-clause-made : goal.returns-in-Ok-tables_of-clause-made
returns-in-Ok-tables_of-clause-made g c = λ octets told.
    tables-made octets c.in-Ok.feed (g.S.Source.left c.read_feed.new.source) c.in-Ok-tables_of.text.items
    (first-feed c.new.result octets c.in-Ok.feed (g.S.Source.left c.args.source.now) (g.S.Source.left c.read_feed.new.source) c.new.ensures told c.in-Ok.ensures.whole) c.in-Ok-tables_of.ensures

pub returns-clause-unmade : goal.returns-clause-unmade
returns-clause-unmade g c = λ octets told. memory-unmade report.Tables octets (g.S.Source.left c.read_feed.new.source)
