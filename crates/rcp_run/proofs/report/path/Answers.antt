use Rattle.rcp_words.specs.declared.command.Report.TheVariants as report
use Rattle.rcp_run.proofs.ReportLemmas.{first-feed, path-made, path-unmade, path-unread, made-cause, refused-cause}
use Rattle.rcp_run.proofs.report.path.Goals as goal

pub returns-in-Err-clause-unmade : goal.returns-in-Err-clause-unmade
returns-in-Err-clause-unmade g c = λ octets told.
    path-unread c.new.result octets (g.S.Source.left c.read_feed.new.source) c.args.router c.args.prefix c.in-Err.status _ _ c.new.ensures c.in-Err.ensures.cause (c.in-Err.ensures.ends octets told)

pub returns-in-Err-clause-cause : goal.returns-in-Err-clause-cause
returns-in-Err-clause-cause g c = made-cause (report.Path c.args.router c.args.prefix) c.in-Err.status _ _ c.in-Err.ensures.cause

pub returns-in-Ok-path_on-clause-made : goal.returns-in-Ok-path_on-clause-made
returns-in-Ok-path_on-clause-made g c = λ octets told.
    path-made octets c.in-Ok.feed (g.S.Source.left c.read_feed.new.source) c.args.router c.args.prefix c.in-Ok-path_on.line.items
    (first-feed c.new.result octets c.in-Ok.feed (g.S.Source.left c.args.source.now) (g.S.Source.left c.read_feed.new.source) c.new.ensures told c.in-Ok.ensures.whole) c.in-Ok-path_on.ensures.line

pub returns-clause-unmade : goal.returns-clause-unmade
returns-clause-unmade g c = λ octets told.
    path-unmade octets c.in-Ok.feed (g.S.Source.left c.read_feed.new.source) c.args.router c.args.prefix c.in-Err-path_on.status
    (first-feed c.new.result octets c.in-Ok.feed (g.S.Source.left c.args.source.now) (g.S.Source.left c.read_feed.new.source) c.new.ensures told c.in-Ok.ensures.whole) c.in-Err-path_on.ensures.refused

pub returns-clause-cause : goal.returns-clause-cause
returns-clause-cause g c = refused-cause c.in-Ok.feed.platform.seen c.args.router c.args.prefix c.in-Err-path_on.status _ _ c.in-Err-path_on.ensures.refused
