use Rattle.std.proofs.Common.{ℕ, List, Option, Some, ◌≡◌, subst}
use Rattle.rcp_base.specs.Feed.{FeedState, before_feeds}
use Rattle.feed_run.specs.Whole.{IsWhole}
use Rattle.feed_run.specs.declared.records.FeedRun.{FeedRun}
use Rattle.rcp_run.specs.Making.{FollowsFeed}
use Rattle.rcp_words.specs.declared.command.Report.TheVariants as report
use Rattle.rcp_run.proofs.ReportLemmas.{first-unread, made-cause}
use Rattle.rcp_run.proofs.report.agreement.Goals as goal

pub returns-in-Err-clause-unmade : goal.returns-in-Err-clause-unmade
returns-in-Err-clause-unmade g c = λ octets told.
    first-unread c.new.result octets (g.S.Source.left c.read_feed.new.source) c.in-Err.status _ _ c.new.ensures c.in-Err.ensures.cause (c.in-Err.ensures.ends octets told)

pub returns-in-Err-clause-cause : goal.returns-in-Err-clause-cause
returns-in-Err-clause-cause g c = made-cause report.Agree c.in-Err.status _ _ c.in-Err.ensures.cause

-- the octets that the first feed left follow it
follows : (earlier : FeedState) (octets : List ℕ) (feed : FeedRun) (before now : Option (List ℕ)) → earlier ≡ before_feeds → before ≡ Some octets → IsWhole earlier feed before now
    → FollowsFeed octets feed.platform feed.reader feed.number now
follows earlier octets feed before now none told w = record { earlier = earlier; none = none; whole = subst (λ (o : Option (List ℕ)). IsWhole earlier feed o now) told w }

pub returns-in-Ok-compared-clause-made : goal.returns-in-Ok-compared-clause-made
returns-in-Ok-compared-clause-made g c = λ octets told.
    c.in-Ok-compared.ensures.made octets (follows c.new.result octets c.in-Ok.first (g.S.Source.left c.args.source.now) (g.S.Source.left c.read_feed.new.source) c.new.ensures told c.in-Ok.ensures.whole)

pub returns-clause-unmade : goal.returns-clause-unmade
returns-clause-unmade g c = λ octets told.
    c.in-Err-compared.ensures.unmade octets (follows c.new.result octets c.in-Ok.first (g.S.Source.left c.args.source.now) (g.S.Source.left c.read_feed.new.source) c.new.ensures told c.in-Ok.ensures.whole)
