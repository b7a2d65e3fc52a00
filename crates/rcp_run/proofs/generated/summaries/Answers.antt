use Rattle.std.proofs.Common.{◌≡◌, ℕ, [], List, Option, Some, ap, subst, ◌∙◌}
use Rattle.rcp_base.specs.Feed.{FeedState}
use Rattle.feed_run.specs.NextFeeds.{meaning_after}
use Rattle.feed_run.specs.Whole.{IsReached}
use Rattle.feed_run.proofs.FirstLemmas.{meaning-first}
use Rattle.feed_run.proofs.WholeLemmas.{reached-first}
use Rattle.rcp_run.specs.Trials.{summaries_of}
use Rattle.rcp_run.proofs.SummaryLemmas.{no-lines}
use Rattle.rcp_run.proofs.generated.summaries.Goals as goal

pub returns-in-Ok-put_rest : goal.returns-in-Ok-put_rest
returns-in-Ok-put_rest g c = λ octets told.
    let opened = c.in-Ok.ensures.opened in
    let first = reached-first c.new.result c.in-Ok.run' (g.S.Source.left c.args.source.now) (g.S.Source.left c.begin.new.source) opened in
    let reached = subst (λ (o : Option (List ℕ)). IsReached c.new.result c.in-Ok.run' opened.roster [] o (g.S.Source.left c.begin.new.source)) told first in
    c.in-Ok-put_rest.ensures c.new.result opened.roster [] octets reached (c.new-text.ensures.items ∙ no-lines opened.roster)
    ∙ ap (λ (s : FeedState). summaries_of (meaning_after s octets)) c.new.ensures
    ∙ ap summaries_of (meaning-first octets)
