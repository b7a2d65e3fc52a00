use Rattle.std.proofs.Common.{ℕ, List, [], Option, Some, subst}
use Rattle.feed_run.specs.Whole.{IsReached}
use Rattle.feed_run.proofs.WholeLemmas.{reached-first}
use Rattle.feed_run.proofs.whole.read_feed.Goals as goal

pub returns-in-Err-clause-ends : goal.returns-in-Err-clause-ends
returns-in-Err-clause-ends g c = λ octets told. (c.in-Err.ensures.ends octets (Some []) told).reads

pub returns-in-Ok-read_rest-clause-whole : goal.returns-in-Ok-read_rest-clause-whole
returns-in-Ok-read_rest-clause-whole g c =
    c.in-Ok-read_rest.ensures.whole c.args.reader c.in-Ok.ensures.opened.roster [] (g.S.Source.left c.args.source.now) (reached-first c.args.reader c.in-Ok.feed (g.S.Source.left c.args.source.now) (g.S.Source.left c.begin.new.source) c.in-Ok.ensures.opened)

pub returns-in-Err-read_rest-clause-ends : goal.returns-in-Err-read_rest-clause-ends
returns-in-Err-read_rest-clause-ends g c = λ octets told.
    let first = reached-first c.args.reader c.in-Ok.feed (g.S.Source.left c.args.source.now) (g.S.Source.left c.begin.new.source) c.in-Ok.ensures.opened in
    c.in-Err-read_rest.ensures.ends c.args.reader c.in-Ok.ensures.opened.roster [] octets
    (subst (λ (o : Option (List ℕ)). IsReached c.args.reader c.in-Ok.feed c.in-Ok.ensures.opened.roster [] o (g.S.Source.left c.begin.new.source)) told first)
