use Rattle.std.proofs.Common.{refl}
use Rattle.rcp_base.specs.Feed.{kind_of, fault_in_front, front, feed_within}
use Rattle.feed_meaning.specs.WholeFeeds.{roster_fault, meaning_by}
use Rattle.meaning_cases.proofs.feeds.faulty_roster_is_told_by_its_line.Goals as goal

pub returns-clause-end : goal.returns-clause-end
unfolding kind_of fault_in_front front feed_within roster_fault meaning_by
returns-clause-end c = refl

pub returns-clause-output : goal.returns-clause-output
unfolding kind_of fault_in_front front feed_within roster_fault meaning_by
returns-clause-output c = refl
