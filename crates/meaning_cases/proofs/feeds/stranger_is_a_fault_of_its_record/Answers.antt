use Rattle.std.proofs.Common.{refl}
use Rattle.rcp_base.specs.Feed.{kind_of, fault_in_front, front, feed_within}
use Rattle.feed_meaning.specs.WholeFeeds.{roster_fault, meaning_by}
use Rattle.meaning_cases.proofs.feeds.stranger_is_a_fault_of_its_record.Goals as goal

pub returns-clause-end : goal.returns-clause-end
unfolding kind_of fault_in_front front feed_within roster_fault meaning_by
returns-clause-end c = refl

pub returns-clause-items : goal.returns-clause-items
unfolding kind_of fault_in_front front feed_within roster_fault meaning_by
returns-clause-items c = refl
