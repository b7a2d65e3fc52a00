use Rattle.std.proofs.Common.{refl}
use Rattle.rcp_base.specs.Feed.{kind_of, fault_in_front, front, feed_within}
use Rattle.feed_meaning.specs.WholeFeeds.{roster_fault, meaning_by}
use Rattle.meaning_cases.proofs.feeds.input_that_ends_within_a_record_is_truncated.Goals as goal

pub returns : goal.returns
unfolding kind_of fault_in_front front feed_within roster_fault meaning_by
returns c = refl
