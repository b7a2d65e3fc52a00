-- What the definitions say of small feeds.
use Rattle.std.specs.Prelude.{◌≡◌, ℕ, List, [], ◌∷◌, ◌++◌, Some, None, refl, length}
use Rattle.rcp_base.specs.declared.kinds.FeedWhy.TheVariants as why
use Rattle.rcp_base.specs.Feed.{frame, kind_of, fault_in_front, front, feed_within, feed_of, before_feeds}

abbrev roster : List ℕ
roster = frame 67 0 (1 ∷ 2 ∷ [])

abbrev ready : List ℕ
ready = frame 69 1 (10 ∷ 0 ∷ 0 ∷ 1 ∷ [])

abbrev finish : List ℕ
finish = frame 90 0 []

a_feed_ends_by_its_z : (feed_of before_feeds (roster ++ ready ++ finish ++ 7 ∷ [])).fault ≡ None
unfolding kind_of fault_in_front front feed_within
a_feed_ends_by_its_z = refl

what_follows_the_z_is_left : (feed_of before_feeds (roster ++ ready ++ finish ++ 7 ∷ [])).left ≡ 7 ∷ []
unfolding kind_of fault_in_front front feed_within
what_follows_the_z_is_left = refl

a_connection_begins_once : (feed_of before_feeds (roster ++ ready ++ ready ++ finish)).fault ≡ Some why.Twice
unfolding kind_of fault_in_front front feed_within
a_connection_begins_once = refl

the_records_before_a_fault_count : length (feed_of before_feeds (roster ++ ready ++ ready ++ finish)).items ≡ 2
unfolding kind_of fault_in_front front feed_within
the_records_before_a_fault_count = refl

no_z_is_truncated : (feed_of before_feeds (roster ++ ready)).fault ≡ Some why.Truncated
unfolding kind_of fault_in_front front feed_within
no_z_is_truncated = refl

the_roster_comes_first : (feed_of before_feeds ready).fault ≡ Some why.NoRoster
unfolding kind_of fault_in_front front feed_within
the_roster_comes_first = refl
