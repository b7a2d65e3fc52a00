-- Feeds one after another.
use Rattle.std.specs.Prelude.{ℕ, ◌+◌, List}
use Rattle.rcp_base.specs.Feed.{FeedRecord, FeedState, before_next_feed, feed_of}
use Rattle.feed_meaning.specs.WholeFeeds.{FeedMeaning, FeedEnd, roster_fault, meaning_of}

-- What octets come to as a feed that follows others: the numbers of records and the count of octets go on.
abbrev pub meaning_after : FeedState → List ℕ → FeedMeaning
meaning_after earlier octets = let feed = feed_of (before_next_feed earlier) octets in meaning_of roster_fault (earlier.number + 1) feed feed.items

-- its records, how it ends, and what is left after it
abbrev pub items_after : FeedState → List ℕ → List FeedRecord
items_after earlier octets = (meaning_after earlier octets).items

abbrev pub end_after : FeedState → List ℕ → FeedEnd
end_after earlier octets = (meaning_after earlier octets).end

abbrev pub left_after : FeedState → List ℕ → List ℕ
left_after earlier octets = (meaning_after earlier octets).left
