-- What each command reads.
use Rattle.std.specs.Prelude.{ℕ, Bool, true, false, List}
use Rattle.rcp_base.specs.Feed.{FeedState, before_feeds, feed_of}
use Rattle.feed_meaning.specs.WholeFeeds.{FeedEnd, Finished, FaultyRecord, FaultyRoster, FeedMeaning, feed_meaning}
use Rattle.feed_run.specs.NextFeeds.{meaning_after}
use Rattle.rcp_words.specs.declared.command.Command.{Command}
use Rattle.rcp_words.specs.declared.command.Command.TheVariants as command
use Rattle.rcp_words.specs.declared.command.Report.{Report}
use Rattle.rcp_words.specs.declared.command.Report.TheVariants as report

-- after a feed that ended, the counts of its records and of its octets
abbrev pub state_after : List ℕ → FeedState
state_after octets = (feed_of before_feeds octets).state

-- what the octets after a first feed come to as the second
abbrev pub second_meaning : List ℕ → FeedMeaning
second_meaning octets = meaning_after (state_after octets) (feed_meaning octets).left

-- the end of two feeds: that of the first, or where it came to its Z that of the second
abbrev pub end_of_two : FeedEnd → FeedEnd → FeedEnd
end_of_two Finished second = second
end_of_two (FaultyRecord number why) second = FaultyRecord number why
end_of_two (FaultyRoster number fault) second = FaultyRoster number fault

-- how the input of a report ends: `agree` reads two feeds, the others one
abbrev pub report_end : Report → List ℕ → FeedEnd
report_end report.Agree octets = end_of_two (feed_meaning octets).end (second_meaning octets).end
report_end report octets = (feed_meaning octets).end

-- that of a command: `make` and `trial` read nothing
abbrev pub input_end : Command → List ℕ → FeedEnd
input_end command.Replay octets = (feed_meaning octets).end
input_end (command.Report report) octets = report_end report octets
input_end (command.Make number) octets = Finished
input_end (command.Trial number threads) octets = Finished

-- what is left after it
abbrev pub report_left : Report → List ℕ → List ℕ
report_left report.Agree octets = (second_meaning octets).left
report_left report octets = (feed_meaning octets).left

abbrev pub input_left : Command → List ℕ → List ℕ
input_left command.Replay octets = (feed_meaning octets).left
input_left (command.Report report) octets = report_left report octets
input_left (command.Make number) octets = octets
input_left (command.Trial number threads) octets = octets

abbrev pub reads_input : Command → Bool
reads_input command.Replay = true
reads_input (command.Report report) = true
reads_input (command.Make number) = false
reads_input (command.Trial number threads) = false
