-- The text of a trial: the summaries in the output of a generated feed.
use Rattle.std.specs.Prelude.{ℕ, ◌==◌, List, [], ◌∷◌, ◌++◌, length, take, drop, Option, Some, None, nat_lt, if◌then◌else◌, codes}
use Rattle.std.specs.Fmt.{decimal}
use Rattle.std.specs.Int.{w64, from_be_bytes}
use Rattle.std.specs.List.{flat_map}
use Rattle.rcp_base.specs.Feed.{FeedRecord, OutRecord}
use Rattle.rcp_base.specs.Roster.{RosterOf}
use Rattle.feed_meaning.specs.OutRecords.{SUMMARY}
use Rattle.feed_meaning.specs.Platform.{fresh}
use Rattle.feed_meaning.specs.Runs.{all_output}
use Rattle.feed_meaning.specs.WholeFeeds.{FeedMeaning, feed_meaning}
use Rattle.feed_make.specs.Feeds.{feed_octets}

-- ---- a summary

-- the three counts in the body of a summary, of eight octets each in network byte order: connected routers, announced prefixes, and UPDATEs so far
abbrev pub counts_in : List ℕ → Option (ℕ × (ℕ × ℕ))
counts_in body =
    if nat_lt (length body) 24 then None
    else Some (from_be_bytes w64 (take 8 body), (from_be_bytes w64 (take 8 (drop 8 body)), from_be_bytes w64 (take 8 (drop 8 (drop 8 body)))))

-- `routers N prefixes N updates N`
abbrev pub counts_line : Option (ℕ × (ℕ × ℕ)) → List ℕ
counts_line None = []
counts_line (Some counts) =
    codes "routers " ++ (decimal counts.0 ++ (codes " prefixes " ++ (decimal counts.1.0 ++ (codes " updates " ++ (decimal counts.1.1 ++ 10 ∷ [])))))

-- the line of a record that is put out, where it is a summary
abbrev pub summary_line : OutRecord → List ℕ
summary_line out = if out.kind == SUMMARY then counts_line (counts_in out.body) else []

-- ---- those of a feed

-- the lines of the summaries that are put out for records after a roster
abbrev pub summary_lines : RosterOf → List FeedRecord → List ℕ
summary_lines roster items = flat_map summary_line (all_output (fresh roster) items)

abbrev pub lines_with : Option RosterOf → List FeedRecord → List ℕ
lines_with None items = []
lines_with (Some roster) items = summary_lines roster items

abbrev pub summaries_of : FeedMeaning → List ℕ
summaries_of feed = lines_with feed.roster feed.items

-- those of the generated feed of a number
abbrev pub trial_text : ℕ → List ℕ
trial_text number = summaries_of (feed_meaning (feed_octets number))
