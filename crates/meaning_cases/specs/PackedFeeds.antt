-- Feeds in which several prefixes change at once, with what is put out. The octets are written out, not by the definitions.
use Rattle.std.specs.Prelude.{ℕ, List, [], ◌∷◌, ◌++◌}
use Rattle.rcp_model.specs.Messages.{marker}
use Rattle.rcp_base.specs.Feed.{FeedRecord, OutRecord}
use Rattle.meaning_cases.specs.Examples.{ready, heard_on, drain_record, announcement_by}
use Rattle.meaning_cases.specs.Cases.{update_to, summary_of, from_igp, by_65001, by_65002, next_hop_at, preferred_100, the_prefix}
use Rattle.meaning_cases.specs.LinkStateFeeds.{all_ready, slice_of, announcement_of_both}
use Rattle.meaning_cases.specs.SessionFeeds.{closed_by_peer, ended_so}

-- ---- two prefixes with the same attributes are announced, and then withdrawn

-- 198.51.100.0/24
abbrev pub lesser_prefix : List ℕ
lesser_prefix = 24 ∷ 198 ∷ 51 ∷ 100 ∷ []

abbrev pub both_announced : List ℕ
both_announced =
    marker ++ (0 ∷ 56 ∷ 2 ∷ 0 ∷ 0 ∷ 0 ∷ 25 ∷ []) ++ from_igp ++ by_65001 ++ next_hop_at 1 ++ preferred_100 ++ lesser_prefix ++ the_prefix

abbrev pub both_withdrawn : List ℕ
both_withdrawn = marker ++ (0 ∷ 31 ∷ 2 ∷ 0 ∷ 8 ∷ []) ++ lesser_prefix ++ the_prefix ++ (0 ∷ 0 ∷ [])

abbrev pub together : List FeedRecord
together = all_ready ++ heard_on 1 both_announced ∷ drain_record ∷ []

abbrev pub together_output : List OutRecord
together_output = update_to 2 both_announced ∷ update_to 3 both_announced ∷ summary_of 3 2 2 ∷ []

-- their router's connection ends
abbrev pub together_and_gone : List FeedRecord
together_and_gone = together ++ closed_by_peer 1 ∷ drain_record ∷ []

abbrev pub together_and_gone_output : List OutRecord
together_and_gone_output =
    together_output ++ ended_so 1 3 0 0 ∷ update_to 2 both_withdrawn ∷ update_to 3 both_withdrawn ∷ summary_of 2 0 4 ∷ []

-- two prefixes of one shard in one slice
abbrev pub slice_of_both : List FeedRecord
slice_of_both = all_ready ++ heard_on 1 announcement_of_both ∷ slice_of 0 2 ∷ []

abbrev pub slice_of_both_output : List OutRecord
slice_of_both_output = update_to 2 announcement_of_both ∷ update_to 3 announcement_of_both ∷ []

-- ---- a withdrawal and two groups of announcements

-- 10.N.0.0/16
abbrev pub prefix_at : ℕ → List ℕ
prefix_at n = 16 ∷ 10 ∷ n ∷ []

-- the first and the third by path 65001, the second by path 65002
abbrev pub first_and_third : List ℕ
first_and_third =
    marker ++ (0 ∷ 54 ∷ 2 ∷ 0 ∷ 0 ∷ 0 ∷ 25 ∷ []) ++ from_igp ++ by_65001 ++ next_hop_at 1 ++ preferred_100 ++ prefix_at 1 ++ prefix_at 3

abbrev pub second_alone : List ℕ
second_alone = marker ++ (0 ∷ 51 ∷ 2 ∷ 0 ∷ 0 ∷ 0 ∷ 25 ∷ []) ++ from_igp ++ by_65002 ++ next_hop_at 1 ++ preferred_100 ++ prefix_at 2

-- the prefix above them is withdrawn
abbrev pub last_withdrawn : List ℕ
last_withdrawn = marker ++ (0 ∷ 27 ∷ 2 ∷ 0 ∷ 4 ∷ []) ++ the_prefix ++ (0 ∷ 0 ∷ [])

abbrev pub two_groups : List FeedRecord
two_groups =
    ready 1 1 ∷ ready 2 2 ∷ heard_on 1 (announcement_by 1) ∷ drain_record
    ∷ heard_on 1 second_alone ∷ heard_on 1 first_and_third ∷ heard_on 1 last_withdrawn ∷ drain_record ∷ []

abbrev pub two_groups_output : List OutRecord
two_groups_output =
    update_to 2 (announcement_by 1) ∷ summary_of 2 1 1
    ∷ update_to 2 last_withdrawn ∷ update_to 2 first_and_third ∷ update_to 2 second_alone ∷ summary_of 2 3 4 ∷ []
