-- Feeds after which it is known which prefixes are pending. The octets are written out, not by the definitions.
use Rattle.std.specs.Prelude.{ℕ, List, [], ◌∷◌, ◌++◌}
use Rattle.rcp_base.specs.IpPrefix.{IpPrefix}
use Rattle.rcp_base.specs.Feed.{FeedRecord, OutRecord}
use Rattle.rcp_base.specs.Roster.{RosterOf}
use Rattle.meaning_cases.specs.Examples.{A, C, member, ready, heard_on, drain_record, announcement_by}
use Rattle.meaning_cases.specs.Cases.{update_to, summary_of}
use Rattle.meaning_cases.specs.LinkStateFeeds.{unlinked, link_state, slice_of, all_ready, packet_of, lsa_of, link_to, lsa_of_A, lsa_of_B, lsa_of_C, newer_lsa_of_A, announcement_of_both, announcement_of_second}

-- ---- prefixes

-- 203.0.113.0/24
abbrev pub announced_prefix : IpPrefix
announced_prefix = record { addr = 3405803776; len = 24 }

-- 0.0.0.0/0 is of the first of two shards, 255.255.255.255/32 of the second
abbrev pub default_route : IpPrefix
default_route = record { addr = 0; len = 0 }

abbrev pub last_host : IpPrefix
last_host = record { addr = 4294967295; len = 32 }

-- ---- cost changes that cancel

-- A and C are the platform's routers, and B between them isn't
abbrev pub ends_of_the_row : RosterOf
ends_of_the_row = record unlinked { members = member A ∷ member C ∷ [] }

-- C announces a prefix, which A is offered at the cost 10 + 10
abbrev pub announced_by_C : List FeedRecord
announced_by_C =
    ready 1 1 ∷ ready 2 3 ∷ link_state (packet_of 148 3 (lsa_of_A ++ lsa_of_B ++ lsa_of_C)) ∷ heard_on 2 (announcement_by 3) ∷ drain_record ∷ []

abbrev pub announced_by_C_output : List OutRecord
announced_by_C_output = update_to 1 (announcement_by 3) ∷ summary_of 2 1 1 ∷ []

-- the link of B to A costs 10, and that to C 9
abbrev pub cheaper_lsa_of_B : List ℕ
cheaper_lsa_of_B = lsa_of 2 2 251 7 48 2 (link_to 1 10 ++ link_to 3 9)

-- the cost is 11 + 9 after two LSAs that come at once
abbrev pub costs_cancel : List FeedRecord
costs_cancel = announced_by_C ++ link_state (packet_of 112 2 (newer_lsa_of_A ++ cheaper_lsa_of_B)) ∷ []

-- they come one after the other, with 11 + 10 between
abbrev pub costs_cancel_later : List FeedRecord
costs_cancel_later = announced_by_C ++ link_state (packet_of 64 1 newer_lsa_of_A) ∷ link_state (packet_of 76 1 cheaper_lsa_of_B) ∷ []

-- ---- a cost changes to a router whose route nobody was given

-- the link of B to C costs 11
abbrev pub dearer_lsa_of_B : List ℕ
dearer_lsa_of_B = lsa_of 2 2 56 200 48 2 (link_to 1 10 ++ link_to 3 11)

-- A and C announce a prefix, and keep their own routes; B is given that of A. The cost from B to C rises.
abbrev pub further_exit : List FeedRecord
further_exit =
    all_ready
    ++ link_state (packet_of 148 3 (lsa_of_A ++ lsa_of_B ++ lsa_of_C)) ∷ heard_on 1 (announcement_by 1) ∷ heard_on 3 (announcement_by 3) ∷ drain_record
    ∷ link_state (packet_of 76 1 dearer_lsa_of_B) ∷ []

-- ---- a slice among prefixes of two shards

-- a prefix of each shard is pending, the lesser one of the first: a slice of one prefix of the second
abbrev pub slice_of_second : List FeedRecord
slice_of_second = all_ready ++ heard_on 1 announcement_of_both ∷ slice_of 1 1 ∷ []

abbrev pub slice_of_second_output : List OutRecord
slice_of_second_output = update_to 2 announcement_of_second ∷ update_to 3 announcement_of_second ∷ []
