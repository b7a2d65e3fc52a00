-- Further cases with their outcome: small networks in which one rule decides. The octets are written out, not by the definitions.
use Rattle.std.specs.Prelude.{ℕ, ◌+◌, List, [], ◌∷◌, ◌++◌, replicate, pos}
use Rattle.rcp_model.specs.Messages.{marker}
use Rattle.rcp_model.specs.LinkState.{LinkState, Kept, RouterLink}
use Rattle.rcp_base.specs.Feed.{FeedRecord, OutRecord}
use Rattle.rcp_base.specs.Roster.{RosterOf}
use Rattle.meaning_cases.specs.Examples.{A, B, C, member, link, linked, ready, heard_on, drain_record, announcement_by, tie, tie_output}

-- ---- what is put out

abbrev pub update_to : ℕ → List ℕ → OutRecord
update_to number octets = record { kind = 66; connection = number; body = octets }

-- connected routers, prefixes and UPDATEs, each below 256
abbrev pub summary_of : ℕ → ℕ → ℕ → OutRecord
summary_of routers prefixes updates = record {
  kind = 83;
  connection = 0;
  body = (0 ∷ 0 ∷ 0 ∷ 0 ∷ 0 ∷ 0 ∷ 0 ∷ routers ∷ []) ++ (0 ∷ 0 ∷ 0 ∷ 0 ∷ 0 ∷ 0 ∷ 0 ∷ prefixes ∷ []) ++ (0 ∷ 0 ∷ 0 ∷ 0 ∷ 0 ∷ 0 ∷ 0 ∷ updates ∷ []);
}

-- ---- octets of attributes

abbrev pub from_igp : List ℕ
from_igp = 64 ∷ 1 ∷ 1 ∷ 0 ∷ []

-- 65001 and 65002
abbrev pub by_65001 : List ℕ
by_65001 = 64 ∷ 2 ∷ 4 ∷ 2 ∷ 1 ∷ 253 ∷ 233 ∷ []

abbrev pub by_65002 : List ℕ
by_65002 = 64 ∷ 2 ∷ 4 ∷ 2 ∷ 1 ∷ 253 ∷ 234 ∷ []

-- 65001 and then 65000, which is the local AS
abbrev pub by_65001_65000 : List ℕ
by_65001_65000 = 64 ∷ 2 ∷ 6 ∷ 2 ∷ 2 ∷ 253 ∷ 233 ∷ 253 ∷ 232 ∷ []

-- 10.0.0.N
abbrev pub next_hop_at : ℕ → List ℕ
next_hop_at n = 64 ∷ 3 ∷ 4 ∷ 10 ∷ 0 ∷ 0 ∷ n ∷ []

abbrev pub with_exit : ℕ → List ℕ
with_exit n = 128 ∷ 4 ∷ 4 ∷ 0 ∷ 0 ∷ 0 ∷ n ∷ []

abbrev pub preferred_100 : List ℕ
preferred_100 = 64 ∷ 5 ∷ 4 ∷ 0 ∷ 0 ∷ 0 ∷ 100 ∷ []

-- 203.0.113.0/24
abbrev pub the_prefix : List ℕ
the_prefix = 24 ∷ 203 ∷ 0 ∷ 113 ∷ []

-- ---- MULTI_EXIT_DISC is compared among routes of one neighbouring AS alone

-- four routers, the second of which is linked to the others
abbrev pub starred : RosterOf
starred = record linked {
  members = member A ∷ member B ∷ member C ∷ member (C + 1) ∷ [];
  links = link A B 1 ++ link B C 30 ++ link B (C + 1) 5;
}

abbrev pub announcement_with_exit : List ℕ → ℕ → ℕ → List ℕ
announcement_with_exit path n exit = marker ++ (0 ∷ 59 ∷ 2 ∷ 0 ∷ 0 ∷ 0 ∷ 32 ∷ []) ++ from_igp ++ path ++ next_hop_at n ++ with_exit exit ++ preferred_100 ++ the_prefix

abbrev pub lower_exit : List FeedRecord
lower_exit =
    ready 1 1 ∷ ready 2 2 ∷ ready 3 3 ∷ ready 4 4
    ∷ heard_on 1 (announcement_with_exit by_65001 1 20) ∷ heard_on 3 (announcement_with_exit by_65001 3 10) ∷ heard_on 4 (announcement_with_exit by_65002 4 50)
    ∷ drain_record ∷ []

-- The first router's route is removed by the third's. Nearest is the fourth; it and the third keep their own.
abbrev pub lower_exit_output : List OutRecord
lower_exit_output = update_to 1 (announcement_with_exit by_65002 4 50) ∷ update_to 2 (announcement_with_exit by_65002 4 50) ∷ summary_of 4 1 2 ∷ []

-- ---- a route whose AS_PATH holds the local AS is kept, and no candidate

abbrev pub looped_announcement : List ℕ
looped_announcement = marker ++ (0 ∷ 54 ∷ 2 ∷ 0 ∷ 0 ∷ 0 ∷ 27 ∷ []) ++ from_igp ++ by_65001_65000 ++ next_hop_at 1 ++ preferred_100 ++ the_prefix

abbrev pub loop : List FeedRecord
loop = ready 1 1 ∷ ready 2 2 ∷ ready 3 3 ∷ heard_on 1 looped_announcement ∷ drain_record ∷ []

abbrev pub loop_output : List OutRecord
loop_output = summary_of 3 1 0 ∷ []

-- ---- a prefix that one UPDATE withdraws and announces is announced

abbrev pub both_ways : List ℕ
both_ways = marker ++ (0 ∷ 56 ∷ 2 ∷ 0 ∷ 4 ∷ []) ++ the_prefix ++ (0 ∷ 25 ∷ []) ++ from_igp ++ by_65001 ++ next_hop_at 1 ++ preferred_100 ++ the_prefix

abbrev pub withdrawn_and_announced : List FeedRecord
withdrawn_and_announced = ready 1 1 ∷ ready 2 2 ∷ ready 3 3 ∷ heard_on 1 both_ways ∷ drain_record ∷ []

abbrev pub withdrawn_and_announced_output : List OutRecord
withdrawn_and_announced_output = update_to 2 (announcement_by 1) ∷ update_to 3 (announcement_by 1) ∷ summary_of 3 1 2 ∷ []

-- ---- a router to which nothing leads is offered nothing

abbrev pub lone : RosterOf
lone = record linked { links = link A B 10 }

abbrev pub alone : List FeedRecord
alone = ready 1 1 ∷ ready 2 2 ∷ ready 3 3 ∷ heard_on 1 (announcement_by 1) ∷ drain_record ∷ []

abbrev pub alone_output : List OutRecord
alone_output = update_to 2 (announcement_by 1) ∷ summary_of 3 1 1 ∷ []

-- The same network as link state has it: the second router lists the third, which lists no link.
abbrev pub link_to : ℕ → RouterLink
link_to router = record { id = router; kind = 1; metric = 10 }

abbrev pub kept : ℕ → List RouterLink → ℕ × Kept
kept router links = (router, record { lsa = record { key = router; header = record { sequence = pos 1; checksum = 1; age = 1 }; content = links }; since = 0 })

abbrev pub lone_link_state : LinkState
lone_link_state = record { routers = kept A (link_to B ∷ []) ∷ kept B (link_to A ∷ link_to C ∷ []) ∷ kept C [] ∷ [] }

-- ---- a route that leaves no room for some prefixes in an UPDATE of 4,096 octets is kept, and no candidate

-- 4,068 octets of attributes, of which 4,039 are the value of an unrecognised one with these flags
abbrev pub longest_announcement : ℕ → List ℕ
longest_announcement flags =
    marker ++ (15 ∷ 255 ∷ 2 ∷ 0 ∷ 0 ∷ 15 ∷ 228 ∷ []) ++ from_igp ++ by_65001 ++ next_hop_at 1 ++ preferred_100
    ++ (flags ∷ 99 ∷ 15 ∷ 199 ∷ []) ++ replicate 4039 7 ++ the_prefix

-- one octet more
abbrev pub overlong_announcement : List ℕ
overlong_announcement =
    marker ++ (16 ∷ 0 ∷ 2 ∷ 0 ∷ 0 ∷ 15 ∷ 229 ∷ []) ++ from_igp ++ by_65001 ++ next_hop_at 1 ++ preferred_100
    ++ (208 ∷ 99 ∷ 15 ∷ 200 ∷ []) ++ replicate 4040 7 ++ the_prefix

abbrev pub longest : List FeedRecord
longest = ready 1 1 ∷ ready 2 2 ∷ ready 3 3 ∷ heard_on 1 (longest_announcement 208) ∷ drain_record ∷ []

-- sent on as it came, with the partial flag set
abbrev pub longest_output : List OutRecord
longest_output = update_to 2 (longest_announcement 240) ∷ update_to 3 (longest_announcement 240) ∷ summary_of 3 1 2 ∷ []

abbrev pub overlong : List FeedRecord
overlong = ready 1 1 ∷ ready 2 2 ∷ ready 3 3 ∷ heard_on 1 overlong_announcement ∷ drain_record ∷ []

abbrev pub overlong_output : List OutRecord
overlong_output = summary_of 3 1 0 ∷ []

-- ---- an UPDATE with a fault is answered by its NOTIFICATION, and ends the session

-- ORIGIN is 3
abbrev pub faulty_announcement : List ℕ
faulty_announcement = marker ++ (0 ∷ 52 ∷ 2 ∷ 0 ∷ 0 ∷ 0 ∷ 25 ∷ []) ++ (64 ∷ 1 ∷ 1 ∷ 3 ∷ []) ++ by_65001 ++ next_hop_at 1 ++ preferred_100 ++ the_prefix

-- What comes later on the connection is of no account.
abbrev pub faulty : List FeedRecord
faulty = tie ++ heard_on 1 faulty_announcement ∷ heard_on 1 (1 ∷ 2 ∷ 3 ∷ []) ∷ heard_on 1 (announcement_by 1) ∷ drain_record ∷ []

-- Invalid ORIGIN Attribute, with the octets of the attribute. The first router's route is gone, so that the second is sent the third's.
abbrev pub faulty_output : List OutRecord
faulty_output =
    tie_output
    ++ update_to 1 (marker ++ (0 ∷ 25 ∷ 3 ∷ 3 ∷ 6 ∷ 64 ∷ 1 ∷ 1 ∷ 3 ∷ []))
    ∷ record { kind = 88; connection = 1; body = 1 ∷ 3 ∷ 6 ∷ [] }
    ∷ update_to 2 (announcement_by 3)
    ∷ summary_of 2 1 2 ∷ []
