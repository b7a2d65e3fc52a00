-- Feeds with link state, with what is put out. The octets are written out, not by the definitions.
use Rattle.std.specs.Prelude.{ℕ, List, [], ◌∷◌, ◌++◌, replicate, take, drop}
use Rattle.rcp_base.specs.declared.kinds.Kind.TheVariants.{Links, Slice}
use Rattle.rcp_base.specs.Feed.{FeedRecord, OutRecord}
use Rattle.rcp_base.specs.Roster.{RosterOf}
use Rattle.meaning_cases.specs.Examples.{linked, ready, heard_on, drain_record, announcement_by, tie_output}
use Rattle.meaning_cases.specs.Cases.{update_to, summary_of}

-- three routers of whose links the roster says nothing
abbrev pub unlinked : RosterOf
unlinked = record linked { links = [] }

abbrev pub link_state : List ℕ → FeedRecord
link_state octets = record { kind = Links; source = 0; body = octets }

-- the least pending prefixes of a shard, each number below 256
abbrev pub slice_of : ℕ → ℕ → FeedRecord
slice_of shard count = record { kind = Slice; source = 0; body = 0 ∷ shard ∷ 0 ∷ 0 ∷ 0 ∷ count ∷ [] }

abbrev pub all_ready : List FeedRecord
all_ready = ready 1 1 ∷ ready 2 2 ∷ ready 3 3 ∷ []

-- ---- packets and LSAs (RFC 2328 sections A.3.1, A.3.5, A.4.1 and A.4.2)

-- a Link State Update of 10.255.0.1 in the area 0.0.0.0, with its length and the count of its LSAs
abbrev pub packet_of : ℕ → ℕ → List ℕ → List ℕ
packet_of length count lsas = (2 ∷ 4 ∷ 0 ∷ length ∷ 10 ∷ 255 ∷ 0 ∷ 1 ∷ []) ++ replicate 16 0 ++ (0 ∷ 0 ∷ 0 ∷ count ∷ []) ++ lsas

-- an LSA of 10.0.0.N of age 1, with a sequence number from 80000000 hex on, the checksum, its length and the count of its links
abbrev pub lsa_of : ℕ → ℕ → ℕ → ℕ → ℕ → ℕ → List ℕ → List ℕ
lsa_of n sequence high low length count links =
    (0 ∷ 1 ∷ 2 ∷ 1 ∷ 10 ∷ 0 ∷ 0 ∷ n ∷ 10 ∷ 0 ∷ 0 ∷ n ∷ 128 ∷ 0 ∷ 0 ∷ sequence ∷ high ∷ low ∷ 0 ∷ length ∷ 0 ∷ 0 ∷ 0 ∷ count ∷ []) ++ links

-- a point-to-point link to 10.0.0.N
abbrev pub link_to : ℕ → ℕ → List ℕ
link_to n metric = 10 ∷ 0 ∷ 0 ∷ n ∷ 0 ∷ 0 ∷ 0 ∷ 0 ∷ 1 ∷ 0 ∷ 0 ∷ metric ∷ []

abbrev pub lsa_of_A : List ℕ
lsa_of_A = lsa_of 1 1 206 90 36 1 (link_to 2 10)

abbrev pub lsa_of_B : List ℕ
lsa_of_B = lsa_of 2 1 28 230 48 2 (link_to 1 10 ++ link_to 3 10)

abbrev pub lsa_of_C : List ℕ
lsa_of_C = lsa_of 3 1 174 118 36 1 (link_to 2 10)

-- C lists no link
abbrev pub bare_lsa_of_C : List ℕ
bare_lsa_of_C = lsa_of 3 1 114 214 24 0 []

-- newer ones, between which a link costs 11
abbrev pub newer_lsa_of_A : List ℕ
newer_lsa_of_A = lsa_of 1 2 222 72 36 1 (link_to 2 11)

abbrev pub newer_lsa_of_B : List ℕ
newer_lsa_of_B = lsa_of 2 2 44 212 48 2 (link_to 1 11 ++ link_to 3 10)

-- ---- a cost rises

-- the row of three routers by their LSAs, and the tie; then the first link costs more
abbrev pub cost_rises : List FeedRecord
cost_rises =
    all_ready
    ++ link_state (packet_of 148 3 (lsa_of_A ++ lsa_of_B ++ lsa_of_C)) ∷ heard_on 1 (announcement_by 1) ∷ heard_on 3 (announcement_by 3) ∷ drain_record
    ∷ link_state (packet_of 112 2 (newer_lsa_of_A ++ newer_lsa_of_B)) ∷ []

-- Nothing is sent for it before the prefix is worked, which is of the second of two shards.
abbrev pub cost_rises_output : List OutRecord
cost_rises_output = tie_output ++ update_to 2 (announcement_by 3) ∷ []

-- ---- a router to which no link leads in both directions

abbrev pub lone_router : List FeedRecord
lone_router = all_ready ++ link_state (packet_of 136 3 (lsa_of_A ++ lsa_of_B ++ bare_lsa_of_C)) ∷ heard_on 1 (announcement_by 1) ∷ drain_record ∷ []

abbrev pub lone_router_output : List OutRecord
lone_router_output = update_to 2 (announcement_by 1) ∷ summary_of 3 1 1 ∷ []

-- ---- lost framing

-- two packets without LSAs, and the header of a third, whose version is 3
abbrev pub lost_octets : List ℕ
lost_octets = (2 ∷ 1 ∷ 0 ∷ 24 ∷ []) ++ replicate 20 0 ++ (2 ∷ 1 ∷ 0 ∷ 24 ∷ []) ++ replicate 20 0 ++ (3 ∷ 1 ∷ 0 ∷ 24 ∷ []) ++ replicate 20 0

-- they come in two pieces
abbrev pub lost_framing : List FeedRecord
lost_framing = link_state (take 30 lost_octets) ∷ link_state (drop 30 lost_octets) ∷ []

-- and then come LSAs
abbrev pub lost_and_later : List FeedRecord
lost_and_later = lost_framing ++ link_state (packet_of 148 3 (lsa_of_A ++ lsa_of_B ++ lsa_of_C)) ∷ []

-- Q with the place 48
abbrev pub lost_output : List OutRecord
lost_output = record { kind = 81; connection = 0; body = 0 ∷ 0 ∷ 0 ∷ 0 ∷ 0 ∷ 0 ∷ 0 ∷ 48 ∷ [] } ∷ []

-- ---- slices

abbrev pub in_one_shard : RosterOf
in_one_shard = record linked { shards = 1 }

-- the announcement of 0.0.0.0/0 and 255.255.255.255/32 by path 65001, with the next hop 10.0.0.1
abbrev pub announcement_of_both : List ℕ
announcement_of_both =
    replicate 16 255
    ++ (0 ∷ 54 ∷ 2 ∷ 0 ∷ 0 ∷ 0 ∷ 25 ∷ 64 ∷ 1 ∷ 1 ∷ 0 ∷ 64 ∷ 2 ∷ 4 ∷ 2 ∷ 1 ∷ 253 ∷ 233 ∷ 64 ∷ 3 ∷ 4 ∷ 10 ∷ 0 ∷ 0 ∷ 1 ∷ 64 ∷ 5 ∷ 4 ∷ 0 ∷ 0 ∷ 0 ∷ 100 ∷ [])
    ++ 0 ∷ 32 ∷ 255 ∷ 255 ∷ 255 ∷ 255 ∷ []

-- of the one and of the other alone
abbrev pub announcement_of_first : List ℕ
announcement_of_first =
    replicate 16 255
    ++ (0 ∷ 49 ∷ 2 ∷ 0 ∷ 0 ∷ 0 ∷ 25 ∷ 64 ∷ 1 ∷ 1 ∷ 0 ∷ 64 ∷ 2 ∷ 4 ∷ 2 ∷ 1 ∷ 253 ∷ 233 ∷ 64 ∷ 3 ∷ 4 ∷ 10 ∷ 0 ∷ 0 ∷ 1 ∷ 64 ∷ 5 ∷ 4 ∷ 0 ∷ 0 ∷ 0 ∷ 100 ∷ [])
    ++ 0 ∷ []

abbrev pub announcement_of_second : List ℕ
announcement_of_second =
    replicate 16 255
    ++ (0 ∷ 53 ∷ 2 ∷ 0 ∷ 0 ∷ 0 ∷ 25 ∷ 64 ∷ 1 ∷ 1 ∷ 0 ∷ 64 ∷ 2 ∷ 4 ∷ 2 ∷ 1 ∷ 253 ∷ 233 ∷ 64 ∷ 3 ∷ 4 ∷ 10 ∷ 0 ∷ 0 ∷ 1 ∷ 64 ∷ 5 ∷ 4 ∷ 0 ∷ 0 ∷ 0 ∷ 100 ∷ [])
    ++ 32 ∷ 255 ∷ 255 ∷ 255 ∷ 255 ∷ []

-- three slices of one prefix each, where two are pending
abbrev pub slices : List FeedRecord
slices = all_ready ++ heard_on 1 announcement_of_both ∷ slice_of 0 1 ∷ slice_of 0 1 ∷ slice_of 0 1 ∷ []

abbrev pub slices_output : List OutRecord
slices_output = update_to 2 announcement_of_first ∷ update_to 3 announcement_of_first ∷ update_to 2 announcement_of_second ∷ update_to 3 announcement_of_second ∷ []

-- The tie without its drain: a slice of no prefix, and one of the other shard, which has none pending
abbrev pub idle_slices : List FeedRecord
idle_slices = all_ready ++ heard_on 1 (announcement_by 1) ∷ heard_on 3 (announcement_by 3) ∷ slice_of 1 0 ∷ slice_of 0 9 ∷ []

abbrev pub counted_slices : List FeedRecord
counted_slices = idle_slices ++ slice_of 1 9 ∷ []

abbrev pub counted_slices_output : List OutRecord
counted_slices_output = update_to 2 (announcement_by 1) ∷ []
