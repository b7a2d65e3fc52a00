-- Feeds whose sessions open, expire and fall, with what is put out. The octets are written out, not by the definitions.
use Rattle.std.specs.Prelude.{ℕ, List, [], ◌∷◌, ◌++◌, take, drop}
use Rattle.rcp_base.specs.declared.kinds.Kind.TheVariants.{Raw, Closed, Time}
use Rattle.rcp_base.specs.Feed.{FeedRecord, OutRecord}
use Rattle.meaning_cases.specs.Examples.{ready, heard_on, drain_record, announcement_by, tie, tie_output}
use Rattle.meaning_cases.specs.Cases.{update_to, summary_of}
use Rattle.meaning_cases.specs.SessionCases.{platform_open, open_30, open_with, alive, cease, timeout, header_with}
use Rattle.rcp_model.specs.Messages.{marker}

abbrev pub opened : ℕ → FeedRecord
opened number = record { kind = Raw; source = number; body = [] }

abbrev pub closed_by_peer : ℕ → FeedRecord
closed_by_peer number = record { kind = Closed; source = number; body = [] }

-- a time below 256
abbrev pub at_moment : ℕ → FeedRecord
at_moment seconds = record { kind = Time; source = 0; body = 0 ∷ 0 ∷ 0 ∷ 0 ∷ 0 ∷ 0 ∷ 0 ∷ seconds ∷ [] }

abbrev pub ended_so : ℕ → ℕ → ℕ → ℕ → OutRecord
ended_so number reason code sub = record { kind = 88; connection = number; body = reason ∷ code ∷ sub ∷ [] }

-- ---- a session that is lost takes its router's routes along

-- the front of an UPDATE comes, and then the connection's end
abbrev pub session_loss : List FeedRecord
session_loss = tie ++ heard_on 1 (take 30 (announcement_by 1)) ∷ closed_by_peer 1 ∷ drain_record ∷ []

abbrev pub session_loss_output : List OutRecord
session_loss_output = tie_output ++ ended_so 1 3 0 0 ∷ update_to 2 (announcement_by 3) ∷ summary_of 2 1 2 ∷ []

-- ---- a session whose hold time is 30 seconds

abbrev pub opening : List FeedRecord
opening = opened 1 ∷ heard_on 1 open_30 ∷ heard_on 1 alive ∷ []

abbrev pub opening_output : List OutRecord
opening_output = update_to 1 platform_open ∷ update_to 1 alive ∷ []

abbrev pub timers : List FeedRecord
timers = opening ++ at_moment 9 ∷ at_moment 10 ∷ at_moment 29 ∷ drain_record ∷ at_moment 30 ∷ drain_record ∷ []

abbrev pub timers_output : List OutRecord
timers_output =
    opening_output
    ++ update_to 1 alive ∷ update_to 1 alive ∷ summary_of 1 0 0
    ∷ update_to 1 timeout ∷ ended_so 1 1 4 0 ∷ summary_of 0 0 0 ∷ []

-- ---- a router whose seat is taken

-- The first connection stays. A third one, that claims the seat by its OPEN, is refused as well.
abbrev pub seat_taken : List FeedRecord
seat_taken = opening ++ ready 2 1 ∷ opened 3 ∷ heard_on 3 open_30 ∷ drain_record ∷ []

abbrev pub seat_taken_output : List OutRecord
seat_taken_output =
    opening_output
    ++ update_to 2 cease ∷ ended_so 2 4 6 0
    ∷ update_to 3 platform_open ∷ update_to 3 cease ∷ ended_so 3 4 6 0 ∷ summary_of 1 0 0 ∷ []

-- ---- octets in pieces

-- an announcement in two pieces, cut within its header
abbrev pub in_pieces : List FeedRecord
in_pieces =
    ready 1 1 ∷ ready 2 2 ∷ ready 3 3
    ∷ heard_on 1 (take 10 (announcement_by 1)) ∷ heard_on 1 (drop 10 (announcement_by 1)) ∷ heard_on 3 (announcement_by 3) ∷ drain_record ∷ []

-- ---- a header fault before the OPEN

abbrev pub faulty_header : List FeedRecord
faulty_header = opened 1 ∷ heard_on 1 (header_with 0 18 4) ∷ closed_by_peer 1 ∷ []

abbrev pub faulty_header_output : List OutRecord
faulty_header_output = update_to 1 platform_open ∷ update_to 1 (marker ++ (0 ∷ 23 ∷ 3 ∷ 1 ∷ 2 ∷ 0 ∷ 18 ∷ [])) ∷ ended_so 1 1 1 2 ∷ []

-- ---- an OPEN with the hold time 2, after which its connection is of no account, and the router connects anew

abbrev pub refused_and_again : List FeedRecord
refused_and_again = opened 1 ∷ heard_on 1 (open_with 4 232 2 1) ∷ heard_on 1 alive ∷ ready 2 1 ∷ drain_record ∷ []

abbrev pub refused_and_again_output : List OutRecord
refused_and_again_output =
    update_to 1 platform_open ∷ update_to 1 (marker ++ (0 ∷ 21 ∷ 3 ∷ 2 ∷ 6 ∷ [])) ∷ ended_so 1 1 2 6 ∷ summary_of 1 0 0 ∷ []
