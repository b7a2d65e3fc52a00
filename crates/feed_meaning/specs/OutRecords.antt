-- What is put out: messages to connections, ends of connections, lost framing and summaries.
use Rattle.std.specs.Prelude.{ℕ, ◌-◌, ◌^◌, ◌&&◌, ◌==◌, List, [], ◌∷◌, ◌++◌, length, map, min, Option, Some, None, if◌then◌else◌}
use Rattle.std.specs.Int.{w64, to_be_bytes}
use Rattle.rcp_base.specs.Feed.{OutRecord}
use Rattle.rcp_base.specs.Maps.{include_all}
use Rattle.rcp_model.specs.Sessions.{Reason, Faulted, Received, Ended, SeatTaken, Ending}
use Rattle.rcp_model.specs.RouteServer.{Server, announced_prefixes}

-- the kinds of the records, by their letters
abbrev pub MESSAGE : ℕ
MESSAGE = 66

abbrev pub CLOSED : ℕ
CLOSED = 88

abbrev pub SUMMARY : ℕ
SUMMARY = 83

abbrev pub LOST_FRAMING : ℕ
LOST_FRAMING = 81

abbrev pub messages_to : ℕ → List (List ℕ) → List OutRecord
messages_to number messages = map (λ message. record { kind = MESSAGE; connection = number; body = message }) messages

abbrev pub reason_number : Reason → ℕ
reason_number Faulted = 1
reason_number Received = 2
reason_number Ended = 3
reason_number SeatTaken = 4

-- the end of a connection, with the code and subcode of the NOTIFICATION that was sent or received
abbrev pub end_record : ℕ → Option Ending → List OutRecord
end_record number None = []
end_record number (Some ending) =
    record { kind = CLOSED; connection = number; body = reason_number ending.reason ∷ ending.code ∷ ending.sub ∷ [] } ∷ []

-- the greatest count that eight octets hold
abbrev pub MOST : ℕ
MOST = 2 ^ 64 - 1

abbrev pub counted : ℕ → List ℕ
counted n = to_be_bytes w64 (min n MOST)

-- the place in the stream of link state where the framing was lost, if so
abbrev pub lost_record : Option ℕ → List OutRecord
lost_record None = []
lost_record (Some place) = record { kind = LOST_FRAMING; connection = 0; body = counted place } ∷ []

-- connected routers, prefixes with an announcement, UPDATEs put out so far
abbrev pub summary : Server → ℕ → OutRecord
summary server updates = record {
  kind = SUMMARY;
  connection = 0;
  body = counted (length server.tables) ++ counted (length (include_all (announced_prefixes server.announcements) [])) ++ counted updates;
}

-- the octets sent to a connection: the messages put out for it, in order
abbrev pub sent_to : ℕ → List OutRecord → List ℕ
sent_to number [] = []
sent_to number (out ∷ outs) = if out.kind == MESSAGE && out.connection == number then out.body ++ sent_to number outs else sent_to number outs
