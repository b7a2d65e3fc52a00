-- Octets that were written, read as output records: frames one after another, for as long as whole ones stand in front.
use Rattle.std.specs.Prelude.{ℕ, ◌^◌, ◌<◌, List, length, map, Option, Some, None, nat_lt, if◌then◌else◌}
use Rattle.rcp_base.specs.Cut.{cut}
use Rattle.rcp_base.specs.Feed.{OutRecord, letter_at, source_at, body_at, frame_size}

-- the length of the frame in front, where a whole one stands there
abbrev pub whole_frame : List ℕ → Option ℕ
whole_frame octets = if nat_lt (length octets) (frame_size octets) then None else Some (frame_size octets)

abbrev pub out_in : List ℕ → OutRecord
out_in octets = record { kind = letter_at octets; connection = source_at octets; body = body_at octets }

abbrev pub outs_in : List ℕ → List OutRecord
outs_in octets = map out_in (cut whole_frame octets).0

-- its connection and its length have room in the four octets of a frame
pub record IsFramed (out : OutRecord) : Type 0 where
  pub connection : out.connection < 2 ^ 32
  pub length : length out.body < 2 ^ 32
