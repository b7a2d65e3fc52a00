-- What the functions of records answer, as the definitions' records and octets.
use Rattle.std.specs.Prelude.{◌≡◌, ℕ, List, Option, Some, None, Result, Ok, Err}
use Rattle.rcp_base.specs.Feed.{OutRecord, frame}
use Rattle.line_words.specs.declared.stop.WordFault.{WordFault}
use Rattle.line_words.specs.declared.stop.Stop.{Stop}
use Rattle.feed_words.specs.declared.records.Head.{Head}
use Rattle.line_words.specs.Reading.{Fails}

abbrev pub GivesRecord : Result Head Stop → List ℕ → Result OutRecord WordFault → Type 0
GivesRecord (Ok head) body read = read ≡ Ok (record { kind = head.kind; connection = head.source; body = body })
GivesRecord (Err e) body read = Fails e read

-- the octets of a piece: a record's, or any
abbrev pub piece_octets : Option Head → List ℕ → List ℕ
piece_octets None body = body
piece_octets (Some head) body = frame head.kind head.source body

abbrev pub GivesPiece : Result (Option Head) Stop → List ℕ → Result (List ℕ) WordFault → Type 0
GivesPiece (Ok head) body read = read ≡ Ok (piece_octets head body)
GivesPiece (Err e) body read = Fails e read
