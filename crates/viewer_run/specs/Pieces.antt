-- The pieces of a stream of link state, each with the time at which it came, and the link state that they leave.
use Rattle.std.specs.Prelude.{ℕ, List, [], ◌∷◌, max}
use Rattle.std.specs.List.{flat_map}
use Rattle.rcp_model.specs.LinkState.{LinkState}
use Rattle.igp_view.specs.Streams.{Stream, stream_after, state_after}

-- A time in seconds and the octets that came then: none where the time alone passed.
abbrev pub Piece : Type 0
Piece = ℕ × List ℕ

abbrev pub octets_of : List Piece → List ℕ
octets_of pieces = flat_map (λ piece. piece.1) pieces

-- The link state after pieces, each at its time; a time below the latest counts as the latest.
unfoldable pub state_over : ℕ → ℕ → Stream → List Piece → LinkState → LinkState
state_over area latest stream [] state = state
state_over area latest stream (piece ∷ pieces) state =
    state_over area (max piece.0 latest) (stream_after stream piece.1) pieces (state_after area (max piece.0 latest) stream piece.1 state)

unfoldable pub latest_over : ℕ → List Piece → ℕ
latest_over latest [] = latest
latest_over latest (piece ∷ pieces) = latest_over (max piece.0 latest) pieces
