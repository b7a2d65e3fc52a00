-- Output records are read again from their octets.
use Rattle.std.proofs.Common.{◌≡◌, ℕ, ◌+◌, false, ltb, List, [], ◌∷◌, ◌++◌, length, map, Some, refl, ap, ◌∙◌, arith, append_assoc}
use Rattle.std.specs.Int.{w32, to_be_bytes}
use Rattle.std.specs.Prelude.{take}
use Rattle.std.specs.List.{flat_map, AllByRecursion}
use Rattle.std.proofs.lemmas.Bool.{le-ltb}
use Rattle.std.proofs.lemmas.List.{length-append, take_all}
use Rattle.std.proofs.lemmas.Nat.{from_be_bytes-to_be_bytes_4}
use Rattle.rcp_base.proofs.CutLemmas.{cut-append}
use Rattle.rcp_base.specs.Feed.{OutRecord, out_octets, length_at, source_at, frame_size}
use Rattle.feed_format.proofs.FrontLemmas.{frame_size_front}
use Rattle.feed_run.specs.Frames.{whole_frame, out_in, outs_in, IsFramed}

-- the nine octets before the body
abbrev header_of : OutRecord → List ℕ
header_of out = out.kind ∷ to_be_bytes w32 out.connection ++ to_be_bytes w32 (length out.body)

body_length : (out : OutRecord) → IsFramed out → length_at (header_of out) ≡ length out.body
body_length out fits = from_be_bytes-to_be_bytes_4 (length out.body) fits.length

out-length : (out : OutRecord) → length (out_octets out) ≡ 9 + length out.body
out-length out = omega (arith, length-append (header_of out) out.body)

frame-front : (out : OutRecord) (more : List ℕ) → IsFramed out → whole_frame (out_octets out ++ more) ≡ Some (length (out_octets out))
frame-front out more fits =
    let octets = out_octets out ++ more in
    let size : frame_size (out_octets out ++ more) ≡ length (out_octets out) =
    ap frame_size (append_assoc (header_of out) out.body more) ∙ frame_size_front (header_of out) (out.body ++ more) refl
    ∙ omega (arith, body_length out fits, out-length out) in
    let whole : ltb (length octets) (frame_size octets) ≡ false = le-ltb _ _ (omega (arith, size, length-append (out_octets out) more)) in
    rw whole (ap Some size)

out-again : (out : OutRecord) → IsFramed out → out_in (out_octets out) ≡ out
out-again out fits =
    let connection : source_at (out_octets out) ≡ out.connection = from_be_bytes-to_be_bytes_4 out.connection fits.connection in
    let body : take (length_at (out_octets out)) out.body ≡ out.body = take_all (length_at (out_octets out)) out.body (omega (arith, body_length out fits)) in
    rw (connection, body) refl

-- frames that fit, one after another, are read as their records
pub outs-again : (outs : List OutRecord) → AllByRecursion IsFramed outs → outs_in (flat_map out_octets outs) ≡ outs
outs-again [] fit = refl
outs-again (out ∷ outs) fit =
    let rest = flat_map out_octets outs in
    ap (λ (parts : List (List ℕ) × List ℕ). map out_in parts.0)
    (cut-append whole_frame (out_octets out) rest (frame-front out rest fit.0) (omega (arith, out-length out)))
    ∙ ap (λ (o : OutRecord). o ∷ outs_in rest) (out-again out fit.0)
    ∙ ap (λ (l : List OutRecord). out ∷ l) (outs-again outs fit.1)
