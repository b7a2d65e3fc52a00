-- Octets that are copied after others in a buffer.
use Rattle.std.proofs.Common.{◌≡◌, ◌++◌, ◌+◌, ◌∙◌, ℕ, List, length, take, drop, ap, sym, append_assoc}
use Rattle.ospf_packet.specs.Framing.{Framing}
use Rattle.std.proofs.Math.Seq.{take-add, take-append-add, take-append_seam}

-- what two parts of known lengths begin with
pub take-append-parts : (first second rest before octets : List ℕ) (n m : ℕ) → length first ≡ n → length second ≡ m →
    first ≡ before → second ≡ octets → take (n + m) (first ++ (second ++ rest)) ≡ before ++ octets
take-append-parts first second rest before octets n m is_n is_m is_before is_octets =
    ap (λ k. take (k + m) (first ++ (second ++ rest))) (sym is_n)
    ∙ take-append-add first (second ++ rest) m
    ∙ ap (λ k. first ++ take k (second ++ rest)) (sym is_m)
    ∙ ap (λ xs. first ++ xs) (take-append_seam second rest)
    ∙ ap (λ xs. xs ++ second) is_before
    ∙ ap (λ xs. before ++ xs) is_octets

-- two fronts of a piece, copied one after the other, are one
pub filled_twice : (held piece rest now then : List ℕ) (count more : ℕ) → rest ≡ drop count piece →
    now ≡ held ++ take count piece → then ≡ now ++ take more rest → then ≡ held ++ take (count + more) piece
filled_twice held piece rest now then count more is_rest first second =
    second
    ∙ ap (λ xs. now ++ take more xs) is_rest
    ∙ ap (λ xs. xs ++ take more (drop count piece)) first
    ∙ append_assoc held (take count piece) (take more (drop count piece))
    ∙ ap (λ xs. held ++ xs) (sym (take-add count more piece))

-- a framer that holds more octets than before
pub framing_with : (old : Framing) (held now octets : List ℕ) (place : ℕ) →
    (let inside : Framing = record { held = held; place = place } in inside ≡ old) → now ≡ held ++ octets →
    (let new : Framing = record { held = now; place = place } in new ≡ record old { held = old.held ++ octets })
framing_with old held now octets place is_old is_now =
    ap (λ (h : List ℕ). let f : Framing = record { held = h; place = place } in f) is_now
    ∙ ap (λ (f : Framing). let g : Framing = record f { held = f.held ++ octets } in g) is_old
