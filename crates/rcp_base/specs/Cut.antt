-- Octets that are pieces, each of which says its own length: messages, prefixes, attributes, segments, records.
use Rattle.std.specs.Prelude.{ℕ, zero, suc, ◌-◌, List, [], ◌∷◌, take, Option, Some, None}

-- The pieces and the rest. `size` says how many octets the piece in front has, where a whole one stands there;
-- `left` is how many octets of the last piece are still to come.
abbrev pub cut_after : (List ℕ → Option ℕ) → ℕ → List ℕ → List (List ℕ) × List ℕ
cut_after size left [] = ([], [])
cut_after size (suc left) (octet ∷ octets) = cut_after size left octets
cut_after size zero (octet ∷ octets) = elim (size (octet ∷ octets)) [
  | None ↦ ([], octet ∷ octets)
  | Some n ↦ (take n (octet ∷ octets) ∷ (cut_after size (n - 1) octets).0, (cut_after size (n - 1) octets).1)
]

-- the whole pieces, one after another, and what is left where none stands in front
abbrev pub cut : (List ℕ → Option ℕ) → List ℕ → List (List ℕ) × List ℕ
cut size octets = cut_after size 0 octets
