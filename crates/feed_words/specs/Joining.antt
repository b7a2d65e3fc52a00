-- Texts that may stand one after another, and the text of any octets.
use Rattle.std.specs.Prelude.{◌≡◌, ◌⊎◌, ℕ, List, [], ◌∷◌, ◌++◌, codes}
use Rattle.line_words.specs.Words.{hex_text}

-- it is empty, or its last octet is 0A
abbrev pub EndsLine : List ℕ → Type 0
EndsLine text = (text ≡ []) ⊎ ((line : List ℕ) × (text ≡ line ++ 10 ∷ []))

-- the line of any octets
abbrev pub octets_line : List ℕ → List ℕ
octets_line octets = codes "octets " ++ hex_text octets ++ 10 ∷ []
