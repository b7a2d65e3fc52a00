-- Words with a key before their value.
use Rattle.std.specs.Prelude.{ℕ, ◌+◌, ◌*◌, ◌^◌, List, [], ◌∷◌, ◌++◌, length, take, drop, Option, Some, None, option_map, option_and_then, Result, Ok, ◌==◌, if◌then◌else◌, nat_eq}
use Rattle.std.specs.List.{position, starts_with}
use denote.Ref.{Bor}
use Rattle.rcp_base.specs.Text.{number_of}
use Rattle.line_words.specs.declared.stop.WordFault.{WordFault}
use Rattle.line_words.specs.declared.stop.Why.TheVariants as why
use Rattle.line_words.specs.Reading.{faulty, spelled}
use Rattle.line_words.specs.Words.{below, hex_onto}

-- the value of the next word, where it has this key, and the words after it
abbrev pub keyed : List ℕ → List (List ℕ) → Option (List ℕ × List (List ℕ))
keyed key [] = None
keyed key (w ∷ ws) = if starts_with nat_eq w key then Some (drop (length key) w, ws) else None

-- it has to be there
abbrev pub field : {A : Type 0} → List ℕ → (List ℕ → Option A) → List (List ℕ) → Result (A × List (List ℕ)) WordFault
field key value ws = elim (keyed key ws) [
  | None ↦ faulty ws why.Missing
  | Some found ↦ spelled (value found.0) ws found.1
]

-- it may be left out
abbrev pub optional_field : {A : Type 0} → List ℕ → (List ℕ → Option A) → A → List (List ℕ) → Result (A × List (List ℕ)) WordFault
optional_field key value default ws = elim (keyed key ws) [
  | None ↦ Ok (default, ws)
  | Some found ↦ spelled (value found.0) ws found.1
]

-- what stands before and after the first such octet
abbrev pub halves : ℕ → List ℕ → Option (List ℕ × List ℕ)
halves by text = option_map (λ i. (take i text, drop (i + 1) text)) (position (λ c. c == by) text)

-- what stands before the first such octet, and after it where it is there
abbrev pub split_at_first : ℕ → List ℕ → List ℕ × Option (List ℕ)
split_at_first by text = elim (halves by text) [ None ↦ (text, None) | Some found ↦ (found.0, Some found.1) ]

abbrev pub u8_of : List ℕ → Option ℕ
u8_of text = below (2 ^ 8) (number_of text)

abbrev pub u16_of : List ℕ → Option ℕ
u16_of text = below (2 ^ 16) (number_of text)

abbrev pub u32_of : List ℕ → Option ℕ
u32_of text = below (2 ^ 32) (number_of text)

-- exactly so many octets in hexadecimal, after those of a list
abbrev pub sized_hex_onto : ℕ → List ℕ → List ℕ → Option (List ℕ)
sized_hex_onto count out text = if length text == 2 + 2 * count then hex_onto out text else None

-- a code and a subcode, with a slash between them
abbrev pub code_of_halves : List ℕ → List ℕ × List ℕ → Option (List ℕ)
code_of_halves out text = option_and_then (λ a. option_map (λ b. out ++ a ∷ b ∷ []) (u8_of text.1)) (u8_of text.0)

unfoldable pub code_onto : List ℕ → List ℕ → Option (List ℕ)
code_onto out text = option_and_then (code_of_halves out) (halves 47 text)

-- what an optional text contains
abbrev pub texts : Option (Bor (List ℕ)) → Option (List ℕ)
texts text = option_map (λ (t : Bor (List ℕ)). t.now) text
