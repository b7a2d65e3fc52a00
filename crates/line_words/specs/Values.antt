-- Words that spell a value.
use Rattle.std.specs.Prelude.{ℕ, ◌^◌, List, [], ◌∷◌, Result, if◌then◌else◌, bytes_eq, codes}
use Rattle.rcp_base.specs.Text.{number_of, address_of}
use Rattle.line_words.specs.declared.stop.Why.TheVariants as why
use Rattle.line_words.specs.declared.stop.WordFault.{WordFault}
use Rattle.line_words.specs.Reading.{faulty, value_word}
use Rattle.line_words.specs.Words.{below, hex_onto, hex_octet}

abbrev pub u16_word : List (List ℕ) → Result (ℕ × List (List ℕ)) WordFault
u16_word ws = value_word (λ w. below (2 ^ 16) (number_of w)) ws

abbrev pub u32_word : List (List ℕ) → Result (ℕ × List (List ℕ)) WordFault
u32_word ws = value_word (λ w. below (2 ^ 32) (number_of w)) ws

abbrev pub u64_word : List (List ℕ) → Result (ℕ × List (List ℕ)) WordFault
u64_word ws = value_word number_of ws

abbrev pub address_word : List (List ℕ) → Result (ℕ × List (List ℕ)) WordFault
address_word ws = value_word address_of ws

abbrev pub octet_word : List (List ℕ) → Result (ℕ × List (List ℕ)) WordFault
octet_word ws = value_word hex_octet ws

-- octets in hexadecimal, after those of a list
abbrev pub hex_word : List ℕ → List (List ℕ) → Result (List ℕ × List (List ℕ)) WordFault
hex_word out ws = value_word (hex_onto out) ws

-- a part of any octets
unfoldable pub octets_part : List ℕ → List (List ℕ) → Result (List ℕ × List (List ℕ)) WordFault
octets_part out [] = faulty [] why.Missing
octets_part out (w ∷ ws) = if bytes_eq w (codes "octets") then hex_word out ws else faulty (w ∷ ws) why.Word
