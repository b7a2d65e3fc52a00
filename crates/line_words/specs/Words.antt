-- Words of a line, and the values that they spell.
use Rattle.std.specs.Prelude.{ℕ, ◌+◌, ◌-◌, ◌*◌, ◌/◌, ◌%◌, Bool, true, false, ◌&&◌, ◌||◌, ◌==◌, List, [], ◌∷◌, ◌++◌, length, take, filter, slice_index, Option, Some, None, option_and_then, nat_lt, nat_le, if◌then◌else◌}
use Rattle.std.specs.List.{slice_split}

-- ---- lines and words

-- what stands between the octets 0A
abbrev pub lines_of : List ℕ → List (List ℕ)
lines_of text = slice_split (λ c. c == 10) text

-- a carriage return may stand at a line's end
abbrev pub without_return : List ℕ → List ℕ
without_return line = if slice_index line (length line - 1) == 13 then take (length line - 1) line else line

-- a space or a tab
abbrev pub is_blank : ℕ → Bool
is_blank c = c == 32 || c == 9

abbrev pub is_some_word : List ℕ → Bool
is_some_word [] = false
is_some_word (c ∷ cs) = true

-- the words up to the first that begins with `#`
abbrev pub before_comment : List (List ℕ) → List (List ℕ)
before_comment [] = []
before_comment (w ∷ ws) = if slice_index w 0 == 35 then [] else w ∷ before_comment ws

-- the words between runs of blanks, without a comment
abbrev pub words_of : List ℕ → List (List ℕ)
words_of line = before_comment (filter is_some_word (slice_split is_blank line))

-- ---- numbers

abbrev pub below : ℕ → Option ℕ → Option ℕ
below limit number = option_and_then (λ n. if nat_lt n limit then Some n else None) number

-- ---- octets in hexadecimal

-- a digit's value: 0 to 9, a to f, A to F
abbrev pub hex_digit : ℕ → Option ℕ
hex_digit c =
    if nat_le 48 c && nat_le c 57 then Some (c - 48) else (
    if nat_le 97 c && nat_le c 102 then Some (c - 87) else (
    if nat_le 65 c && nat_le c 70 then Some (c - 55) else None))

abbrev pub of_two_digits : Option ℕ → Option ℕ → Option ℕ
of_two_digits high low = option_and_then (λ h. option_and_then (λ l. Some (16 * h + l)) low) high

-- octets, after those of a list, each by two digits
unfoldable pub hex_pairs_onto : List ℕ → List ℕ → Option (List ℕ)
hex_pairs_onto out [] = Some out
hex_pairs_onto out (c ∷ []) = None
hex_pairs_onto out (c ∷ d ∷ cs) = option_and_then (λ o. hex_pairs_onto (out ++ o ∷ []) cs) (of_two_digits (hex_digit c) (hex_digit d))

-- `0x` and pairs of digits
abbrev pub hex_onto : List ℕ → List ℕ → Option (List ℕ)
hex_onto out [] = None
hex_onto out (c ∷ []) = None
hex_onto out (c ∷ d ∷ digits) = if c == 48 && d == 120 then hex_pairs_onto out digits else None

-- the digits that are written
abbrev pub digit : ℕ → ℕ
digit n = if nat_lt n 10 then 48 + n else 87 + n

abbrev pub hex_pairs : List ℕ → List ℕ
hex_pairs [] = []
hex_pairs (o ∷ os) = digit (o / 16) ∷ digit (o % 16) ∷ hex_pairs os

abbrev pub hex_text : List ℕ → List ℕ
hex_text octets = 48 ∷ 120 ∷ hex_pairs octets

-- `0x` and two digits
abbrev pub hex_octet : List ℕ → Option ℕ
hex_octet (c ∷ d ∷ high ∷ low ∷ []) = if c == 48 && d == 120 then of_two_digits (hex_digit high) (hex_digit low) else None
hex_octet text = None
