-- What a text stands for: the octets of its lines, up to the first faulty one.
use Rattle.std.specs.Prelude.{ℕ, ◌+◌, ◌-◌, ◌^◌, List, [], ◌∷◌, ◌++◌, length, slice_index, Option, Some, None, option_map, option_to_list, Result, Ok, Err, Bool, true, false, nat_lt, ◌==◌, if◌then◌else◌, bytes_eq, codes}
use Rattle.rcp_base.specs.Feed.{frame}
use Rattle.line_words.specs.declared.stop.Why.{Why}
use Rattle.line_words.specs.declared.stop.Why.TheVariants as why
use Rattle.line_words.specs.declared.stop.WordFault.{WordFault}
use Rattle.feed_words.specs.declared.fault.LineFault.{LineFault}
use Rattle.feed_words.specs.declared.fault.TextFault.{TextFault}
use Rattle.feed_words.specs.declared.roster_text.Escape.{Escape}
use Rattle.feed_words.specs.declared.roster_text.Escape.TheVariants as escape
use Rattle.line_words.specs.Reading.{◌>>=◌, ended}
use Rattle.line_words.specs.Words.{lines_of, without_return, words_of, of_two_digits, hex_digit}
use Rattle.feed_words.specs.Records.{words_octets}

-- ---- the lines of a roster's text

-- What an octet does after those before it, and which octet it completes: `\\` is a backslash, `\x` and two digits are any
-- octet, and others are themselves.
unfoldable pub escape_step : Escape → ℕ → Option (Escape × Option ℕ)
escape_step escape.Plain c = if c == 92 then Some (escape.Slash, None) else Some (escape.Plain, Some c)
escape_step escape.Slash c = if c == 92 then Some (escape.Plain, Some 92) else (if c == 120 then Some (escape.High, None) else None)
escape_step escape.High c = Some (escape.Low c, None)
escape_step (escape.Low h) c = option_map (λ o. (escape.Plain, Some o)) (of_two_digits (hex_digit h) (hex_digit c))

-- no escape is left unfinished
abbrev pub at_end : Escape → List ℕ → Option (List ℕ)
at_end escape.Plain out = Some out
at_end state out = None

unfoldable pub unescaped_onto : List ℕ → Escape → List ℕ → Option (List ℕ)
unescaped_onto [] state out = at_end state out
unescaped_onto (c ∷ cs) state out = elim (escape_step state c) [
  | None ↦ None
  | Some next ↦ unescaped_onto cs next.0 (out ++ option_to_list next.1)
]

-- the text after `| `, and whether octet 0A follows it; after `|- ` none does
abbrev pub after_dash : List ℕ → Option (List ℕ × Bool)
after_dash [] = Some ([], false)
after_dash (c ∷ cs) = if c == 32 then Some (cs, false) else None

abbrev pub after_bar : List ℕ → Option (List ℕ × Bool)
after_bar [] = Some ([], true)
after_bar (c ∷ cs) = if c == 32 then Some (cs, true) else (if c == 45 then after_dash cs else None)

abbrev pub line_fault : {A : Type 0} → ℕ → Why → Result A LineFault
line_fault n w = Err (record { word = n; why = w })

abbrev pub with_end : Bool → List ℕ → List ℕ
with_end true out = out ++ 10 ∷ []
with_end false out = out

abbrev pub roster_part_onto : List ℕ → List ℕ × Bool → Result (List ℕ) LineFault
roster_part_onto body part = elim (unescaped_onto part.0 escape.Plain body) [
  | None ↦ line_fault 2 why.Value
  | Some out ↦ if nat_lt 65536 (length (with_end part.1 out)) then line_fault 1 why.Long else Ok (with_end part.1 out)
]

-- a roster's text with a further line, which begins with a bar
unfoldable pub roster_line_onto : List ℕ → List ℕ → Result (List ℕ) LineFault
roster_line_onto body [] = line_fault 1 why.Word
roster_line_onto body (bar ∷ cs) = elim (after_bar cs) [
  | None ↦ line_fault 1 why.Word
  | Some part ↦ roster_part_onto body part
]

-- ---- lines

-- the record of a roster whose text has been read
abbrev pub closed : Option (List ℕ) → List ℕ
closed None = []
closed (Some body) = frame 67 0 body

abbrev pub at_word : {A : Type 0} → List (List ℕ) → Result A WordFault → Result A LineFault
at_word ws (Ok x) = Ok x
at_word ws (Err fault) = line_fault (length ws - fault.left + 1) fault.why

-- The open roster after a line of words, and the octets that it puts out. The record of a roster comes with the next
-- record or the end.
abbrev pub words_give : Option (List ℕ) → List (List ℕ) → Result (Option (List ℕ) × List ℕ) WordFault
words_give roster [] = Ok (roster, [])
words_give roster (w ∷ ws) =
    if bytes_eq w (codes "roster") then (ended ws >>= λ _. Ok (Some [], closed roster))
    else (words_octets w ws >>= λ octets. Ok (None, closed roster ++ octets))

abbrev pub roster_line_gives : Option (List ℕ) → List ℕ → Result (Option (List ℕ) × List ℕ) LineFault
roster_line_gives None line = line_fault 1 why.Roster
roster_line_gives (Some body) line = elim (roster_line_onto body line) [
  | Ok more ↦ Ok (Some more, [])
  | Err fault ↦ Err fault
]

abbrev pub line_without_return_gives : Option (List ℕ) → List ℕ → Result (Option (List ℕ) × List ℕ) LineFault
line_without_return_gives roster line =
    if slice_index line 0 == 124 then roster_line_gives roster line else at_word (words_of line) (words_give roster (words_of line))

-- a line has at most 2 ^ 20 octets
unfoldable pub line_gives : Option (List ℕ) → List ℕ → Result (Option (List ℕ) × List ℕ) LineFault
line_gives roster line = if nat_lt (2 ^ 20) (length line) then line_fault 1 why.Long else line_without_return_gives roster (without_return line)

-- ---- a whole text

-- the octets of the lines before the first faulty one, and its fault
pub record Reading : Type 0 where
  pub octets : List ℕ
  pub fault : Option TextFault

abbrev pub with_front : List ℕ → Reading → Reading
with_front octets reading = record { octets = octets ++ reading.octets; fault = reading.fault }

unfoldable pub lines_give : ℕ → Option (List ℕ) → List (List ℕ) → Reading
lines_give n roster [] = record { octets = closed roster; fault = None }
lines_give n roster (line ∷ lines) = elim (line_gives roster line) [
  | Ok step ↦ with_front step.1 (lines_give (n + 1) step.0 lines)
  | Err fault ↦ record { octets = []; fault = Some (record { line = n; word = fault.word; why = fault.why }) }
]

-- the lines are numbered from 1
abbrev pub reading_of : List ℕ → Reading
reading_of text = lines_give 1 None (lines_of text)

-- a text stands for these octets, without a fault
abbrev pub whole : List ℕ → Reading
whole octets = record { octets = octets; fault = None }
