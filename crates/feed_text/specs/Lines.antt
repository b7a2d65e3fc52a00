-- What one turn of writing does.
use Rattle.std.specs.Prelude.{◌≡◌, ◌<◌, ◌^◌, ◌⊎◌, ◌==◌, ℕ, List, [], ◌∷◌, ◌++◌, length, Option, Some, None, IfSome, Result, Ok, Err, Bool, true, false}
use Rattle.std.specs.List.{position}
use Rattle.outside.specs.Told.{in_front, behind}
use Rattle.feed_words.specs.declared.fault.LineFault.{LineFault}
use Rattle.feed_words.specs.declared.fault.TextFault.{TextFault}
use Rattle.line_words.specs.Words.{lines_of}
use Rattle.feed_words.specs.Texts.{closed, line_gives, lines_give}
use Rattle.feed_text.specs.Windows.{IsEmptyRest}
use Rattle.feed_text.specs.declared.writing.WriteFault.{WriteFault}
use Rattle.feed_text.specs.declared.writing.WriteFault.TheVariants as fault

-- the place of the first end of a line; where none is held, nothing more comes, or the line is too long
abbrev pub LineInFront : List ℕ → Option (List ℕ) → Option ℕ → Type 0
LineInFront held left (Some end) = position (λ c. c == 10) held ≡ Some end
LineInFront held left None = (position (λ c. c == 10) held ≡ None) × ((2 ^ 20 < length held) ⊎ IsEmptyRest left)

-- the fault of a line, with its number
abbrev pub numbered : ℕ → LineFault → TextFault
numbered n found = record { line = n; word = found.word; why = found.why }

abbrev pub Encodes : ℕ → Result (Unit {0}) WriteFault → Result (Option (List ℕ) × List ℕ) LineFault → Option (List ℕ) × List ℕ → Type 0
Encodes n (Ok done) read gives = read ≡ Ok gives
Encodes n (Err (fault.Text why)) read gives = (found : LineFault) × (read ≡ Err found) × (why ≡ numbered n found)
Encodes n (Err fault.NoMemory) read gives = Unit {0}
Encodes n (Err other) read gives = ⊥

-- a line and its end were taken, and what the line completes was written
pub record TakesWhole (roster roster1 taken taken1 given after : Option (List ℕ)) : Type 0 where
  pub line : List ℕ
  pub piece : List ℕ
  pub front : given ≡ in_front (line ++ 10 ∷ []) after
  pub split : (rest : List ℕ) → lines_of (line ++ 10 ∷ rest) ≡ line ∷ lines_of rest
  pub gives : line_gives roster line ≡ Ok (roster1, piece)
  pub written : taken1 ≡ behind taken piece

-- the last line was taken, and the roster that was open ended with it
pub record TakesLast (roster taken taken1 given : Option (List ℕ)) : Type 0 where
  pub line : List ℕ
  pub roster1 : Option (List ℕ)
  pub piece : List ℕ
  pub all : IfSome given (λ text. text ≡ line)
  pub only : lines_of line ≡ line ∷ []
  pub gives : line_gives roster line ≡ Ok (roster1, piece)
  pub written : taken1 ≡ behind taken (piece ++ closed roster1)

-- the line in front is faulty, and nothing was written
pub record Faulty (n : ℕ) (roster taken taken1 given : Option (List ℕ)) (why : TextFault) : Type 0 where
  pub first : IfSome given (λ text. lines_give n roster (lines_of text) ≡ record { octets = []; fault = Some why })
  pub written : taken1 ≡ taken

abbrev pub TakesLine : ℕ → Option (List ℕ) → Option (List ℕ) → Option (List ℕ) → Option (List ℕ) → Option (List ℕ) → Option (List ℕ) → Result Bool WriteFault → Type 0
TakesLine n roster roster1 taken taken1 given after (Ok true) = TakesWhole roster roster1 taken taken1 given after
TakesLine n roster roster1 taken taken1 given after (Ok false) = TakesLast roster taken taken1 given
TakesLine n roster roster1 taken taken1 given after (Err (fault.Text why)) = Faulty n roster taken taken1 given why
TakesLine n roster roster1 taken taken1 given after (Err other) = Unit {0}
