-- Reading words from left to right, with the first fault that is met.
use Rattle.std.specs.Prelude.{◌≡◌, ℕ, List, [], ◌∷◌, length, Option, Some, None, Result, Ok, Err}
use Rattle.line_words.specs.declared.stop.Why.{Why}
use Rattle.line_words.specs.declared.stop.Why.TheVariants as why
use Rattle.line_words.specs.declared.stop.WordFault.{WordFault}
use Rattle.line_words.specs.declared.stop.Stop.{Stop}
use Rattle.line_words.specs.declared.stop.Stop.TheVariants as stop

infixl 10 ◌>>=◌
abbrev pub ◌>>=◌ : {A B : Type 0} → Result A WordFault → (A → Result B WordFault) → Result B WordFault
(Ok x) >>= f = f x
(Err e) >>= f = Err e

-- What a function returned, seen by view, is what reading gives, unless memory ran out.
abbrev pub Fails : {Y : Type 0} → Stop → Result Y WordFault → Type 0
Fails stop.NoMemory read = Unit {0}
Fails (stop.Fault f) read = read ≡ Err f

abbrev pub Gives : {X Y : Type 0} → (X → Y) → Result X Stop → Result Y WordFault → Type 0
Gives view (Ok x) read = read ≡ Ok (view x)
Gives view (Err e) read = Fails e read

-- a fault at the first of these words
abbrev pub faulty : {A : Type 0} → List (List ℕ) → Why → Result A WordFault
faulty ws w = Err (record { left = length ws; why = w })

-- ---- the next word, and the value that it spells

abbrev pub next_word : List (List ℕ) → Result (List ℕ × List (List ℕ)) WordFault
next_word [] = faulty [] why.Missing
next_word (w ∷ ws) = Ok (w, ws)

abbrev pub spelled : {A : Type 0} → Option A → List (List ℕ) → List (List ℕ) → Result (A × List (List ℕ)) WordFault
spelled None all ws = faulty all why.Value
spelled (Some x) all ws = Ok (x, ws)

abbrev pub value_word : {A : Type 0} → (List ℕ → Option A) → List (List ℕ) → Result (A × List (List ℕ)) WordFault
value_word value [] = faulty [] why.Missing
value_word value (w ∷ ws) = spelled (value w) (w ∷ ws) ws

-- no word is left
abbrev pub ended : List (List ℕ) → Result (List (List ℕ)) WordFault
ended [] = Ok []
ended (w ∷ ws) = faulty (w ∷ ws) why.Word
