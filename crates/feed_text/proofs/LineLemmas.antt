-- Lines read one after another, as a loop does.
use Rattle.std.proofs.Common.{◌≡◌, ℕ, ◌+◌, List, [], ◌∷◌, ◌++◌, Option, Some, None, Result, Ok, Err, ap, subst, ◌∙◌}
use Rattle.std.specs.Prelude.{IfSome}
use Rattle.feed_words.specs.declared.fault.LineFault.{LineFault}
use Rattle.line_words.specs.Words.{lines_of}
use Rattle.feed_text.specs.Lines.{numbered}
use Rattle.feed_words.specs.Texts.{closed, line_gives, lines_give, with_front, whole, Reading, reading_of}

-- what a line does to those after it
abbrev pub by_step : ℕ → Result (Option (List ℕ) × List ℕ) LineFault → List (List ℕ) → Reading
by_step n step lines = elim step [
  | Ok step ↦ with_front step.1 (lines_give (n + 1) step.0 lines)
  | Err fault ↦ record { octets = []; fault = Some (numbered n fault) }
]

pub line_is : (n : ℕ) (s : Option (List ℕ)) (line : List ℕ) (lines : List (List ℕ)) (step : Result (Option (List ℕ) × List ℕ) LineFault) → line_gives s line ≡ step → lines_give n s (line ∷ lines) ≡ by_step n step lines
unfolding lines_give
line_is n s line lines step e = ap (λ (step : Result (Option (List ℕ) × List ℕ) LineFault). by_step n step lines) e

pub line_then : (n : ℕ) (s s1 : Option (List ℕ)) (line : List ℕ) (lines : List (List ℕ)) (piece after left : List ℕ) → line_gives s line ≡ Ok (s1, piece) → piece ++ after ≡ left
    → lines_give (n + 1) s1 lines ≡ whole after → lines_give n s (line ∷ lines) ≡ whole left
unfolding lines_give
line_then n s s1 line lines piece after left e both h = ap (λ (step : Result (Option (List ℕ) × List ℕ) LineFault). by_step n step lines) e ∙ ap (with_front piece) h ∙ ap whole both

pub no_more : (n : ℕ) (s : Option (List ℕ)) (left : List ℕ) → closed s ≡ left → lines_give n s [] ≡ whole left
unfolding lines_give
no_more n s left e = ap whole e

-- what is known in a loop over the lines of a text: where the lines left give what is left of the octets, the text
-- stands for all of them
pub record Compares (s : Option (List ℕ)) (rest left text octets : List ℕ) : Type 0 where
  pub n : ℕ
  pub then : lines_give n s (lines_of rest) ≡ whole left → reading_of text ≡ whole octets

pub compares_more : (s s1 : Option (List ℕ)) (rest left line more piece after text octets : List ℕ) → Compares s rest left text octets → lines_of rest ≡ line ∷ lines_of more → line_gives s line ≡ Ok (s1, piece) → piece ++ after ≡ left
    → Compares s1 more after text octets
compares_more s s1 rest left line more piece after text octets h split e both = record {
  n = h.n + 1;
  then = λ read. h.then (ap (lines_give h.n s) split ∙ line_then h.n s s1 line (lines_of more) piece after left e both read);
}

pub compares_end : (s s1 : Option (List ℕ)) (rest left piece after text octets : List ℕ) → Compares s rest left text octets → lines_of rest ≡ rest ∷ [] → line_gives s rest ≡ Ok (s1, piece) → piece ++ after ≡ left → closed s1 ≡ after
    → reading_of text ≡ whole octets
compares_end s s1 rest left piece after text octets h split e both ends =
    h.then (ap (lines_give h.n s) split ∙ line_then h.n s s1 rest [] piece after left e both (no_more (h.n + 1) s1 after ends))

pub compares_start : (text octets : List ℕ) → Compares None text octets text octets
compares_start text octets = record { n = 1; then = λ read. read }

-- what is said of the value in a `Some`
pub at_some : {X : Type 0} (P : X → Type 0) (found : Option X) (x : X) → found ≡ Some x → IfSome found P → P x
at_some {X = X} P found x is said = subst (λ (o : Option X). IfSome o P) is said
