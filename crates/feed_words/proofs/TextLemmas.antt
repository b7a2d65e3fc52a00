-- Texts one after another stand for the octets of both.
use Rattle.std.proofs.Common.{◌≡◌, ℕ, ◌+◌, ◌-◌, ◌^◌, Bool, true, false, cond, ltb, eqb, List, [], ◌∷◌, ◌++◌, length, get_or, Option, Some, None, Result, Ok, Err, refl, sym, ap, ◌∙◌, append_assoc, append-nil, inl, inr, ◌⊎◌}
use Rattle.std.specs.List.{slice_split, onto_first}
use Rattle.std.proofs.lemmas.Bool.{cond_both}
use Rattle.std.proofs.lemmas.List.Splits.{slice_split-cons_yes, slice_split-cons_no}
use Rattle.feed_words.specs.declared.fault.LineFault.{LineFault}
use Rattle.line_words.specs.declared.stop.WordFault.{WordFault}
use Rattle.feed_words.specs.declared.fault.TextFault.{TextFault}
use Rattle.line_words.specs.Reading.{◌>>=◌}
use Rattle.line_words.specs.Words.{lines_of, without_return, words_of}
use Rattle.line_words.specs.declared.stop.Why.TheVariants as why
use Rattle.feed_words.specs.Texts.{closed, line_fault, at_word, words_give, roster_line_gives, line_without_return_gives, line_gives, Reading, with_front, lines_give, reading_of, whole}
use Rattle.feed_words.specs.Joining.{EndsLine}

-- ---- lines of two texts

record HasFirst (parts : List (List ℕ)) : Type 0 where
  part : List ℕ
  more : List (List ℕ)
  are : parts ≡ part ∷ more

first_onto : (x : ℕ) (parts : List (List ℕ)) → HasFirst (onto_first x parts)
first_onto x [] = record { part = x ∷ []; more = []; are = refl }
first_onto x (part ∷ parts) = record { part = x ∷ part; more = parts; are = refl }

has_first : (p : ℕ → Bool) (xs : List ℕ) → HasFirst (slice_split p xs)
has_first p [] = record { part = []; more = []; are = refl }
has_first p (x ∷ xs) =
    cond_both (p x) ([] ∷ slice_split p xs) (onto_first x (slice_split p xs)) HasFirst
    (λ _. record { part = []; more = slice_split p xs; are = refl }) (λ _. first_onto x (slice_split p xs))

onto_first-append : (x : ℕ) (parts rest : List (List ℕ)) → HasFirst parts → onto_first x (parts ++ rest) ≡ onto_first x parts ++ rest
onto_first-append x parts rest h =
    ap (λ (ps : List (List ℕ)). onto_first x (ps ++ rest)) h.are ∙ sym (ap (λ (ps : List (List ℕ)). onto_first x ps ++ rest) h.are)

split_by : (p : ℕ → Bool) (x : ℕ) (xs both : List ℕ) (rest : List (List ℕ)) (b : Bool) → p x ≡ b → slice_split p both ≡ slice_split p xs ++ rest
    → slice_split p (x ∷ both) ≡ slice_split p (x ∷ xs) ++ rest
split_by p x xs both rest true h e =
    slice_split-cons_yes p x both h ∙ ap (λ (ps : List (List ℕ)). [] ∷ ps) e ∙ sym (ap (λ (ps : List (List ℕ)). ps ++ rest) (slice_split-cons_yes p x xs h))
split_by p x xs both rest false h e =
    slice_split-cons_no p x both h ∙ ap (onto_first x) e ∙ onto_first-append x (slice_split p xs) rest (has_first p xs)
    ∙ sym (ap (λ (ps : List (List ℕ)). ps ++ rest) (slice_split-cons_no p x xs h))

pub split_seam : (p : ℕ → Bool) (xs : List ℕ) (y : ℕ) (ys : List ℕ) → p y ≡ true → slice_split p (xs ++ y ∷ ys) ≡ slice_split p xs ++ slice_split p ys
split_seam p [] y ys h = slice_split-cons_yes p y ys h
split_seam p (x ∷ xs) y ys h = split_by p x xs (xs ++ y ∷ ys) (slice_split p ys) (p x) refl (split_seam p xs y ys h)

-- ---- a line read where another roster is open

abbrev pub Step : Type 0
Step = Option (List ℕ) × List ℕ

abbrev ok : {A E : Type 0} → A → Result A E
ok x = Ok x

ok_is : {A E : Type 0} (x y : A) → ok {A = A} {E = E} x ≡ ok y → x ≡ y
ok_is x y e = cc

ok_isnt_err : {A E G : Type 0} (x : A) (f : E) → Err f ≡ ok {A = A} {E = E} x → G
ok_isnt_err x f e = absurd cc

-- reading goes on after the roster that is open, or passes over the line
abbrev Behind : {E : Type 0} → Option (List ℕ) → Result Step E → Step → Type 0
Behind s read y = ((y ≡ (None, [])) × (read ≡ Ok (s, []))) ⊎ (read ≡ Ok (y.0, closed s ++ y.1))

-- a roster is opened, or octets are put out
abbrev opens : List ℕ → Result (List (List ℕ)) WordFault → Result Step WordFault
opens o ended = ended >>= λ _. Ok (Some [], o)

abbrev puts : List ℕ → Result (List ℕ) WordFault → Result Step WordFault
puts o octets = octets >>= λ more. Ok (None, o ++ more)

words_by : (b : Bool) (ended : Result (List (List ℕ)) WordFault) (octets : Result (List ℕ) WordFault) (s : Option (List ℕ)) (y : Step)
    → cond b (opens (closed None) ended) (puts (closed None) octets) ≡ Ok y → cond b (opens (closed s) ended) (puts (closed s) octets) ≡ Ok (y.0, closed s ++ y.1)
words_by true (Ok x) octets s y e = ap (λ (o : List ℕ). ok (Some [], o)) (sym (append-nil (closed s))) ∙ ap (λ (z : Step). ok (z.0, closed s ++ z.1)) (ok_is {E = WordFault} (Some [], []) y e)
words_by true (Err f) octets s y e = ok_isnt_err y f e
words_by false ended (Ok o) s y e = ap (λ (z : Step). ok (z.0, closed s ++ z.1)) (ok_is {E = WordFault} (None, o) y e)
words_by false ended (Err f) s y e = ok_isnt_err y f e

words_behind : (s : Option (List ℕ)) (ws : List (List ℕ)) (y : Step) → words_give None ws ≡ Ok y → Behind s (words_give s ws) y
words_behind s [] y e = inl (sym (ok_is {E = WordFault} (None, []) y e), refl)
words_behind s (w ∷ ws) y e = inr (words_by _ _ _ s y e)

at_ok : (ws : List (List ℕ)) (r : Result Step WordFault) (y : Step) → at_word ws r ≡ Ok y → r ≡ Ok y
at_ok ws (Ok x) y e = ap (λ (z : Step). Ok z) (ok_is {E = LineFault} x y e)
at_ok ws (Err f) y e = ok_isnt_err y (record { word = length ws - f.left + 1; why = f.why }) e

-- what a line gives, by its tests
abbrev by_tests : Bool → Bool → LineFault → Result Step LineFault → Result Step LineFault → Result Step LineFault
by_tests long bar fault roster words = cond long (Err fault) (cond bar roster words)

words_read : (long bar : Bool) (f g : LineFault) (words : Result Step LineFault) (y : Step) → by_tests long bar f (Err g) words ≡ Ok y → (long ≡ false) × (bar ≡ false) × (words ≡ Ok y)
words_read true bar f g words y e = ok_isnt_err y f e
words_read false true f g words y e = ok_isnt_err y g e
words_read false false f g words y e = (refl, refl, e)

line_behind : (s : Option (List ℕ)) (line : List ℕ) (y : Step) → line_gives None line ≡ Ok y → Behind s (line_gives s line) y
unfolding line_gives
line_behind s line y e =
    let l = without_return line in
    let words : Option (List ℕ) → Result Step LineFault = λ s. at_word (words_of (without_return line)) (words_give s (words_of (without_return line))) in
    let h = words_read (ltb (2 ^ 20) (length line)) (eqb (get_or (without_return line) 0 0) 124) (record { word = 1; why = why.Long }) (record { word = 1; why = why.Roster }) (words None) y e in
    let chosen : line_gives s line ≡ words s =
    ap (λ (b : Bool). cond b (line_fault 1 why.Long) (line_without_return_gives s (without_return line))) h.0
    ∙ ap (λ (b : Bool). cond b (roster_line_gives s (without_return line)) (words s)) h.1 in
    elim (words_behind s (words_of (without_return line)) y (at_ok (words_of (without_return line)) (words_give None (words_of (without_return line))) y h.2)) [
      | inl blank ↦ inl (blank.0, chosen ∙ ap (at_word (words_of (without_return line))) blank.1)
      | inr read ↦ inr (chosen ∙ ap (at_word (words_of (without_return line))) read)
    ]

-- ---- lines one after another

abbrev faulted : List ℕ → TextFault → Reading
faulted octets fault = record { octets = octets; fault = Some fault }

whole_isnt_faulted : {G : Type 0} (p : List ℕ) (f : TextFault) → faulted [] f ≡ whole p → G
whole_isnt_faulted p f e =
    let same : Some f ≡ None = ap (λ (r : Reading). r.fault) e in
    absurd cc

rest_whole : (o p : List ℕ) (r : Reading) → with_front o r ≡ whole p → (q : List ℕ) × (r ≡ whole q) × (o ++ q ≡ p)
rest_whole o p r e =
    let same : r.fault ≡ None = ap (λ (r : Reading). r.fault) e in
    (r.octets, ap (λ (f : Option TextFault). record { octets = r.octets; fault = f }) same, ap (λ (r : Reading). r.octets) e)

abbrev pub by_step : ℕ → Result Step LineFault → List (List ℕ) → Reading
by_step n step lines = elim step [
  | Ok step ↦ with_front step.1 (lines_give (n + 1) step.0 lines)
  | Err fault ↦ record { octets = []; fault = Some (record { line = n; word = fault.word; why = fault.why }) }
]

-- a line that is read, and those after it
record Goes (n : ℕ) (step : Result Step LineFault) (lines : List (List ℕ)) (p : List ℕ) : Type 0 where
  y : Step
  read : step ≡ Ok y
  q : List ℕ
  rest : lines_give (n + 1) y.0 lines ≡ whole q
  both : y.1 ++ q ≡ p

goes : (n : ℕ) (step : Result Step LineFault) (lines : List (List ℕ)) (p : List ℕ) → by_step n step lines ≡ whole p → Goes n step lines p
goes n (Ok y) lines p e =
    let h = rest_whole y.1 p (lines_give (n + 1) y.0 lines) e in
    record { y = y; read = refl; q = h.0; rest = h.1; both = h.2 }
goes n (Err f) lines p e = whole_isnt_faulted p _ e

pub taken : (n : ℕ) (step : Result Step LineFault) (lines : List (List ℕ)) (y : Step) (q : List ℕ) → step ≡ Ok y → lines_give (n + 1) y.0 lines ≡ whole q → by_step n step lines ≡ whole (y.1 ++ q)
taken n step lines y q e h = ap (λ (s : Result Step LineFault). by_step n s lines) e ∙ ap (with_front y.1) h

-- the number of the first line makes no difference where there is no fault
any_number : (n m : ℕ) (s : Option (List ℕ)) (lines : List (List ℕ)) (p : List ℕ) → lines_give n s lines ≡ whole p → lines_give m s lines ≡ whole p
unfolding lines_give
any_number n m s [] p e = e
any_number n m s (line ∷ lines) p e =
    let h = goes n (line_gives s line) lines p e in
    taken m (line_gives s line) lines h.y h.q h.read (any_number (n + 1) (m + 1) h.y.0 lines h.q h.rest) ∙ ap whole h.both

-- lines that begin with a record, after an open roster
behind_open : (n : ℕ) (s : Option (List ℕ)) (lines : List (List ℕ)) (p : List ℕ) → lines_give n None lines ≡ whole p → lines_give n s lines ≡ whole (closed s ++ p)
unfolding lines_give
behind_open n s [] p e = ap whole (sym (append-nil (closed s)) ∙ ap (λ (q : List ℕ). closed s ++ q) (ap (λ (r : Reading). r.octets) e))
behind_open n s (line ∷ lines) p e =
    let h = goes n (line_gives None line) lines p e in
    elim (line_behind s line h.y h.read) [
      | inl blank ↦
          let rest : lines_give (n + 1) None lines ≡ whole h.q = ap (λ (y : Step). lines_give (n + 1) y.0 lines) (sym blank.0) ∙ h.rest in
          let same : h.q ≡ p = ap (λ (y : Step). y.1 ++ h.q) (sym blank.0) ∙ h.both in
          taken n (line_gives s line) lines (s, []) (closed s ++ h.q) blank.1 (behind_open (n + 1) s lines h.q rest) ∙ ap (λ (q : List ℕ). whole (closed s ++ q)) same
      | inr read ↦
          taken n (line_gives s line) lines (h.y.0, closed s ++ h.y.1) h.q read h.rest
          ∙ ap whole (append_assoc (closed s) h.y.1 h.q ∙ ap (λ (q : List ℕ). closed s ++ q) h.both)
    ]

lines_join : (n : ℕ) (s : Option (List ℕ)) (xs ys : List (List ℕ)) (o p : List ℕ) → lines_give n s xs ≡ whole o → lines_give 1 None ys ≡ whole p → lines_give n s (xs ++ ys) ≡ whole (o ++ p)
unfolding lines_give
lines_join n s [] ys o p e f =
    behind_open n s ys p (any_number 1 n None ys p f) ∙ ap (λ (q : List ℕ). whole (q ++ p)) (ap (λ (r : Reading). r.octets) e)
lines_join n s (x ∷ xs) ys o p e f =
    let h = goes n (line_gives s x) xs o e in
    taken n (line_gives s x) (xs ++ ys) h.y (h.q ++ p) h.read (lines_join (n + 1) h.y.0 xs ys h.q p h.rest f)
    ∙ ap whole (sym (append_assoc h.y.1 h.q p) ∙ ap (λ (q : List ℕ). q ++ p) h.both)

-- an empty line at the end gives nothing
pub blank_gives : (s : Option (List ℕ)) → line_gives s [] ≡ Ok (s, [])
unfolding line_gives
blank_gives s = refl

-- so what stands before the octet 0A at a text's end gives what all of it does
without_blank : (n : ℕ) (s : Option (List ℕ)) (xs : List (List ℕ)) (o : List ℕ) → lines_give n s (xs ++ [] ∷ []) ≡ whole o → lines_give n s xs ≡ whole o
unfolding lines_give
without_blank n s [] o e =
    let h = goes n (line_gives s []) [] o e in
    let y-is : (s, []) ≡ h.y = ok_is {E = LineFault} (s, []) h.y (sym (blank_gives s) ∙ h.read) in
    let rest : lines_give (n + 1) s [] ≡ whole h.q = ap (λ (y : Step). lines_give (n + 1) y.0 []) y-is ∙ h.rest in
    rest ∙ ap whole (ap (λ (y : Step). y.1 ++ h.q) y-is ∙ h.both)
without_blank n s (x ∷ xs) o e =
    let h = goes n (line_gives s x) (xs ++ [] ∷ []) o e in
    taken n (line_gives s x) xs h.y h.q h.read (without_blank (n + 1) h.y.0 xs h.q h.rest) ∙ ap whole h.both

pub texts_join : (a b o p : List ℕ) → EndsLine a → reading_of a ≡ whole o → reading_of b ≡ whole p → reading_of (a ++ b) ≡ whole (o ++ p)
unfolding lines_give line_gives
texts_join a b o p (inl none) e f =
    let empty : [] ≡ o = ap (λ (r : Reading). r.octets) (sym (ap reading_of none) ∙ e) in
    ap (λ (x : List ℕ). reading_of (x ++ b)) none ∙ f ∙ ap (λ (x : List ℕ). whole (x ++ p)) empty
texts_join a b o p (inr ends) e f =
    let u = ends.0 in
    let nl : ℕ → Bool = λ c. eqb c 10 in
    let one : lines_of a ≡ lines_of u ++ [] ∷ [] = ap lines_of ends.1 ∙ split_seam nl u 10 [] refl in
    let before : lines_give 1 None (lines_of u) ≡ whole o = without_blank 1 None (lines_of u) o (ap (lines_give 1 None) (sym one) ∙ e) in
    let seam : lines_of (a ++ b) ≡ lines_of u ++ lines_of b = ap (λ (x : List ℕ). lines_of (x ++ b)) ends.1 ∙ ap lines_of (append_assoc u (10 ∷ []) b) ∙ split_seam nl u 10 b refl in
    ap (lines_give 1 None) seam ∙ lines_join 1 None (lines_of u) (lines_of b) o p before f
