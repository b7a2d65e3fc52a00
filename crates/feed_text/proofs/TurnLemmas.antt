-- One turn of writing.
use Rattle.std.proofs.Common.{◌≡◌, ℕ, suc, ◌+◌, ◌^◌, ◌<◌, Bool, true, false, cond, eqb, All, List, [], ◌∷◌, ◌++◌, length, take, drop, get_or, Option, Some, None, Result, Ok, Err, refl, sym, ap, subst, ◌∙◌, append_assoc, append-nil, arith, inl, inr, ◌⊎◌, add-one, drop-cons}
use Rattle.std.specs.Prelude.{IfSome}
use Rattle.std.specs.List.{position, slice_split, onto_first, position_or_len}
use Rattle.std.proofs.lemmas.Bool.{eqb-true, lt-ltb}
use Rattle.std.proofs.lemmas.List.{length-append, length-take, take-append-drop, get_or-take, take_all}
use Rattle.std.proofs.lemmas.List.Splits.{slice_split_at, slice_split_none, slice_split-cons_yes, slice_split-cons_no}
use Rattle.std.proofs.lemmas.List.Sums.{fails_before_first, passes_at_first}
use Rattle.outside.specs.Told.{in_front, behind, in_front-append}
use Rattle.feed_words.specs.declared.fault.LineFault.{LineFault}
use Rattle.feed_words.specs.declared.fault.TextFault.{TextFault}
use Rattle.line_words.specs.declared.stop.Why.TheVariants as reason
use Rattle.line_words.specs.Words.{lines_of, without_return}
use Rattle.feed_words.specs.Texts.{closed, line_fault, line_without_return_gives, line_gives, lines_give, Reading}
use Rattle.line_words.proofs.WordLemmas.{first_some, none_passes}
use Rattle.feed_text.specs.Windows.{Held, IsEmptyRest}
use Rattle.feed_text.specs.declared.writing.WriteFault.{WriteFault}
use Rattle.feed_text.specs.declared.writing.WriteFault.TheVariants as fault
use Rattle.feed_text.specs.Lines.{LineInFront, numbered, Encodes, TakesWhole, TakesLast, TakesLine, Faulty}
use Rattle.feed_text.proofs.LineLemmas.{line_is}

abbrev Known : Type 0
Known = Option (List ℕ)

abbrev Step : Type 0
Step = Option (List ℕ) × List ℕ

abbrev is_end : ℕ → Bool
is_end c = eqb c 10

-- ---- a line whose end is held

record EndsAt (xs : List ℕ) (end : ℕ) : Type 0 where
  within : end < length xs
  parts : xs ≡ take end xs ++ 10 ∷ drop (end + 1) xs
  line : All (λ c. is_end c ≡ false) (take end xs)

end_at : (xs : List ℕ) (end : ℕ) → position is_end xs ≡ Some end → EndsAt xs end
end_at xs end e =
    let at = first_some is_end xs end e in
    let lt : position_or_len is_end xs < length xs = omega (arith, at.0, at.1) in
    let here : get_or xs end 0 ≡ 10 = eqb-true _ _ (ap (λ (n : ℕ). is_end (get_or xs n 0)) (sym at.0) ∙ passes_at_first is_end xs 0 lt) in
    record {
      within = at.1;
      parts = sym (take-append-drop end xs) ∙ ap (λ (o : List ℕ). take end xs ++ o)
          (drop-cons xs end 0 at.1 ∙ ap (λ (c : ℕ). c ∷ drop (suc end) xs) here ∙ ap (λ (n : ℕ). 10 ∷ drop n xs) (sym (add-one end)));
      line = λ k d lt.
          let before : k < end = omega (arith, lt, length-take end xs) in
          ap is_end (get_or-take end xs k d before) ∙ fails_before_first is_end xs k d (omega (arith, before, at.0));
    }

split_there : (line rest : List ℕ) → All (λ c. is_end c ≡ false) line → lines_of (line ++ 10 ∷ rest) ≡ line ∷ lines_of rest
split_there line rest all = slice_split_at is_end line 10 rest all refl

pub takes_whole : (w w1 w2 : Held) (left left1 roster roster1 taken taken1 : Known) (end : ℕ) (piece : List ℕ) → in_front w.octets left ≡ in_front w1.octets left1 → LineInFront w1.octets left1 (Some end)
    → w2 ≡ record { octets = drop (end + 1) w1.octets; size = w1.size } → line_gives roster (take end w1.octets) ≡ Ok (roster1, piece) → taken1 ≡ behind taken piece
    → TakesWhole roster roster1 taken taken1 (in_front w.octets left) (in_front w2.octets left1)
takes_whole w w1 w2 left left1 roster roster1 taken taken1 end piece same found rest gives written =
    let at = end_at w1.octets end found in
    let line = take end w1.octets in
    record {
      line = take end w1.octets;
      piece = piece;
      front = same ∙ ap (λ (o : List ℕ). in_front o left1) (at.parts ∙ sym (append_assoc (take end w1.octets) (10 ∷ []) (drop (end + 1) w1.octets)))
          ∙ sym (in_front-append (take end w1.octets ++ 10 ∷ []) (drop (end + 1) w1.octets) left1)
          ∙ ap (λ (w : Held). in_front (take end w1.octets ++ 10 ∷ []) (in_front w.octets left1)) (sym rest);
      split = λ rest. split_there (take end w1.octets) rest at.line;
      gives = gives;
      written = written;
    }

-- ---- the last line, or one that is too long

no_end : (xs : List ℕ) → position is_end xs ≡ None → All (λ c. is_end c ≡ false) xs
no_end xs e = let le = none_passes is_end xs e in λ k d lt. fails_before_first is_end xs k d (omega (arith, le, lt))

long_line : (roster : Known) (line : List ℕ) → 2 ^ 20 < length line → line_gives roster line ≡ line_fault 1 reason.Long
unfolding line_gives
long_line roster line lt = ap (λ (b : Bool). cond b (line_fault 1 reason.Long) (line_without_return_gives roster (without_return line))) (lt-ltb _ _ lt)

fault_isnt_step : {G : Type 0} (r : Result Step LineFault) (f : LineFault) (y : Step) → r ≡ Err f → r ≡ Ok y → G
fault_isnt_step r f y e h = absurd cc

not_long : (roster : Known) (line : List ℕ) (left : Known) (y : Step) → (2 ^ 20 < length line) ⊎ IsEmptyRest left → line_gives roster line ≡ Ok y → IsEmptyRest left
not_long roster line left y (inl long) gives = fault_isnt_step (line_gives roster line) _ y (long_line roster line long) gives
not_long roster line left y (inr empty) gives = empty

all_held : (octets : List ℕ) (left : Known) → IsEmptyRest left → IfSome (in_front octets left) (λ text. text ≡ octets)
all_held octets None h = tt
all_held octets (Some rest) h = ap (λ (x : List ℕ). octets ++ x) h ∙ append-nil octets

pub takes_last : (w w1 : Held) (left left1 roster roster1 taken taken1 : Known) (piece out : List ℕ) → in_front w.octets left ≡ in_front w1.octets left1 → LineInFront w1.octets left1 None
    → line_gives roster (take (length w1.octets) w1.octets) ≡ Ok (roster1, piece) → out ≡ piece ++ closed roster1 → taken1 ≡ behind taken out → TakesLast roster taken taken1 (in_front w.octets left)
takes_last w w1 left left1 roster roster1 taken taken1 piece out same found gives is written =
    let whole : take (length w1.octets) w1.octets ≡ w1.octets = take_all (length w1.octets) w1.octets (omega arith) in
    let reads : line_gives roster w1.octets ≡ Ok (roster1, piece) = ap (line_gives roster) (sym whole) ∙ gives in
    record {
      line = w1.octets;
      roster1 = roster1;
      piece = piece;
      all = subst (λ (k : Known). IfSome k (λ text. text ≡ w1.octets)) (sym same) (all_held w1.octets left1 (not_long roster w1.octets left1 (roster1, piece) found.1 reads));
      only = slice_split_none is_end w1.octets (no_end w1.octets found.0);
      gives = reads;
      written = written ∙ ap (behind taken) is;
    }

-- ---- a faulty line

abbrev refused : TextFault → Reading
refused why = record { octets = []; fault = Some why }

abbrev Refuses : ℕ → Known → TextFault → Known → Type 0
Refuses n roster why given = IfSome given (λ text. lines_give n roster (lines_of text) ≡ refused why)

faulty_line : (n : ℕ) (roster : Known) (line : List ℕ) (lines : List (List ℕ)) (found : LineFault) (why : TextFault) → line_gives roster line ≡ Err found → why ≡ numbered n found → lines_give n roster (line ∷ lines) ≡ refused why
faulty_line n roster line lines found why gives is = line_is n roster line lines (Err found) gives ∙ ap refused (sym is)

faulty_front : (n : ℕ) (roster : Known) (held : List ℕ) (left : Known) (end : ℕ) (found : LineFault) (why : TextFault) → EndsAt held end → line_gives roster (take end held) ≡ Err found → why ≡ numbered n found → Refuses n roster why (in_front held left)
faulty_front n roster held None end found why at gives is = tt
faulty_front n roster held (Some rest) end found why at gives is =
    let parts : held ++ rest ≡ take end held ++ 10 ∷ (drop (end + 1) held ++ rest) = ap (λ (x : List ℕ). x ++ rest) at.parts ∙ append_assoc (take end held) (10 ∷ drop (end + 1) held) rest in
    ap (λ (x : List ℕ). lines_give n roster (lines_of x)) parts
    ∙ ap (lines_give n roster) (split_there (take end held) (drop (end + 1) held ++ rest) at.line)
    ∙ faulty_line n roster (take end held) (lines_of (drop (end + 1) held ++ rest)) found why gives is

pub faulty_whole : (n : ℕ) (w w1 : Held) (left left1 roster taken : Known) (end : ℕ) (found : LineFault) (why : TextFault) → in_front w.octets left ≡ in_front w1.octets left1 → LineInFront w1.octets left1 (Some end)
    → line_gives roster (take end w1.octets) ≡ Err found → why ≡ numbered n found → Faulty n roster taken taken (in_front w.octets left) why
faulty_whole n w w1 left left1 roster taken end found why same at gives is = record {
  first = subst (Refuses n roster why) (sym same) (faulty_front n roster w1.octets left1 end found why (end_at w1.octets end at) gives is);
  written = refl;
}

record Splits (xs ys : List ℕ) : Type 0 where
  part : List ℕ
  more : List (List ℕ)
  are : slice_split is_end (xs ++ ys) ≡ (xs ++ part) ∷ more

first_onto : (x : ℕ) (parts : List (List ℕ)) (whole : List ℕ) → slice_split is_end whole ≡ onto_first x parts → Splits [] whole
first_onto x [] whole e = record { part = x ∷ []; more = []; are = e }
first_onto x (part ∷ parts) whole e = record { part = x ∷ part; more = parts; are = e }

splits_by : (y : ℕ) (ys : List ℕ) (b : Bool) → is_end y ≡ b → Splits [] (y ∷ ys)
splits_by y ys true h = record { part = []; more = slice_split is_end ys; are = slice_split-cons_yes is_end y ys h }
splits_by y ys false h = first_onto y (slice_split is_end ys) (y ∷ ys) (slice_split-cons_no is_end y ys h)

splits_nil : (ys : List ℕ) → Splits [] ys
splits_nil [] = record { part = []; more = []; are = refl }
splits_nil (y ∷ ys) = splits_by y ys (is_end y) refl

splits : (xs ys : List ℕ) → All (λ c. is_end c ≡ false) xs → Splits xs ys
splits [] ys all = splits_nil ys
splits (x ∷ xs) ys all =
    let rest = splits xs ys (λ k d lt. all (suc k) d (omega arith)) in
    record { part = rest.part; more = rest.more; are = slice_split-cons_no is_end x (xs ++ ys) (all 0 0 (omega arith)) ∙ ap (onto_first x) rest.are }

-- a line that is too long stays so with what follows it
long_front : (n : ℕ) (roster : Known) (held : List ℕ) (left : Known) (found : LineFault) (why : TextFault) → All (λ c. is_end c ≡ false) held → 2 ^ 20 < length held → line_gives roster held ≡ Err found → why ≡ numbered n found
    → Refuses n roster why (in_front held left)
long_front n roster held None found why all long gives is = tt
long_front n roster held (Some rest) found why all long gives is =
    let s = splits held rest all in
    let same : Err found ≡ line_fault {A = Step} 1 reason.Long = sym gives ∙ long_line roster held long in
    let longer : line_gives roster (held ++ s.part) ≡ Err found = long_line roster (held ++ s.part) (omega (arith, length-append held s.part)) ∙ sym same in
    ap (lines_give n roster) s.are ∙ faulty_line n roster (held ++ s.part) s.more found why longer is

empty_front : (n : ℕ) (roster : Known) (held : List ℕ) (left : Known) (found : LineFault) (why : TextFault) → All (λ c. is_end c ≡ false) held → IsEmptyRest left → line_gives roster held ≡ Err found → why ≡ numbered n found
    → Refuses n roster why (in_front held left)
empty_front n roster held None found why all empty gives is = tt
empty_front n roster held (Some rest) found why all empty gives is =
    ap (λ (x : List ℕ). lines_give n roster (lines_of x)) (ap (λ (x : List ℕ). held ++ x) empty ∙ append-nil held)
    ∙ ap (lines_give n roster) (slice_split_none is_end held all)
    ∙ faulty_line n roster held [] found why gives is

last_front : (n : ℕ) (roster : Known) (held : List ℕ) (left : Known) (found : LineFault) (why : TextFault) → All (λ c. is_end c ≡ false) held → (2 ^ 20 < length held) ⊎ IsEmptyRest left → line_gives roster held ≡ Err found → why ≡ numbered n found
    → Refuses n roster why (in_front held left)
last_front n roster held left found why all (inl long) gives is = long_front n roster held left found why all long gives is
last_front n roster held left found why all (inr empty) gives is = empty_front n roster held left found why all empty gives is

pub faulty_last : (n : ℕ) (w w1 : Held) (left left1 roster taken : Known) (found : LineFault) (why : TextFault) → in_front w.octets left ≡ in_front w1.octets left1 → LineInFront w1.octets left1 None
    → line_gives roster (take (length w1.octets) w1.octets) ≡ Err found → why ≡ numbered n found → Faulty n roster taken taken (in_front w.octets left) why
faulty_last n w w1 left left1 roster taken found why same at gives is =
    let whole : take (length w1.octets) w1.octets ≡ w1.octets = take_all (length w1.octets) w1.octets (omega arith) in
    record {
      first = subst (Refuses n roster why) (sym same) (last_front n roster w1.octets left1 found why (no_end w1.octets at.0) at.1 (ap (line_gives roster) (sym whole) ∙ gives) is);
      written = refl;
    }

-- a line that was not read: it is faulty, or memory ran out
pub takes_none : (n : ℕ) (roster roster1 taken given after : Known) (why : WriteFault) (read : Result Step LineFault) (gives : Step) → Encodes n (Err why) read gives
    → ((found : LineFault) (text : TextFault) → read ≡ Err found → text ≡ numbered n found → Faulty n roster taken taken given text) → TakesLine n roster roster1 taken taken given after (Err why)
takes_none n roster roster1 taken given after (fault.Text text) read gives e faulty = faulty e.0 text e.1 e.2
takes_none n roster roster1 taken given after fault.Read read gives e faulty = tt
takes_none n roster roster1 taken given after fault.Write read gives e faulty = tt
takes_none n roster roster1 taken given after fault.NoMemory read gives e faulty = tt
takes_none n roster roster1 taken given after fault.TooLong read gives e faulty = tt
