-- The texts of numbers and addresses are read as those, and no others are.
use Rattle.std.proofs.Common.{◌≡◌, ◌≢◌, ℕ, ◌+◌, ◌-◌, ◌^◌, ◌<◌, ◌≤◌, Bool, true, false, ltb, eqb, List, [], ◌∷◌, length, take, drop, get_or, Option, Some, None, Result, Ok, Err, refl, sym, ap, subst, ◌∙◌, arith, rules, tests, inl, inr}
use Rattle.std.specs.Fmt.{decimal}
use Rattle.std.specs.Prelude.{IfSome, IfNone, ◌&&◌, ◌==◌, not}
use Rattle.std.specs.Char.{is_ascii_digit}
use Rattle.std.specs.Str.{IsUtf8}
use Rattle.std.specs.List.{list_all, position, position_or_len, slice_split}
use Rattle.std.specs.Str.Parse.{digits_value, ParsesUnsigned}
use Rattle.std.specs.Result.{OkIff, result_ok, MatchResult}
use Rattle.std.proofs.lemmas.Bool.{ltb-true, lt-ltb, le-ltb, cases_lt}
use Rattle.std.proofs.lemmas.Fmt.{decimal-digits_value, digits_decimal, digits_value-decimal, decimal_nonempty, first_decimal, decimal_digit, IsAscii-from_digits}
use Rattle.std.proofs.lemmas.Str.{IsUtf8-from_ascii}
use Rattle.std.proofs.lemmas.List.{take_rest}
use Rattle.std.proofs.lemmas.List.Splits.{slice_split_none, slice_split_first}
use Rattle.std.proofs.lemmas.List.Sums.{fails_before_first}
use Rattle.std.proofs.lemmas.Option.{cond_some, none-some, same_Some}
use Rattle.std.proofs.lemmas.Str.Parse.{IsNumeralModel, numerals_by_value, not_in_digits, parse_plain}
use Rattle.rcp_base.specs.Text.{is_number, number_of}

pub own : IsNumeralModel (λ ds. list_all is_ascii_digit ds ≡ true) (digits_value 10)
own = numerals_by_value _ (search rules)

-- what `is_number` tests, in the words of std's lemmas
pub record IsNumber (text : List ℕ) : Type 0 where
  pub digits : list_all is_ascii_digit text ≡ true
  pub some : 0 < length text
  pub zero : get_or text 0 0 ≡ 48 → length text ≡ 1

both : (a b : Bool) → (a && b) ≡ true → (a ≡ true) × (b ≡ true)
both true b e = (refl, e)
both false b e = absurd cc

IsNumber-from_test : (text : List ℕ) → is_number text ≡ true → IsNumber text
IsNumber-from_test [] e = absurd cc
IsNumber-from_test (c ∷ []) e = record { digits = grind arith; some = omega arith; zero = λ _. refl }
IsNumber-from_test (c ∷ d ∷ cs) e =
    let p = both (not (c == 48)) (list_all is_ascii_digit (c ∷ d ∷ cs)) e in
    record { digits = p.1; some = omega arith; zero = λ z. absurd (search (rules, tests)) }

test-IsNumber : (text : List ℕ) → IsNumber text → is_number text ≡ true
test-IsNumber [] h = absurd (omega (arith, h.some))
test-IsNumber (c ∷ []) h = let e = h.digits in grind arith
test-IsNumber (c ∷ d ∷ cs) h =
    let ne : c ≢ 48 = λ z. absurd (omega (arith, h.zero z)) in
    let apart : eqb c 48 ≡ false = search (rules, tests) in
    rw apart h.digits

-- ---- numbers

number-IsNumber : (text : List ℕ) → IsNumber text → digits_value 10 text < 2 ^ 64 → number_of text ≡ Some (digits_value 10 text)
number-IsNumber text h fits =
    let test = test-IsNumber text h in
    let below : ltb (digits_value 10 text) (2 ^ 64) ≡ true = lt-ltb _ _ fits in
    rw (test, below) refl

decimal-zero : (n : ℕ) → n < 2 ^ 64 → get_or (decimal n) 0 0 ≡ 48 → length (decimal n) ≡ 1
decimal-zero n fits z =
    elim (cases_lt n 10) [ inl lt ↦ ap length (decimal_digit n lt) | inr le ↦ absurd (omega (arith, first_decimal n (omega arith) fits)) ]

pub number_of-decimal : (n : ℕ) → n < 2 ^ 64 → number_of (decimal n) ≡ Some n
number_of-decimal n fits =
    let value : digits_value 10 (decimal n) ≡ n = digits_value-decimal own n fits in
    let first : get_or (decimal n) 0 0 ≡ 48 → length (decimal n) ≡ 1 = λ z. decimal-zero n fits z in
    number-IsNumber (decimal n) (record { digits = digits_decimal own n fits; some = decimal_nonempty n fits; zero = first }) (omega (arith, value)) ∙ ap Some value

pub number_of-Some : (text : List ℕ) (n : ℕ) → number_of text ≡ Some n → (text ≡ decimal n) × (n < 2 ^ 64)
number_of-Some text n e =
    let p = cond_some (is_number text && ltb (digits_value 10 text) (2 ^ 64)) (digits_value 10 text) n e in
    let q = both (is_number text) (ltb (digits_value 10 text) (2 ^ 64)) p.0 in
    let h = IsNumber-from_test text q.0 in
    let fits : digits_value 10 text < 2 ^ 64 = ltb-true _ _ q.1 in
    rw (← p.1) (sym (decimal-digits_value own text h.digits h.some h.zero fits), fits)

pub number_of-digits : (text : List ℕ) (n : ℕ) → number_of text ≡ Some n → list_all is_ascii_digit text ≡ true
number_of-digits text n e =
    let p = cond_some (is_number text && ltb (digits_value 10 text) (2 ^ 64)) (digits_value 10 text) n e in
    (IsNumber-from_test text (both (is_number text) (ltb (digits_value 10 text) (2 ^ 64)) p.0).0).digits

no_plus : (text : List ℕ) → IsNumber text → get_or text 0 0 ≢ 43
no_plus text h = not_in_digits own text 43 h.digits (λ r. omega (arith, r.0)) 0 h.some

ok_iff_number : {E : Type 0} (text : List ℕ) (r : Result ℕ E) → IsNumber text → OkIff r ((list_all is_ascii_digit text ≡ true) × (0 < length text) × (digits_value 10 text < 2 ^ 64)) (digits_value 10 text) → result_ok r ≡ number_of text
ok_iff_number text (Ok n) h p = ap Some p.1 ∙ sym (number-IsNumber text h p.0.2)
ok_iff_number text (Err e) h p =
    let test = test-IsNumber text h in
    let above : ltb (digits_value 10 text) (2 ^ 64) ≡ false = le-ltb _ _ (elim (cases_lt (digits_value 10 text) (2 ^ 64)) [ inl lt ↦ absurd (p (h.digits, h.some, lt)) | inr le ↦ le ]) in
    rw (test, above) refl

pub number_from_parse : {E : Type 0} (text : List ℕ) (r : Result ℕ E) → is_number text ≡ true → ParsesUnsigned 64 10 text r → result_ok r ≡ number_of text
number_from_parse text r test parses =
    let h = IsNumber-from_test text test in
    ok_iff_number text r h (parse_plain own 64 text r parses (no_plus text h))

pub number_text_is_utf8 : (text : List ℕ) → is_number text ≡ true → IsUtf8 text
number_text_is_utf8 text test = IsUtf8-from_ascii text (IsAscii-from_digits text (own.to text (IsNumber-from_test text test).digits))

pub found_number : (text : List ℕ) (r : Option ℕ) → r ≡ number_of text → IfSome r (λ n. text ≡ decimal n)
found_number text None e = tt
found_number text (Some n) e = (number_of-Some text n (sym e)).0

pub no_number : (text : List ℕ) (r : Option ℕ) → r ≡ number_of text → IfNone r ((n : ℕ) → n < 2 ^ 64 → text ≡ decimal n → ⊥)
no_number text (Some n) e = tt
no_number text None e = λ n fits is. none-some n (e ∙ ap number_of is ∙ number_of-decimal n fits)

-- ---- what `ok` of a result says

pub ok_gives : {X E : Type 0} (P : X → Type 0) (Q : E → Type 0) (r : Result X E) (x : X) → result_ok r ≡ Some x → MatchResult r P Q → P x
ok_gives P Q (Ok y) x e h = subst P (same_Some y x e) h
ok_gives P Q (Err d) x e h = absurd (none-some x e)

pub none_gives : {X E G : Type 0} (P : X → Type 0) (Q : E → Type 0) (r : Result X E) → result_ok r ≡ None → MatchResult r P Q → ((e : E) → Q e → G) → G
none_gives P Q (Ok y) e h f = absurd (none-some y (sym e))
none_gives P Q (Err d) e h f = f d h

-- ---- the parts between separators

pub split_nowhere : (p : ℕ → Bool) (xs : List ℕ) → position p xs ≡ None → slice_split p xs ≡ xs ∷ []
split_nowhere p xs e =
    let le : length xs ≤ position_or_len p xs = elim (cases_lt (position_or_len p xs) (length xs)) [
      | inl lt ↦ absurd (none-some (position_or_len p xs) (sym e ∙ rw (lt-ltb _ _ lt) refl))
      | inr le ↦ le
    ] in
    slice_split_none p xs (λ k d lt. fails_before_first p xs k d (omega arith))

pub split_there : (p : ℕ → Bool) (xs : List ℕ) (i : ℕ) → position p xs ≡ Some i → slice_split p xs ≡ take i xs ∷ slice_split p (take (length xs - (i + 1)) (drop (i + 1) xs))
split_there p xs i e =
    let g = cond_some (ltb (position_or_len p xs) (length xs)) (position_or_len p xs) i e in
    let lt : position_or_len p xs < length xs = ltb-true _ _ g.0 in
    slice_split_first p xs 0 lt
    ∙ ap (λ (n : ℕ). take n xs ∷ slice_split p (drop (n + 1) xs)) g.1
    ∙ ap (λ (rest : List ℕ). take i xs ∷ slice_split p rest) (sym (take_rest xs (i + 1)))
