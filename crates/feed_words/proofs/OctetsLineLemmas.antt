-- The line of any octets is read as those octets.
use Rattle.std.proofs.Common.{◌≡◌, ℕ, suc, ◌+◌, ◌-◌, ◌*◌, ◌/◌, ◌%◌, ◌^◌, ◌<◌, ◌≤◌, Bool, true, false, cond, ltb, leb, eqb, All, List, [], ◌∷◌, ◌++◌, length, take, get_or, Option, Some, None, Ok, refl, sym, ap, ◌∙◌, append_assoc, append-nil, arith, inl, inr, ne_eqb, lit<, lit≤}
use Rattle.std.specs.Prelude.{codes, option_and_then}
use Rattle.std.specs.List.{filter, AllByRecursion}
use Rattle.std.proofs.lemmas.Bool.{cases_lt, lt-ltb, le-ltb, le-leb, lt-leb}
use Rattle.std.proofs.lemmas.List.{length-append}
use Rattle.std.proofs.lemmas.List.Elements.{All-append, All-from_recursion}
use Rattle.std.proofs.lemmas.List.Splits.{slice_split_at, slice_split_none}
use Rattle.line_words.specs.Words.{hex_digit, of_two_digits, hex_pairs_onto, digit, hex_pairs, hex_text, is_blank, is_some_word, before_comment, words_of, without_return, lines_of}
use Rattle.feed_words.specs.Records.{words_octets}
use Rattle.line_words.specs.declared.stop.Why.TheVariants as why
use Rattle.feed_words.specs.Texts.{at_word, words_give, line_fault, line_without_return_gives, line_gives, lines_give, reading_of, whole}
use Rattle.feed_words.proofs.TextLemmas.{blank_gives, taken}
use Rattle.feed_words.specs.Joining.{octets_line}

-- ---- digits

above_nine : (n : ℕ) → n < 10 → hex_digit (48 + n) ≡ Some n
above_nine n lt =
    let low : leb 48 (48 + n) ≡ true = le-leb _ _ (omega arith) in
    let high : leb (48 + n) 57 ≡ true = le-leb _ _ (omega arith) in
    let value : 48 + n - 48 ≡ n = omega arith in
    rw (low, high, value) refl

letter : (n : ℕ) → 10 ≤ n → n < 16 → hex_digit (87 + n) ≡ Some n
letter n ge lt =
    let one : leb 48 (87 + n) ≡ true = le-leb _ _ (omega arith) in
    let two : leb (87 + n) 57 ≡ false = lt-leb _ _ (omega arith) in
    let low : leb 97 (87 + n) ≡ true = le-leb _ _ (omega arith) in
    let high : leb (87 + n) 102 ≡ true = le-leb _ _ (omega arith) in
    let value : 87 + n - 87 ≡ n = omega arith in
    rw (one, two, low, high, value) refl

digit_again : (n : ℕ) → n < 16 → hex_digit (digit n) ≡ Some n
digit_again n lt =
    elim (cases_lt n 10) [
      | inl small ↦ ap (λ (b : Bool). hex_digit (cond b (48 + n) (87 + n))) (lt-ltb n 10 small) ∙ above_nine n small
      | inr ge ↦ ap (λ (b : Bool). hex_digit (cond b (48 + n) (87 + n))) (le-ltb n 10 ge) ∙ letter n ge lt
    ]

digit_above : (n : ℕ) → 47 < digit n
digit_above n = elim (ltb n 10) as (λ b. 47 < cond b (48 + n) (87 + n)) [ true ↦ omega arith | false ↦ omega arith ]

pub pairs_again : (out os : List ℕ) → All (λ o. o < 256) os → hex_pairs_onto out (hex_pairs os) ≡ Some (out ++ os)
unfolding hex_pairs_onto
pairs_again out [] all = ap Some (sym (append-nil out))
pairs_again out (o ∷ os) all =
    let fits : o < 256 = all 0 0 (omega arith) in
    let high = digit_again (o / 16) (omega arith) in
    let low = digit_again (o % 16) (omega arith) in
    let value : 16 * (o / 16) + o % 16 ≡ o = omega arith in
    let two : of_two_digits (hex_digit (digit (o / 16))) (hex_digit (digit (o % 16))) ≡ Some o =
    ap (λ (h : Option ℕ). of_two_digits h (hex_digit (digit (o % 16)))) high ∙ ap (λ (l : Option ℕ). of_two_digits (Some (o / 16)) l) low ∙ ap Some value in
    ap (λ (r : Option ℕ). option_and_then (λ o. hex_pairs_onto (out ++ o ∷ []) (hex_pairs os)) r) two
    ∙ pairs_again (out ++ o ∷ []) os (λ k d lt. all (suc k) d (omega arith))
    ∙ ap Some (append_assoc out (o ∷ []) os)

pairs_above : (os : List ℕ) → AllByRecursion (λ c. 47 < c) (hex_pairs os)
pairs_above [] = tt
pairs_above (o ∷ os) = (digit_above (o / 16), (digit_above (o % 16), pairs_above os))

text_above : (os : List ℕ) → All (λ c. 47 < c) (hex_text os)
text_above os = All-from_recursion (λ c. 47 < c) (hex_text os) (lit< tt, (lit< tt, pairs_above os))

length-pairs : (os : List ℕ) → length (hex_pairs os) ≡ 2 * length os
length-pairs [] = refl
length-pairs (o ∷ os) = omega (arith, length-pairs os)

-- ---- the line

abbrev octets_word : List ℕ
octets_word = codes "octets"

abbrev line_of : List ℕ → List ℕ
line_of os = codes "octets " ++ hex_text os

apart_from : (n : ℕ) (os : List ℕ) → n < 48 → All (λ c. eqb c n ≡ false) (hex_text os)
apart_from n os lt = λ k d h. ne_eqb _ _ (λ e. omega (arith, text_above os k d h))

line_apart : (n : ℕ) (os : List ℕ) → n < 32 → All (λ c. eqb c n ≡ false) (line_of os)
line_apart n os lt =
    let P : ℕ → Type 0 = λ c. eqb c n ≡ false in
    let one : (c : ℕ) → 32 ≤ c → P c = λ c le. ne_eqb c n (λ e. omega arith) in
    All-append P (codes "octets ") (hex_text os)
    (All-from_recursion P (codes "octets ") (one 111 (lit≤ tt), (one 99 (lit≤ tt), (one 116 (lit≤ tt), (one 101 (lit≤ tt), (one 116 (lit≤ tt), (one 115 (lit≤ tt), (one 32 (lit≤ tt), tt))))))))
    (apart_from n os (omega arith))

length-line : (os : List ℕ) → length (line_of os) ≡ 9 + 2 * length os
length-line os = omega (arith, length-append (codes "octets ") (hex_text os), length-pairs os)

no_blank : (os : List ℕ) → All (λ c. is_blank c ≡ false) (hex_text os)
no_blank os = λ k d h.
    let c = get_or (hex_text os) k d in
    let above : 47 < get_or (hex_text os) k d = text_above os k d h in
    let space : eqb (get_or (hex_text os) k d) 32 ≡ false = ne_eqb (get_or (hex_text os) k d) 32 (λ e. omega arith) in
    let tab : eqb (get_or (hex_text os) k d) 9 ≡ false = ne_eqb (get_or (hex_text os) k d) 9 (λ e. omega arith) in
    rw (space, tab) refl

no_blank_word : All (λ c. is_blank c ≡ false) octets_word
no_blank_word = All-from_recursion (λ c. is_blank c ≡ false) octets_word (refl, (refl, (refl, (refl, (refl, (refl, tt))))))

words_of_line : (os : List ℕ) → words_of (line_of os) ≡ octets_word ∷ hex_text os ∷ []
words_of_line os =
    ap (λ (parts : List (List ℕ)). before_comment (filter is_some_word parts))
    (slice_split_at is_blank octets_word 32 (hex_text os) no_blank_word refl ∙ ap (λ (parts : List (List ℕ)). octets_word ∷ parts) (slice_split_none is_blank (hex_text os) (no_blank os)))

kept : (os : List ℕ) → without_return (line_of os) ≡ line_of os
kept os =
    let l = line_of os in
    let last = line_apart 13 os (lit< tt) (length (line_of os) - 1) 0 (omega (arith, length-line os)) in
    ap (λ (b : Bool). cond b (take (length (line_of os) - 1) (line_of os)) (line_of os)) last

words_are : (os : List ℕ) → All (λ o. o < 256) os → words_give None (octets_word ∷ hex_text os ∷ []) ≡ Ok (None, os)
unfolding words_octets
words_are os all = rw (pairs_again [] os all) refl

line_is : (os : List ℕ) → All (λ o. o < 256) os → length os ≤ 2 ^ 18 → line_gives None (line_of os) ≡ Ok (None, os)
unfolding line_gives
line_is os all few =
    let short : ltb (2 ^ 20) (length (line_of os)) ≡ false = le-ltb _ _ (omega (arith, length-line os)) in
    ap (λ (b : Bool). cond b (line_fault 1 why.Long) (line_without_return_gives None (without_return (line_of os)))) short
    ∙ ap (line_without_return_gives None) (kept os)
    ∙ ap (λ (ws : List (List ℕ)). at_word ws (words_give None ws)) (words_of_line os)
    ∙ ap (at_word (octets_word ∷ hex_text os ∷ [])) (words_are os all)

pub octets_line_is : (os : List ℕ) → All (λ o. o < 256) os → length os ≤ 2 ^ 18 → reading_of (octets_line os) ≡ whole os
unfolding lines_give
octets_line_is os all few =
    let lines : lines_of (octets_line os) ≡ line_of os ∷ [] ∷ [] = slice_split_at (λ c. eqb c 10) (line_of os) 10 [] (line_apart 10 os (lit< tt)) refl in
    ap (lines_give 1 None) lines
    ∙ taken 1 (line_gives None (line_of os)) ([] ∷ []) (None, os) [] (line_is os all few) (taken 2 (line_gives None []) [] (None, []) [] (blank_gives None) refl)
    ∙ ap whole (append-nil os)
