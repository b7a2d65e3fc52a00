-- The words of a line, taken from the front.
use Rattle.std.proofs.Common.{◌≡◌, ◌≢◌, ℕ, zero, suc, ◌+◌, ◌<◌, ◌≤◌, Bool, true, false, cond, not, ltb, eqb, All, List, [], ◌∷◌, length, take, drop, get_or, Option, Some, None, refl, sym, ap, ◌∙◌, arith, inl, inr, add-one, drop-cons}
use Rattle.std.specs.List.{filter, position, position_or_len, slice_split, onto_first}
use Rattle.std.proofs.lemmas.Bool.{ltb-true, lt-ltb, le-ltb, cases_lt}
use Rattle.std.proofs.lemmas.List.{length-drop, get_or-drop}
use Rattle.std.proofs.lemmas.List.Splits.{slice_split-cons_yes, slice_split-cons_no, slice_split_none, slice_split_first}
use Rattle.std.proofs.lemmas.List.Sums.{fails_before_first, passes_at_first}
use Rattle.std.proofs.lemmas.Option.{cond_some, none-some}
use Rattle.memchr.specs.Find.{IsFirstByte}
use Rattle.line_words.specs.Words.{is_blank, is_some_word, before_comment, words_of}

-- ---- the first place that passes a test

pub first_some : (p : ℕ → Bool) (xs : List ℕ) (i : ℕ) → position p xs ≡ Some i → (position_or_len p xs ≡ i) × (i < length xs)
first_some p xs i e =
    let g = cond_some (ltb (position_or_len p xs) (length xs)) (position_or_len p xs) i e in
    let lt : position_or_len p xs < length xs = ltb-true _ _ g.0 in
    (g.1, omega (arith, lt, g.1))

pub none_passes : (p : ℕ → Bool) (xs : List ℕ) → position p xs ≡ None → length xs ≤ position_or_len p xs
none_passes p xs e = elim (cases_lt (position_or_len p xs) (length xs)) [
  | inl lt ↦ absurd (none-some (position_or_len p xs) (sym e ∙ rw (lt-ltb _ _ lt) refl))
  | inr le ↦ le
]

differ : true ≡ false → ⊥
differ e = cc

-- the place that a search gives
pub searched : (p : ℕ → Bool) (xs : List ℕ) (r : Option ℕ) → IsFirstByte p xs r → r ≡ position p xs
searched p xs None nowhere = elim (cases_lt (position_or_len p xs) (length xs)) [
  | inl lt ↦ absurd (nowhere (position_or_len p xs) (omega arith) lt (passes_at_first p xs 0 lt))
  | inr le ↦ rw (le-ltb _ _ le) refl
]
searched p xs (Some k) found =
    let first : position_or_len p xs ≡ k = elim (cases_lt (position_or_len p xs) k) [
      | inl lt ↦ absurd (found.0.before (position_or_len p xs) (omega arith) lt (passes_at_first p xs 0 (omega (arith, found.0.high))))
      | inr le ↦ elim (cases_lt k (position_or_len p xs)) [
        | inl lt ↦ absurd (differ (sym found.1 ∙ fails_before_first p xs k 0 lt))
        | inr ge ↦ omega arith
      ]
    ] in
    rw (first, lt-ltb k (length xs) found.0.high) refl

-- ---- blanks before a word

pub skip : (b : ℕ) (xs : List ℕ) → is_blank b ≡ true → words_of (b ∷ xs) ≡ words_of xs
skip b xs h = ap (λ (parts : List (List ℕ)). before_comment (filter is_some_word parts)) (slice_split-cons_yes is_blank b xs h)

skipped : (i : ℕ) (xs : List ℕ) → ((k : ℕ) → k < i → is_blank (get_or xs k 0) ≡ true) → i ≤ length xs → words_of xs ≡ words_of (drop i xs)
skipped zero xs h le = refl
skipped (suc i) [] h le = absurd (omega arith)
skipped (suc i) (x ∷ xs) h le = skip x xs (h 0 (omega arith)) ∙ skipped i xs (λ k lt. h (suc k) (omega arith)) (omega arith)

not_false : (b : Bool) → not b ≡ false → b ≡ true
not_false true h = refl
not_false false h = absurd cc

not_true : (b : Bool) → not b ≡ true → b ≡ false
not_true true h = absurd cc
not_true false h = refl

abbrev isnt_blank : ℕ → Bool
isnt_blank c = not (is_blank c)

all_blank : (xs : List ℕ) (i : ℕ) → i ≤ position_or_len isnt_blank xs → (k : ℕ) → k < i → is_blank (get_or xs k 0) ≡ true
all_blank xs i le k lt = not_false (is_blank (get_or xs k 0)) (fails_before_first isnt_blank xs k 0 (omega arith))

pub start_words : (xs : List ℕ) (i : ℕ) → position isnt_blank xs ≡ Some i → words_of xs ≡ words_of (drop i xs)
start_words xs i e =
    let at = first_some isnt_blank xs i e in
    skipped i xs (all_blank xs i (omega (arith, at.0))) (omega (arith, at.1))

pub start_some : (xs : List ℕ) (i : ℕ) → position isnt_blank xs ≡ Some i → drop i xs ≢ []
start_some xs i e h =
    let at = first_some isnt_blank xs i e in
    omega (arith, at.1, length-drop i xs, ap length h)

pub start_is : (xs : List ℕ) (i : ℕ) → position isnt_blank xs ≡ Some i → is_blank (get_or (drop i xs) 0 0) ≡ false
start_is xs i e =
    let at = first_some isnt_blank xs i e in
    let lt : position_or_len isnt_blank xs < length xs = omega (arith, at.0, at.1) in
    let here : i + 0 ≡ position_or_len isnt_blank xs = omega (arith, at.0) in
    ap is_blank (get_or-drop i xs 0 0 ∙ ap (λ (n : ℕ). get_or xs n 0) here) ∙ not_true _ (passes_at_first isnt_blank xs 0 lt)

nothing_left : (n : ℕ) (xs : List ℕ) → length xs ≤ n → words_of (drop n xs) ≡ []
nothing_left zero [] le = refl
nothing_left zero (x ∷ xs) le = absurd (omega arith)
nothing_left (suc n) [] le = refl
nothing_left (suc n) (x ∷ xs) le = nothing_left n xs (omega arith)

pub no_start : (xs : List ℕ) → position isnt_blank xs ≡ None → words_of xs ≡ []
no_start xs e =
    let le = none_passes isnt_blank xs e in
    skipped (length xs) xs (all_blank xs (length xs) le) (omega arith) ∙ nothing_left (length xs) xs (omega arith)

-- ---- a word, or a comment, in front

pub word_at : (xs : List ℕ) (i : ℕ) → xs ≢ [] → is_blank (get_or xs 0 0) ≡ false → eqb (get_or xs 0 0) 35 ≡ false → position is_blank xs ≡ Some i → words_of xs ≡ take i xs ∷ words_of (drop i xs)
word_at [] i some blank comment e = absurd (some refl)
word_at (c ∷ cs) zero some blank comment e =
    let at = first_some is_blank (c ∷ cs) 0 e in
    let lt : position_or_len is_blank (c ∷ cs) < length (c ∷ cs) = omega (arith, at.0, at.1) in
    let yes : is_blank c ≡ true = ap (λ (n : ℕ). is_blank (get_or (c ∷ cs) n 0)) (sym at.0) ∙ passes_at_first is_blank (c ∷ cs) 0 lt in
    absurd cc
word_at (c ∷ cs) (suc j) some blank comment e =
    let at = first_some is_blank (c ∷ cs) (suc j) e in
    let lt : position_or_len is_blank (c ∷ cs) < length (c ∷ cs) = omega (arith, at.0, at.1) in
    let yes : is_blank (get_or (c ∷ cs) (suc j) 0) ≡ true = ap (λ (n : ℕ). is_blank (get_or (c ∷ cs) n 0)) (sym at.0) ∙ passes_at_first is_blank (c ∷ cs) 0 lt in
    let rest : words_of (drop (suc j) (c ∷ cs)) ≡ words_of (drop (suc j + 1) (c ∷ cs)) =
    ap words_of (drop-cons (c ∷ cs) (suc j) 0 at.1) ∙ skip (get_or (c ∷ cs) (suc j) 0) (drop (suc (suc j)) (c ∷ cs)) yes ∙ ap (λ (n : ℕ). words_of (drop n (c ∷ cs))) (sym (add-one (suc j))) in
    ap (λ (parts : List (List ℕ)). before_comment (filter is_some_word parts))
    (slice_split_first is_blank (c ∷ cs) 0 lt ∙ ap (λ (n : ℕ). take n (c ∷ cs) ∷ slice_split is_blank (drop (n + 1) (c ∷ cs))) at.0)
    ∙ ap (λ (b : Bool). cond b [] ((c ∷ take j cs) ∷ words_of (drop (suc j + 1) (c ∷ cs)))) comment
    ∙ ap (λ (ws : List (List ℕ)). (c ∷ take j cs) ∷ ws) (sym rest)

pub last_word : (xs : List ℕ) → xs ≢ [] → eqb (get_or xs 0 0) 35 ≡ false → All (λ x. is_blank x ≡ false) xs → words_of xs ≡ xs ∷ []
last_word [] some comment all = absurd (some refl)
last_word (c ∷ cs) some comment all =
    ap (λ (parts : List (List ℕ)). before_comment (filter is_some_word parts)) (slice_split_none is_blank (c ∷ cs) all)
    ∙ ap (λ (b : Bool). cond b [] ((c ∷ cs) ∷ [])) comment

pub last_word_by_search : (xs : List ℕ) → xs ≢ [] → eqb (get_or xs 0 0) 35 ≡ false → position is_blank xs ≡ None → words_of xs ≡ xs ∷ []
last_word_by_search xs some comment e =
    let le = none_passes is_blank xs e in
    last_word xs some comment (λ k d lt. fails_before_first is_blank xs k d (omega arith))

comment_parts : (c : ℕ) (parts : List (List ℕ)) → eqb c 35 ≡ true → before_comment (filter is_some_word (onto_first c parts)) ≡ []
comment_parts c [] h = ap (λ (b : Bool). cond b [] ((c ∷ []) ∷ [])) h
comment_parts c (part ∷ parts) h = ap (λ (b : Bool). cond b [] ((c ∷ part) ∷ before_comment (filter is_some_word parts))) h

pub comment_in_front : (xs : List ℕ) → xs ≢ [] → is_blank (get_or xs 0 0) ≡ false → eqb (get_or xs 0 0) 35 ≡ true → words_of xs ≡ []
comment_in_front [] some blank comment = absurd (some refl)
comment_in_front (c ∷ cs) some blank comment =
    ap (λ (parts : List (List ℕ)). before_comment (filter is_some_word parts)) (slice_split-cons_no is_blank c cs blank) ∙ comment_parts c (slice_split is_blank cs) comment
