-- Lines of a text and words of a line, taken from the front.
use Rattle.std.proofs.Common.{◌≡◌, ◌≢◌, ℕ, suc, Bool, eqb, List, [], ◌∷◌, length, get_or, refl, sym, ap, ◌∙◌, arith}
use Rattle.std.specs.List.{slice_split, onto_first}
use Rattle.std.proofs.lemmas.Bool.{cond_both}
use Rattle.rcp_base.specs.Roster.{without_last_empty, lines_of, words_of}

-- ---- there is always a first part

record HasFirst (parts : List (List ℕ)) : Type 0 where
  part : List ℕ
  more : List (List ℕ)
  are : parts ≡ part ∷ more

first_onto : (x : ℕ) (parts : List (List ℕ)) → HasFirst (onto_first x parts)
first_onto x [] = record { part = x ∷ []; more = []; are = refl }
first_onto x (part ∷ parts) = record { part = x ∷ part; more = parts; are = refl }

has_first : (p : ℕ → Bool) (xs : List ℕ) → HasFirst (slice_split p xs)
has_first p [] = record { part = []; more = []; are = refl }
has_first p (x ∷ xs) =
    cond_both (p x) ([] ∷ slice_split p xs) (onto_first x (slice_split p xs)) HasFirst
    (λ _. record { part = []; more = slice_split p xs; are = refl }) (λ _. first_onto x (slice_split p xs))

-- ---- lines

abbrev lines : List ℕ → List (List ℕ)
lines text = slice_split (λ c. eqb c 10) text

more_lines : (line part : List ℕ) (parts : List (List ℕ)) → without_last_empty (line ∷ part ∷ parts) ≡ line ∷ without_last_empty (part ∷ parts)
more_lines [] part parts = refl
more_lines (o ∷ line) part parts = refl

pub lines_of-front : (text line rest : List ℕ) → lines text ≡ line ∷ lines rest → lines_of text ≡ line ∷ lines_of rest
lines_of-front text line rest e =
    let first = has_first (λ c. eqb c 10) rest in
    ap without_last_empty (e ∙ ap (λ (parts : List (List ℕ)). line ∷ parts) first.are)
    ∙ more_lines line first.part first.more
    ∙ ap (λ (parts : List (List ℕ)). line ∷ without_last_empty parts) (sym first.are)

pub lines_of-last : (text : List ℕ) → length text ≢ 0 → lines text ≡ text ∷ [] → lines_of text ≡ text ∷ []
lines_of-last [] some e = absurd (some refl)
lines_of-last (o ∷ text) some e = ap without_last_empty e

pub lines_of-none : (text : List ℕ) → length text ≡ 0 → lines_of text ≡ []
lines_of-none [] none = refl
lines_of-none (o ∷ text) none = absurd (omega arith)

-- ---- words

pub one_more : (words more : List (List ℕ)) (word : List ℕ) (n : ℕ) → words ≡ word ∷ more → length more ≢ n → length words ≢ suc n
one_more words more word n e other = λ h. other (omega (arith, h, ap length e))

pub one_word : (words : List (List ℕ)) (word : List ℕ) (n : ℕ) → words ≡ word ∷ [] → n ≢ 1 → length words ≢ n
one_word words word n e other = λ h. other (sym h ∙ ap length e)

pub third_word : (words more : List (List ℕ)) (a b rest : List ℕ) → words ≡ a ∷ more → more ≡ b ∷ words_of rest → length words ≢ 2
third_word words more a b rest e f = λ h.
    let first = has_first (λ c. eqb c 32) rest in
    omega (arith, h, ap length e, ap length f, ap length first.are)

pub six_octets : (w : List ℕ) (a b c d e f : ℕ) → length w ≡ 6 → get_or w 0 0 ≡ a → get_or w 1 0 ≡ b → get_or w 2 0 ≡ c → get_or w 3 0 ≡ d → get_or w 4 0 ≡ e → get_or w 5 0 ≡ f
    → w ≡ a ∷ b ∷ c ∷ d ∷ e ∷ f ∷ []
six_octets [] a b c d e f n h0 h1 h2 h3 h4 h5 = absurd (omega arith)
six_octets (s ∷ []) a b c d e f n h0 h1 h2 h3 h4 h5 = absurd (omega arith)
six_octets (s ∷ t ∷ []) a b c d e f n h0 h1 h2 h3 h4 h5 = absurd (omega arith)
six_octets (s ∷ t ∷ u ∷ []) a b c d e f n h0 h1 h2 h3 h4 h5 = absurd (omega arith)
six_octets (s ∷ t ∷ u ∷ v ∷ []) a b c d e f n h0 h1 h2 h3 h4 h5 = absurd (omega arith)
six_octets (s ∷ t ∷ u ∷ v ∷ w ∷ []) a b c d e f n h0 h1 h2 h3 h4 h5 = absurd (omega arith)
six_octets (s ∷ t ∷ u ∷ v ∷ w ∷ x ∷ []) a b c d e f n h0 h1 h2 h3 h4 h5 = cc
six_octets (s ∷ t ∷ u ∷ v ∷ w ∷ x ∷ y ∷ ws) a b c d e f n h0 h1 h2 h3 h4 h5 = absurd (omega arith)
