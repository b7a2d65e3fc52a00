-- The lines of a roster's text are read as what they say.
use Rattle.std.proofs.Common.{◌≡◌, ◌≢◌, ℕ, ◌/◌, ◌%◌, ◌^◌, ◌<◌, ◌≤◌, Bool, true, false, cond, ◌&&◌, eqb, leb, List, [], ◌∷◌, ◌++◌, length, Option, Some, None, Result, Ok, Err, option_and_then, refl, ap, ◌∙◌, inl, inr, append_assoc, arith, codes}
use Rattle.std.specs.Prelude.{All}
use Rattle.std.specs.Fmt.{decimal}
use Rattle.std.specs.List.{flat_map, list_any, slice_split, AllByRecursion}
use Rattle.std.proofs.Math.Dec.{eqb-suc-zero}
use Rattle.std.proofs.lemmas.Bool.{le-leb}
use Rattle.std.proofs.lemmas.Bool.Decides.{eqb_tells}
use Rattle.std.proofs.lemmas.Fmt.{decimal_nonempty}
use Rattle.std.proofs.lemmas.List.{length-append}
use Rattle.std.proofs.lemmas.List.Elements.{All-append, All-cons}
use Rattle.std.proofs.lemmas.List.Splits.{slice_split_none, slice_split_at}
use Rattle.rcp_base.specs.declared.kinds.RosterWhy.{RosterWhy}
use Rattle.rcp_base.specs.declared.kinds.RosterWhy.TheVariants as why
use Rattle.rcp_base.specs.Checks.{unless}
use Rattle.rcp_base.specs.Text.{dot, address_text, address_of}
use Rattle.rcp_base.specs.Roster.{Line, As, Id, Shards, Hold, Area, Router, Link, without_last_empty, lines_of, is_skipped, words_of, number_within, except, name_value, one, two, three, line_of_words, is_empty, line_of, Named, line_fault, with_line, with_text, with_any_text}
use Rattle.rcp_base.proofs.TextLemmas.{number_of-decimal}
use Rattle.rcp_base.proofs.AddressLemmas.{decimal_apart, address_of-text}
use Rattle.feed_laws.specs.RosterTexts.{line_text}

pub not_equal : (a b : ℕ) → a ≢ b → eqb a b ≡ false
not_equal a b other = elim (eqb_tells a b) [ inl (e, same) ↦ absurd (other same) | inr (e, apart) ↦ e ]

-- ---- words

-- no space and no end of line stands in it, and it isn't empty
pub record IsWord (word : List ℕ) : Type 0 where
  pub one_word : All (λ x. eqb x 32 ≡ false) word
  pub one_line : All (λ x. eqb x 10 ≡ false) word
  pub some : eqb (length word) 0 ≡ false

pub decimal-word : (n : ℕ) → n < 2 ^ 64 → IsWord (decimal n)
decimal-word n fits = record {
  one_word = decimal_apart 32 n (λ p q. omega arith) fits;
  one_line = decimal_apart 10 n (λ p q. omega arith) fits;
  some = not_equal (length (decimal n)) 0 (λ e. omega (arith, e, decimal_nonempty n fits));
}

-- four numbers with dots
dotted : List ℕ → List ℕ → List ℕ → List ℕ → List ℕ
dotted a b c d = a ++ dot ∷ (b ++ dot ∷ (c ++ dot ∷ d))

dotted-lacks : (k : ℕ) (a b c d : List ℕ) → eqb 46 k ≡ false → All (λ x. eqb x k ≡ false) a → All (λ x. eqb x k ≡ false) b → All (λ x. eqb x k ≡ false) c → All (λ x. eqb x k ≡ false) d
    → All (λ x. eqb x k ≡ false) (dotted a b c d)
unfolding dotted
dotted-lacks k a b c d e ha hb hc hd =
    let P = λ (x : ℕ). eqb x k ≡ false in
    All-append P a (dot ∷ (b ++ dot ∷ (c ++ dot ∷ d))) ha (All-cons P dot (b ++ dot ∷ (c ++ dot ∷ d)) e
    (All-append P b (dot ∷ (c ++ dot ∷ d)) hb (All-cons P dot (c ++ dot ∷ d) e
    (All-append P c (dot ∷ d) hc (All-cons P dot d e hd)))))

dotted-word : (a b c d : List ℕ) → IsWord a → IsWord b → IsWord c → IsWord d → IsWord (dotted a b c d)
unfolding dotted
dotted-word a b c d ha hb hc hd = record {
  one_word = dotted-lacks 32 a b c d refl ha.one_word hb.one_word hc.one_word hd.one_word;
  one_line = dotted-lacks 10 a b c d refl ha.one_line hb.one_line hc.one_line hd.one_line;
  some = not_equal (length (dotted a b c d)) 0 (λ e. omega (arith, e, length-append a (dot ∷ (b ++ dot ∷ (c ++ dot ∷ d)))));
}

pub address-word : (n : ℕ) → IsWord (address_text n)
unfolding dotted
address-word n =
    dotted-word (decimal (n / 16777216 % 256)) (decimal (n / 65536 % 256)) (decimal (n / 256 % 256)) (decimal (n % 256))
    (decimal-word (n / 16777216 % 256) (omega arith)) (decimal-word (n / 65536 % 256) (omega arith)) (decimal-word (n / 256 % 256) (omega arith)) (decimal-word (n % 256) (omega arith))

-- ---- lines

words-read : (word : List ℕ) (words : List (List ℕ)) → IsWord word → AllByRecursion IsWord words → words_of (line_text (word ∷ words)) ≡ word ∷ words
words-read word [] w ws = slice_split_none (λ c. eqb c 32) word w.one_word
words-read word (next ∷ words) w ws =
    slice_split_at (λ c. eqb c 32) word 32 (line_text (next ∷ words)) w.one_word refl
    ∙ ap (λ (parts : List (List ℕ)). word ∷ parts) (words-read next words ws.0 ws.1)

pub line-lacks_end : (word : List ℕ) (words : List (List ℕ)) → IsWord word → AllByRecursion IsWord words → All (λ x. eqb x 10 ≡ false) (line_text (word ∷ words))
line-lacks_end word [] w ws = w.one_line
line-lacks_end word (next ∷ words) w ws =
    let P = λ (x : ℕ). eqb x 10 ≡ false in
    All-append P word (32 ∷ line_text (next ∷ words)) w.one_line (All-cons P 32 (line_text (next ∷ words)) refl (line-lacks_end next words ws.0 ws.1))

none-empty : (words : List (List ℕ)) → AllByRecursion IsWord words → list_any is_empty words ≡ false
none-empty [] ws = refl
none-empty (word ∷ words) ws = let some = ws.0.some in rw some (none-empty words ws.1)

line-said : (word : List ℕ) (words : List (List ℕ)) → IsWord word → AllByRecursion IsWord words → line_of (line_text (word ∷ words)) ≡ line_of_words (word ∷ words)
line-said word words w ws =
    ap (λ (parts : List (List ℕ)). cond (list_any is_empty parts) (Err why.Word) (line_of_words parts)) (words-read word words w ws)
    ∙ ap (λ (b : Bool). cond b (Err why.Word) (line_of_words (word ∷ words))) (none-empty (word ∷ words) (w, ws))

not-skipped : (c : ℕ) (text : List ℕ) → eqb c 35 ≡ false → is_skipped (c ∷ text) ≡ false
not-skipped c text other = let some = eqb-suc-zero (length text) in rw (some, other) refl

-- a line that says something without a fault is taken
taken : (named : Named) (text : List ℕ) (line : Line) → is_skipped text ≡ false → line_of text ≡ Ok line → line_fault named line ≡ None → with_any_text named text ≡ Ok (with_line named line)
taken named text line read says faultless =
    ap (λ (b : Bool). cond b (Ok named) (with_text named text)) read
    ∙ ap (λ (said : Result Line RosterWhy). elim said as (λ _. Result Named RosterWhy) [ Ok line ↦ unless (line_fault named line) (with_line named line) | Err fault ↦ Err fault ]) says
    ∙ ap (λ (fault : Option RosterWhy). unless fault (with_line named line)) faultless

-- the first word begins with a letter
pub takes_line : (named : Named) (c : ℕ) (cs : List ℕ) (next : List ℕ) (words : List (List ℕ)) (line : Line) → eqb c 35 ≡ false → IsWord (c ∷ cs) → AllByRecursion IsWord (next ∷ words)
    → line_of_words ((c ∷ cs) ∷ next ∷ words) ≡ Ok line → line_fault named line ≡ None → with_any_text named (line_text ((c ∷ cs) ∷ next ∷ words)) ≡ Ok (with_line named line)
takes_line named c cs next words line other w ws says faultless =
    taken named (line_text ((c ∷ cs) ∷ next ∷ words)) line (not-skipped c (cs ++ 32 ∷ line_text (next ∷ words)) other) (line-said (c ∷ cs) (next ∷ words) w ws ∙ says) faultless

-- ---- values

within : (low high n : ℕ) → low ≤ n → n ≤ high → n < 2 ^ 64 → number_within low high (decimal n) ≡ Some n
within low high n least most fits =
    let l : leb low n ≡ true = le-leb low n least in
    let h : leb n high ≡ true = le-leb n high most in
    ap (option_and_then (λ (m : ℕ). cond (leb low m && leb m high) (Some m) None)) (number_of-decimal n fits) ∙ rw (l, h) refl

left_out : (out n : ℕ) (number : Option ℕ) → number ≡ Some n → n ≢ out → except out number ≡ Some n
left_out out n number is other =
    ap (option_and_then (λ (m : ℕ). cond (eqb m out) None (Some m))) is ∙ ap (λ (b : Bool). cond b None (Some n)) (not_equal n out other)

pub as-said : (n : ℕ) → 1 ≤ n → n ≤ 65535 → n ≢ 23456 → line_of_words (codes "as" ∷ decimal n ∷ []) ≡ Ok (As n)
as-said n least most own = ap (one As) (left_out 23456 n (number_within 1 65535 (decimal n)) (within 1 65535 n least most (omega arith)) own)

pub id-said : (a : ℕ) → a < 2 ^ 32 → line_of_words (codes "id" ∷ address_text a ∷ []) ≡ Ok (Id a)
id-said a fits = ap (one Id) (address_of-text a fits)

pub shards-said : (n : ℕ) → 1 ≤ n → n ≤ 64 → line_of_words (codes "shards" ∷ decimal n ∷ []) ≡ Ok (Shards n)
shards-said n least most = ap (one Shards) (within 1 64 n least most (omega arith))

pub hold-said : (n : ℕ) → n ≢ 1 → n ≢ 2 → n ≤ 65535 → line_of_words (codes "hold" ∷ decimal n ∷ []) ≡ Ok (Hold n)
hold-said n first second most =
    ap (one Hold) (left_out 1 n (except 2 (number_within 0 65535 (decimal n))) (left_out 2 n (number_within 0 65535 (decimal n)) (within 0 65535 n (omega arith) most (omega arith)) second) first)

pub area-said : (a : ℕ) → a < 2 ^ 32 → line_of_words (codes "area" ∷ address_text a ∷ []) ≡ Ok (Area a)
area-said a fits = ap (one Area) (address_of-text a fits)

pub router-said : (router id : ℕ) → router < 2 ^ 32 → id < 2 ^ 32 → router ≢ 0 → id ≢ 0 → line_of_words (codes "router" ∷ address_text router ∷ address_text id ∷ []) ≡ Ok (Router router id)
router-said router id r_fits i_fits r i =
    ap (λ (a : Option ℕ). two Router a (name_value (address_text id))) (left_out 0 router (address_of (address_text router)) (address_of-text router r_fits) r)
    ∙ ap (one (Router router)) (left_out 0 id (address_of (address_text id)) (address_of-text id i_fits) i)

pub link-said : (u v cost : ℕ) → u < 2 ^ 32 → v < 2 ^ 32 → 1 ≤ cost → cost ≤ 65535 → line_of_words (codes "link" ∷ address_text u ∷ address_text v ∷ decimal cost ∷ []) ≡ Ok (Link u v cost)
link-said u v cost u_fits v_fits least most =
    ap (λ (a : Option ℕ). three Link a (address_of (address_text v)) (number_within 1 65535 (decimal cost))) (address_of-text u u_fits)
    ∙ ap (λ (b : Option ℕ). two (Link u) b (number_within 1 65535 (decimal cost))) (address_of-text v v_fits)
    ∙ ap (one (Link u v)) (within 1 65535 cost least most (omega arith))

-- ---- all lines

abbrev pub ended : List (List ℕ) → List ℕ
ended lines = flat_map (λ line. line ++ 10 ∷ []) lines

split-lines : (lines : List (List ℕ)) → AllByRecursion (All (λ x. eqb x 10 ≡ false)) lines → slice_split (λ c. eqb c 10) (ended lines) ≡ lines ++ [] ∷ []
split-lines [] each = refl
split-lines (line ∷ lines) each =
    ap (slice_split (λ c. eqb c 10)) (append_assoc line (10 ∷ []) (ended lines))
    ∙ slice_split_at (λ c. eqb c 10) line 10 (ended lines) each.0 refl
    ∙ ap (λ (parts : List (List ℕ)). line ∷ parts) (split-lines lines each.1)

no-last : (lines : List (List ℕ)) → without_last_empty (lines ++ [] ∷ []) ≡ lines
no-last [] = refl
no-last ([] ∷ []) = refl
no-last ([] ∷ next ∷ lines) = ap (λ (parts : List (List ℕ)). [] ∷ parts) (no-last (next ∷ lines))
no-last ((c ∷ cs) ∷ lines) = ap (λ (parts : List (List ℕ)). (c ∷ cs) ∷ parts) (no-last lines)

pub lines-read : (lines : List (List ℕ)) → AllByRecursion (All (λ x. eqb x 10 ≡ false)) lines → lines_of (ended lines) ≡ lines
lines-read lines each = ap without_last_empty (split-lines lines each) ∙ no-last lines
