-- The texts of addresses and prefixes are read as those, and no others are.
use Rattle.std.proofs.Common.{◌≡◌, ◌≢◌, ℕ, ◌/◌, ◌%◌, ◌^◌, ◌<◌, ◌≤◌, true, false, cond, eqb, ltb, All, List, [], ◌∷◌, ◌++◌, get_or, map, Option, Some, None, refl, sym, ap, ◌∙◌, arith, rules, tests}
use Rattle.std.specs.Prelude.{IfSome, IfNone, option_and_then}
use Rattle.std.specs.Fmt.{decimal}
use Rattle.std.specs.Int.{w32, to_be_bytes, from_be_bytes}
use Rattle.std.specs.List.{slice_split, join_with_byte, list_all}
use Rattle.std.specs.Char.{is_ascii_digit}
use Rattle.std.proofs.lemmas.Bool.{ltb-true, lt-ltb}
use Rattle.std.proofs.lemmas.Fmt.{digits_decimal}
use Rattle.std.proofs.lemmas.List.{get_or_default}
use Rattle.std.proofs.lemmas.List.Splits.{slice_split_none, slice_split_at, join_with_byte-slice_split}
use Rattle.std.proofs.lemmas.Nat.{from_be_bytes-to_be_bytes_4}
use Rattle.std.proofs.lemmas.Option.{cond_some, none-some, same_Some, option_and_then_some}
use Rattle.std.proofs.lemmas.Str.Parse.{not_in_digits}
use Rattle.rcp_base.specs.Text.{dot, address_text, number_of, octet_of, address_of_parts, address_of}
use Rattle.rcp_base.proofs.TextLemmas.{own, number_of-decimal, number_of-Some, number_of-digits}

-- c is no digit: it stands nowhere in a text of digits
pub apart : (c : ℕ) (text : List ℕ) → (48 ≤ c → c ≤ 57 → ⊥) → list_all is_ascii_digit text ≡ true → All (λ x. eqb x c ≡ false) text
apart c text out digits k d lt =
    let here : get_or text k d ≢ c = rw (get_or_default text k d 0 lt) (not_in_digits own text c digits (λ r. out r.0 r.1) k lt) in
    search (rules, tests)

pub decimal_apart : (c n : ℕ) → (48 ≤ c → c ≤ 57 → ⊥) → n < 2 ^ 64 → All (λ x. eqb x c ≡ false) (decimal n)
decimal_apart c n out fits = apart c (decimal n) out (digits_decimal own n fits)

octet_of-decimal : (n : ℕ) → n < 256 → octet_of (decimal n) ≡ Some n
octet_of-decimal n lt =
    let below = lt-ltb n 256 lt in
    rw (number_of-decimal n (omega arith), below) refl

octet_of-Some : (text : List ℕ) (n : ℕ) → octet_of text ≡ Some n → (text ≡ decimal n) × (n < 256)
octet_of-Some text n e =
    option_and_then_some (λ (m : ℕ). cond (ltb m 256) (Some m) None) (number_of text) n e
    (λ m found below. let g = cond_some (ltb m 256) m n below in (rw (← g.1) (number_of-Some text m found).0, rw (← g.1) (ltb-true m 256 g.0)))

octet_of-digits : (text : List ℕ) (n : ℕ) → octet_of text ≡ Some n → list_all is_ascii_digit text ≡ true
octet_of-digits text n e =
    option_and_then_some (λ (m : ℕ). cond (ltb m 256) (Some m) None) (number_of text) n e (λ m found below. number_of-digits text m found)

-- ---- the four parts of an address

abbrev four : Option ℕ → Option ℕ → Option ℕ → Option ℕ → Option ℕ
four a b c d = option_and_then (λ a. option_and_then (λ b. option_and_then (λ c. option_and_then (λ d. Some (from_be_bytes w32 (a ∷ b ∷ c ∷ d ∷ []))) d) c) b) a

four-None : (a b c : Option ℕ) → four a b c None ≡ None
four-None None b c = refl
four-None (Some a) None c = refl
four-None (Some a) (Some b) None = refl
four-None (Some a) (Some b) (Some c) = refl

-- no dot stands in a number, so the last of four parts is all that follows the third dot
no_octet_last : (a b c d : List ℕ) (parts : List (List ℕ)) → octet_of d ≡ None → join_with_byte dot parts ≡ d → address_of_parts (a ∷ b ∷ c ∷ parts) ≡ None
no_octet_last a b c d [] none e = refl
no_octet_last a b c d (x ∷ []) none e =
    let last : octet_of x ≡ None = ap octet_of e ∙ none in
    ap (four (octet_of a) (octet_of b) (octet_of c)) last ∙ four-None (octet_of a) (octet_of b) (octet_of c)
no_octet_last a b c d (x ∷ y ∷ parts) none e = refl

last_part_of : (a b c d : List ℕ) (o : Option ℕ) → octet_of d ≡ o → address_of_parts (a ∷ b ∷ c ∷ slice_split (λ x. eqb x dot) d) ≡ address_of_parts (a ∷ b ∷ c ∷ d ∷ [])
last_part_of a b c d None e =
    no_octet_last a b c d (slice_split (λ x. eqb x dot) d) e (join_with_byte-slice_split dot d)
    ∙ sym (ap (four (octet_of a) (octet_of b) (octet_of c)) e ∙ four-None (octet_of a) (octet_of b) (octet_of c))
last_part_of a b c d (Some n) e =
    ap (λ (parts : List (List ℕ)). address_of_parts (a ∷ b ∷ c ∷ parts)) (slice_split_none _ d (apart dot d (λ p q. omega arith) (octet_of-digits d n e)))

-- what reading from the front gives, as the code goes
pub address_by_splits : (text a r b s c d : List ℕ) (o : Option ℕ) → slice_split (λ x. eqb x dot) text ≡ a ∷ slice_split (λ x. eqb x dot) r → slice_split (λ x. eqb x dot) r ≡ b ∷ slice_split (λ x. eqb x dot) s
    → slice_split (λ x. eqb x dot) s ≡ c ∷ slice_split (λ x. eqb x dot) d → o ≡ address_of_parts (a ∷ b ∷ c ∷ d ∷ []) → o ≡ address_of text
address_by_splits text a r b s c d o first second third is =
    is ∙ sym (last_part_of a b c d (octet_of d) refl)
    ∙ ap (λ (parts : List (List ℕ)). address_of_parts (a ∷ b ∷ parts)) (sym third)
    ∙ ap (λ (parts : List (List ℕ)). address_of_parts (a ∷ parts)) (sym second)
    ∙ ap address_of_parts (sym first)

four_numbers : (a b c d : List ℕ) (w x y z n : ℕ) → octet_of a ≡ Some w → octet_of b ≡ Some x → octet_of c ≡ Some y → octet_of d ≡ Some z → Some (from_be_bytes w32 (w ∷ x ∷ y ∷ z ∷ [])) ≡ Some n
    → (a ∷ b ∷ c ∷ d ∷ [] ≡ map decimal (to_be_bytes w32 n)) × (n < 2 ^ 32)
four_numbers a b c d w x y z n ea eb ec ed e =
    let ha = octet_of-Some a w ea in
    let hb = octet_of-Some b x eb in
    let hc = octet_of-Some c y ec in
    let hd = octet_of-Some d z ed in
    let n-is : from_be_bytes w32 (w ∷ x ∷ y ∷ z ∷ []) ≡ n = same_Some _ _ e in
    let e0 : w ≡ n / 16777216 % 256 = omega (arith, n-is, ha.1, hb.1, hc.1, hd.1) in
    let e1 : x ≡ n / 65536 % 256 = omega (arith, n-is, ha.1, hb.1, hc.1, hd.1) in
    let e2 : y ≡ n / 256 % 256 = omega (arith, n-is, ha.1, hb.1, hc.1, hd.1) in
    let e3 : z ≡ n % 256 = omega (arith, n-is, ha.1, hb.1, hc.1, hd.1) in
    let ta : a ≡ decimal (n / 16777216 % 256) = ha.0 ∙ ap decimal e0 in
    let tb : b ≡ decimal (n / 65536 % 256) = hb.0 ∙ ap decimal e1 in
    let tc : c ≡ decimal (n / 256 % 256) = hc.0 ∙ ap decimal e2 in
    let td : d ≡ decimal (n % 256) = hd.0 ∙ ap decimal e3 in
    (rw (ta, tb, tc, td) refl, omega (arith, n-is, ha.1, hb.1, hc.1, hd.1))

parts_of_address : (parts : List (List ℕ)) (n : ℕ) → address_of_parts parts ≡ Some n → (parts ≡ map decimal (to_be_bytes w32 n)) × (n < 2 ^ 32)
parts_of_address [] n e = absurd (none-some n e)
parts_of_address (a ∷ []) n e = absurd (none-some n e)
parts_of_address (a ∷ b ∷ []) n e = absurd (none-some n e)
parts_of_address (a ∷ b ∷ c ∷ []) n e = absurd (none-some n e)
parts_of_address (a ∷ b ∷ c ∷ d ∷ []) n e =
    option_and_then_some (λ (w : ℕ). option_and_then (λ (x : ℕ). option_and_then (λ (y : ℕ). option_and_then (λ (z : ℕ). Some (from_be_bytes w32 (w ∷ x ∷ y ∷ z ∷ []))) (octet_of d)) (octet_of c)) (octet_of b)) (octet_of a) n e
    (λ w ea ra. option_and_then_some (λ (x : ℕ). option_and_then (λ (y : ℕ). option_and_then (λ (z : ℕ). Some (from_be_bytes w32 (w ∷ x ∷ y ∷ z ∷ []))) (octet_of d)) (octet_of c)) (octet_of b) n ra
    (λ x eb rb. option_and_then_some (λ (y : ℕ). option_and_then (λ (z : ℕ). Some (from_be_bytes w32 (w ∷ x ∷ y ∷ z ∷ []))) (octet_of d)) (octet_of c) n rb
    (λ y ec rc. option_and_then_some (λ (z : ℕ). Some (from_be_bytes w32 (w ∷ x ∷ y ∷ z ∷ []))) (octet_of d) n rc
    (λ z ed rd. four_numbers a b c d w x y z n ea eb ec ed rd))))
parts_of_address (a ∷ b ∷ c ∷ d ∷ f ∷ more) n e = absurd (none-some n e)

pub address_of-Some : (text : List ℕ) (n : ℕ) → address_of text ≡ Some n → (text ≡ address_text n) × (n < 2 ^ 32)
address_of-Some text n e =
    let p = parts_of_address (slice_split (λ x. eqb x dot) text) n e in
    (sym (join_with_byte-slice_split dot text) ∙ ap (join_with_byte dot) p.0, p.1)

-- a number's text and a dot come off the front
off_front : (n : ℕ) (rest : List ℕ) → n < 256 → slice_split (λ x. eqb x dot) (decimal n ++ dot ∷ rest) ≡ decimal n ∷ slice_split (λ x. eqb x dot) rest
off_front n rest lt = slice_split_at _ (decimal n) dot rest (decimal_apart dot n (λ p q. omega arith) (omega arith)) refl

pub address_parts : (n : ℕ) → slice_split (λ x. eqb x dot) (address_text n) ≡ map decimal (to_be_bytes w32 n)
address_parts n =
    let a = n / 16777216 % 256 in
    let b = n / 65536 % 256 in
    let c = n / 256 % 256 in
    let d = n % 256 in
    off_front a (decimal b ++ dot ∷ (decimal c ++ dot ∷ decimal d)) (omega arith)
    ∙ ap (λ (parts : List (List ℕ)). decimal a ∷ parts) (off_front b (decimal c ++ dot ∷ decimal d) (omega arith))
    ∙ ap (λ (parts : List (List ℕ)). decimal a ∷ decimal b ∷ parts) (off_front c (decimal d) (omega arith))
    ∙ ap (λ (parts : List (List ℕ)). decimal a ∷ decimal b ∷ decimal c ∷ parts) (slice_split_none _ (decimal d) (decimal_apart dot d (λ p q. omega arith) (omega arith)))

pub address_of-text : (n : ℕ) → n < 2 ^ 32 → address_of (address_text n) ≡ Some n
address_of-text n fits =
    ap address_of_parts (address_parts n)
    ∙ rw (octet_of-decimal (n / 16777216 % 256) (omega arith), octet_of-decimal (n / 65536 % 256) (omega arith), octet_of-decimal (n / 256 % 256) (omega arith), octet_of-decimal (n % 256) (omega arith))
    (ap Some (from_be_bytes-to_be_bytes_4 n fits))

pub found_address : (text : List ℕ) (r : Option ℕ) → r ≡ address_of text → IfSome r (λ a. text ≡ address_text a)
found_address text None e = tt
found_address text (Some a) e = (address_of-Some text a (sym e)).0

pub no_address : (text : List ℕ) (r : Option ℕ) → r ≡ address_of text → IfNone r ((a : ℕ) → a < 2 ^ 32 → text ≡ address_text a → ⊥)
no_address text (Some a) e = tt
no_address text None e = λ a fits is. none-some a (e ∙ ap address_of is ∙ address_of-text a fits)
