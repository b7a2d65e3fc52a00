-- The texts of prefixes are read as those, and no others are.
use Rattle.std.proofs.Common.{◌≡◌, ℕ, ◌/◌, ◌%◌, ◌<◌, ◌≤◌, false, eqb, leb, All, List, [], ◌∷◌, ◌++◌, Option, Some, None, refl, sym, ap, ◌∙◌, arith}
use Rattle.std.specs.Prelude.{IfSome, IfNone, option_and_then}
use Rattle.std.specs.Fmt.{decimal}
use Rattle.std.specs.List.{slice_split, join_with_byte}
use Rattle.std.proofs.lemmas.Bool.{le-leb, leb-true}
use Rattle.std.proofs.lemmas.List.Elements.{All-append, All-cons}
use Rattle.std.proofs.lemmas.List.Splits.{slice_split_none, slice_split_at, join_with_byte-slice_split}
use Rattle.std.proofs.lemmas.Option.{cond_some, none-some, option_and_then_some}
use Rattle.rcp_base.specs.IpPrefix.{IpPrefix, IsPrefix, masked, prefix_of}
use Rattle.rcp_base.specs.Text.{dot, slash, address_text, prefix_text, number_of, address_of, prefix_of_parts, prefix_of_text, SpellsPrefix}
use Rattle.rcp_base.proofs.TextLemmas.{number_of-decimal, number_of-Some, number_of-digits}
use Rattle.rcp_base.proofs.AddressLemmas.{apart, decimal_apart, address_of-text, address_of-Some}

abbrev two : Option ℕ → Option ℕ → Option IpPrefix
two a l = option_and_then (λ addr. option_and_then (λ len. prefix_of addr len) l) a

two-None : (a : Option ℕ) → two a None ≡ None
two-None None = refl
two-None (Some a) = refl

-- no slash stands in a number, so the second of two parts is all that follows the first slash
no_number_last : (a l : List ℕ) (parts : List (List ℕ)) → number_of l ≡ None → join_with_byte slash parts ≡ l → prefix_of_parts (a ∷ parts) ≡ None
no_number_last a l [] none e = refl
no_number_last a l (x ∷ []) none e = ap (two (address_of a)) (ap number_of e ∙ none) ∙ two-None (address_of a)
no_number_last a l (x ∷ y ∷ parts) none e = refl

last_part : (a l : List ℕ) (o : Option ℕ) → number_of l ≡ o → prefix_of_parts (a ∷ slice_split (λ x. eqb x slash) l) ≡ prefix_of_parts (a ∷ l ∷ [])
last_part a l None e =
    no_number_last a l (slice_split (λ x. eqb x slash) l) e (join_with_byte-slice_split slash l)
    ∙ sym (ap (two (address_of a)) e ∙ two-None (address_of a))
last_part a l (Some n) e =
    ap (λ (parts : List (List ℕ)). prefix_of_parts (a ∷ parts)) (slice_split_none _ l (apart slash l (λ p q. omega arith) (number_of-digits l n e)))

pub prefix_by_split : (text a l : List ℕ) (o : Option IpPrefix) → slice_split (λ x. eqb x slash) text ≡ a ∷ slice_split (λ x. eqb x slash) l → o ≡ prefix_of_parts (a ∷ l ∷ []) → o ≡ prefix_of_text text
prefix_by_split text a l o split is = is ∙ sym (last_part a l (number_of l) refl) ∙ ap prefix_of_parts (sym split)

prefix_of_len : (a l : ℕ) (p : IpPrefix) → prefix_of a l ≡ Some p → l ≤ 32
prefix_of_len a l p e = leb-true l 32 (cond_some (leb l 32) (record { addr = masked a l; len = l }) p e).0

parts_of_prefix : (parts : List (List ℕ)) (p : IpPrefix) → prefix_of_parts parts ≡ Some p → SpellsPrefix (join_with_byte slash parts) p
parts_of_prefix [] p e = absurd (none-some p e)
parts_of_prefix (a ∷ []) p e = absurd (none-some p e)
parts_of_prefix (a ∷ l ∷ []) p e =
    option_and_then_some (λ (addr : ℕ). option_and_then (λ (len : ℕ). prefix_of addr len) (number_of l)) (address_of a) p e
    (λ addr ea ra. option_and_then_some (λ (len : ℕ). prefix_of addr len) (number_of l) p ra
    (λ len el rl.
    let ta = address_of-Some a addr ea in
    let tl = number_of-Some l len el in
    record { addr = addr; len = len; fits = ta.1; spelled = rw (ta.0, tl.0) refl; prefix = rl }))
parts_of_prefix (a ∷ l ∷ x ∷ more) p e = absurd (none-some p e)

prefix_of_text-Some : (text : List ℕ) (p : IpPrefix) → prefix_of_text text ≡ Some p → SpellsPrefix text p
prefix_of_text-Some text p e = rw join_with_byte-slice_split at (parts_of_prefix (slice_split (λ x. eqb x slash) text) p e)

abbrev NotSlash : ℕ → Type 0
NotSlash x = eqb x slash ≡ false

number_and_dot : (n : ℕ) (rest : List ℕ) → n < 256 → All NotSlash rest → All NotSlash (decimal n ++ dot ∷ rest)
number_and_dot n rest lt h = All-append NotSlash (decimal n) (dot ∷ rest) (decimal_apart slash n (λ p q. omega arith) (omega arith)) (All-cons NotSlash dot rest refl h)

address_apart : (a : ℕ) → All NotSlash (address_text a)
address_apart a =
    number_and_dot (a / 16777216 % 256) _ (omega arith)
    (number_and_dot (a / 65536 % 256) _ (omega arith)
    (number_and_dot (a / 256 % 256) _ (omega arith)
    (decimal_apart slash (a % 256) (λ p q. omega arith) (omega arith))))

pub prefix_of_text-spelled : (text : List ℕ) (p : IpPrefix) → SpellsPrefix text p → prefix_of_text text ≡ Some p
prefix_of_text-spelled text p h =
    let le = prefix_of_len h.addr h.len p h.prefix in
    let split = slice_split_at (λ x. eqb x slash) (address_text h.addr) slash (decimal h.len) (address_apart h.addr) refl
    ∙ ap (λ (parts : List (List ℕ)). address_text h.addr ∷ parts) (slice_split_none _ (decimal h.len) (decimal_apart slash h.len (λ p q. omega arith) (omega arith))) in
    ap prefix_of_text h.spelled ∙ ap prefix_of_parts split
    ∙ ap (λ (o : Option ℕ). two o (number_of (decimal h.len))) (address_of-text h.addr h.fits)
    ∙ ap (two (Some h.addr)) (number_of-decimal h.len (omega arith))
    ∙ h.prefix

pub prefix_of_text-text : (p : IpPrefix) → IsPrefix p → prefix_of_text (prefix_text p) ≡ Some p
prefix_of_text-text p form =
    let short = le-leb _ _ form.len in
    let made : prefix_of p.addr p.len ≡ Some p = rw (short, form.rest_is_zero) refl in
    prefix_of_text-spelled (prefix_text p) p (record { addr = p.addr; len = p.len; fits = form.addr; spelled = refl; prefix = made })

pub found_prefix : (text : List ℕ) (r : Option IpPrefix) → r ≡ prefix_of_text text → IfSome r (SpellsPrefix text)
found_prefix text None e = tt
found_prefix text (Some p) e = prefix_of_text-Some text p (sym e)

pub no_prefix : (text : List ℕ) (r : Option IpPrefix) → r ≡ prefix_of_text text → IfNone r ((p : IpPrefix) → SpellsPrefix text p → ⊥)
no_prefix text (Some p) e = tt
no_prefix text None e = λ p h. none-some p (e ∙ prefix_of_text-spelled text p h)
