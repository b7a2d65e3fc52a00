-- What lists of attributes without a fault have: types that differ, and written octets that are no more than were read.
use Rattle.std.proofs.Common.{◌≡◌, ℕ, zero, suc, ◌+◌, ◌<◌, ◌≤◌, Bool, true, false, cond, eqb, leb, List, [], ◌∷◌, length, take, drop, map, Option, Some, None, refl, sym, ap, ◌∙◌, ◌⊎◌, inl, inr, length-append, arith}
use Rattle.std.specs.Prelude.{slice_index, if◌then◌else◌}
use Rattle.std.specs.List.{list_any, concat, AllByRecursion}
use Rattle.std.proofs.lemmas.Bool.{cases_Bool, cases_lt, cases_eq, and_parts, le-leb, lt-leb, eqb-true, eqb-false, false≢true}
use Rattle.std.proofs.lemmas.Bool.Decides.{nat_tests}
use Rattle.std.proofs.lemmas.List.{length-take, length-drop}
use Rattle.rcp_base.specs.Cut.{cut}
use Rattle.rcp_model.specs.Messages.{FaultOf, fault}
use Rattle.rcp_model.specs.Attributes as model
use Rattle.rcp_model.specs.Attributes.{Attribute, attribute_of, attribute_size, attributes_in, attribute_fault, attribute_octets, list_fault, or_else, insert_by_type, by_type, is_kept, written, number_width}
use Rattle.path_attrs.specs.Shown.{header_octets}
use Rattle.path_attrs.specs.Lists.{types_rise_from, types_rise, octets_of, IsKept}
use Rattle.path_attrs.specs.Readings.{passed_on, sent_on}
use Rattle.path_attrs.proofs.Cutting.{IsBytes, IsBytes-take, IsBytes-drop, each_piece, whole_cut}
use Rattle.path_attrs.proofs.Judging.{sized, three, value_place-bounds}
use Rattle.path_attrs.proofs.Types.{has_kind, has_kind-by_type, has_kind-passed_on, insert-below, insert-above, neither}
use Rattle.path_attrs.proofs.Written.{attribute_octets-parts}

-- ---- types that differ

abbrev pub Distinct : List Attribute → Type 0
Distinct [] = Unit {0}
Distinct (a ∷ xs) = (has_kind a.kind xs ≡ false) × Distinct xs

-- attributes in order of type, with one more of a new type
rises-insert : (low : ℕ) (a : Attribute) (bs : List Attribute) → types_rise_from low bs ≡ true → low ≤ a.kind → has_kind a.kind bs ≡ false → types_rise_from low (insert_by_type a bs) ≡ true
rises-insert low a [] up le fresh = let one : leb low a.kind ≡ true = le-leb _ _ le in rw one refl
rises-insert low a (b ∷ bs) up le fresh =
    let parts = and_parts (leb low b.kind) (types_rise_from (b.kind + 1) bs) up in
    let new = neither (eqb b.kind a.kind) (has_kind a.kind bs) fresh in
    elim (cases_lt b.kind a.kind) [
      | inl lt ↦ ap (types_rise_from low) (insert-below a b bs lt) ∙ rw parts.0 (rises-insert (b.kind + 1) a bs parts.1 (omega arith) new.1)
      | inr ge ↦
          (let apart = eqb-false b.kind a.kind new.0 in
          let first : leb low a.kind ≡ true = le-leb _ _ le in
          let second : leb (a.kind + 1) b.kind ≡ true = le-leb _ _ (omega arith) in
          ap (types_rise_from low) (insert-above a b bs ge) ∙ rw (first, second) parts.1)
    ]

rises-by_type : (xs : List Attribute) → Distinct xs → types_rise (by_type xs) ≡ true
rises-by_type [] apart = refl
rises-by_type (a ∷ xs) apart = rises-insert 0 a (by_type xs) (rises-by_type xs apart.1) (omega arith) (has_kind-by_type a.kind xs ∙ apart.0)

Distinct-passed_on : (xs : List Attribute) → Distinct xs → Distinct (passed_on xs)
Distinct-passed_on [] apart = tt
Distinct-passed_on (a ∷ xs) apart = elim (cases_Bool (is_kept a)) [
  | inl kept ↦ rw kept (has_kind-passed_on a.kind xs apart.0, Distinct-passed_on xs apart.1)
  | inr dropped ↦ rw dropped (Distinct-passed_on xs apart.1)
]

pub rises-sent_on : (xs : List Attribute) → Distinct xs → types_rise (sent_on xs) ≡ true
rises-sent_on xs apart = rises-by_type (passed_on xs) (Distinct-passed_on xs apart)

-- ---- what a list without a fault says

first_none : (first second : Option FaultOf) → or_else first second ≡ None → (first ≡ None) × (second ≡ None)
first_none None second none = (refl, none)
first_none (Some f) second none = absurd cc

cond_none : {X : Type 0} (b : Bool) (x : X) (o : Option X) → cond b (Some x) o ≡ None → (b ≡ false) × (o ≡ None)
cond_none true x o none = absurd cc
cond_none false x o none = (refl, none)

-- an attribute without a fault is of a new type
new_type : (kinds piece : List ℕ) → attribute_fault number_width kinds piece ≡ None → list_any (λ k. eqb k (slice_index piece 1)) kinds ≡ false
unfolding attribute_fault
new_type kinds piece none = (cond_none _ _ _ none).0

-- a list without a fault: each attribute has none, after those before it, and nothing is left
abbrev pub Faultless : List ℕ → List (List ℕ) → Type 0
Faultless kinds [] = Unit {0}
Faultless kinds (piece ∷ pieces) = (attribute_fault number_width kinds piece ≡ None) × Faultless (slice_index piece 1 ∷ kinds) pieces

pub faultless_list : (kinds : List ℕ) (pieces : List (List ℕ)) (rest : List ℕ) → list_fault number_width kinds pieces rest ≡ None → Faultless kinds pieces × (length rest ≡ 0)
unfolding list_fault
faultless_list kinds [] rest none = (tt, nothing (eqb (length rest) 0) refl none)
  where
    nothing : (b : Bool) → eqb (length rest) 0 ≡ b → cond b None (Some (fault 3 1 [])) ≡ None → length rest ≡ 0
    nothing true is none' = eqb-true _ _ is
    nothing false is none' = absurd cc
faultless_list kinds (piece ∷ pieces) rest none =
    let parts = first_none (attribute_fault number_width kinds piece) (list_fault number_width (slice_index piece 1 ∷ kinds) pieces rest) none in
    let others = faultless_list (slice_index piece 1 ∷ kinds) pieces rest parts.1 in
    ((parts.0, others.0), others.1)

-- no type that has come stands in what is left
apart_from : (kinds : List ℕ) (pieces : List (List ℕ)) → Faultless kinds pieces → (kind : ℕ) → list_any (λ k. eqb k kind) kinds ≡ true → has_kind kind (map attribute_of pieces) ≡ false
apart_from kinds [] ok kind there = refl
apart_from kinds (piece ∷ pieces) ok kind there =
    let fresh = new_type kinds piece ok.0 in
    elim (cases_eq (slice_index piece 1) kind) [
      | inl same ↦ absurd (false≢true (sym fresh ∙ ap (λ (n : ℕ). list_any (λ k. eqb k n) kinds) same ∙ there))
      | inr other ↦
          (let differs : eqb (slice_index piece 1) kind ≡ false = grind (arith, nat_tests) in
          rw differs (apart_from (slice_index piece 1 ∷ kinds) pieces ok.1 kind (rw (there, differs) refl)))
    ]

pub distinct : (kinds : List ℕ) (pieces : List (List ℕ)) → Faultless kinds pieces → Distinct (map attribute_of pieces)
distinct kinds [] ok = tt
distinct kinds (piece ∷ pieces) ok =
    let here : eqb (slice_index piece 1) (slice_index piece 1) ≡ true = grind (arith, nat_tests) in
    (apart_from (slice_index piece 1 ∷ kinds) pieces ok.1 (slice_index piece 1) (rw here refl), distinct (slice_index piece 1 ∷ kinds) pieces ok.1)

-- ---- how long attributes are

-- octets that are a whole attribute
pub record IsPiece (piece : List ℕ) : Type 0 where
  pub whole : attribute_size piece ≡ Some (length piece)
  pub octets : IsBytes piece

-- the header of an attribute stands in its own octets
header_in : (octets : List ℕ) (len : ℕ) → model.value_place octets ≤ len → len ≤ length octets
    → (model.value_place (take len octets) ≡ model.value_place octets) × (model.value_length (take len octets) ≡ model.value_length octets)
header_in (a ∷ b ∷ c ∷ d ∷ xs) (suc (suc (suc (suc n)))) header fits = (refl, refl)
header_in (a ∷ b ∷ c ∷ xs) (suc (suc (suc zero))) header fits = three_octets (model.is_extended a) refl
  where
    three_octets : (long : Bool) → model.is_extended a ≡ long
        → (model.value_place (a ∷ b ∷ c ∷ []) ≡ model.value_place (a ∷ b ∷ c ∷ xs)) × (model.value_length (a ∷ b ∷ c ∷ []) ≡ model.value_length (a ∷ b ∷ c ∷ xs))
    three_octets true is = absurd (let four : model.value_place (a ∷ b ∷ c ∷ xs) ≡ 4 = rw is refl in omega arith)
    three_octets false is = rw is (refl, refl)
header_in (a ∷ b ∷ c ∷ []) (suc (suc (suc (suc n)))) header fits = absurd (omega arith)
header_in octets zero header fits = absurd (omega (arith, value_place-bounds octets))
header_in octets (suc zero) header fits = absurd (omega (arith, value_place-bounds octets))
header_in octets (suc (suc zero)) header fits = absurd (omega (arith, value_place-bounds octets))
header_in [] (suc (suc (suc n))) header fits = absurd (omega arith)
header_in (a ∷ []) (suc (suc (suc n))) header fits = absurd (omega arith)
header_in (a ∷ b ∷ []) (suc (suc (suc n))) header fits = absurd (omega arith)

pub piece_is : (octets : List ℕ) (len : ℕ) → IsBytes octets → attribute_size octets ≡ Some len → IsPiece (take len octets)
unfolding attribute_size
piece_is octets len bytes some =
    let size = sized octets len some in
    let header : model.value_place octets ≤ len = omega (arith, size.len_is) in
    let same = header_in octets len header size.fits in
    let long : length (take len octets) ≡ len = omega (arith, length-take len octets, size.fits) in
    let head : leb (model.value_place octets) len ≡ true = le-leb _ _ header in
    let body : leb (model.value_place octets + model.value_length octets) len ≡ true = le-leb _ _ (omega (arith, size.len_is)) in
    record {
      whole = rw (same.0, same.1, long, head, body) (ap (λ (n : ℕ). Some n) (sym size.len_is));
      octets = IsBytes-take len octets bytes;
    }

-- how long the value of a whole attribute is
value_long : (piece : List ℕ) → IsPiece piece → length (attribute_of piece).value ≡ model.value_length piece
value_long piece is = omega (arith, (sized piece (length piece) is.whole).len_is, length-drop (model.value_place piece) piece)

-- a length has two octets, or one, which is below 256
header_kinds : (piece : List ℕ) → IsPiece piece → ((model.value_place piece ≡ 4) × (model.value_length piece < 65536)) ⊎ ((model.value_place piece ≡ 3) × (model.value_length piece < 256))
header_kinds piece is =
    let two = IsBytes-take 2 (drop 2 piece) (IsBytes-drop 2 piece is.octets) in
    elim (cases_Bool (model.is_extended (slice_index piece 0))) [
      | inl long ↦ inl (rw long (refl, omega (arith, two 0, two 1)))
      | inr short ↦ inr (rw short (refl, is.octets 2))
    ]

pub value_short : (piece : List ℕ) → IsPiece piece → length (attribute_of piece).value < 65536
value_short piece is =
    let long = value_long piece is in
    elim (header_kinds piece is) [
      | inl two ↦ omega (arith, two.1)
      | inr one ↦ omega (arith, one.1)
    ]

header_long : (flags kind len : ℕ) → length (header_octets flags kind len) ≡ (if leb len 255 then 3 else 4)
header_long flags kind len = elim (cases_Bool (leb len 255)) [
  | inl short ↦ rw short refl
  | inr long ↦ rw long refl
]

pub attribute_long : (a : Attribute) → length (attribute_octets a) ≡ (if leb (length a.value) 255 then 3 else 4) + length a.value
attribute_long a =
    ap length (attribute_octets-parts a) ∙ length-append (header_octets a.flags a.kind (length a.value)) a.value
    ∙ ap (λ (n : ℕ). n + length a.value) (header_long a.flags a.kind (length a.value))

-- the written octets of an attribute are no more than those that were read
written_long : (piece : List ℕ) → IsPiece piece → length (attribute_octets (written (attribute_of piece))) ≤ length piece
written_long piece is =
    let v = length (attribute_of piece).value in
    let long = value_long piece is in
    let all = (sized piece (length piece) is.whole).len_is in
    let mine = attribute_long (written (attribute_of piece)) in
    elim (cases_lt 255 v) [
      | inl over ↦
          (let test : leb v 255 ≡ false = lt-leb _ _ over in
          let four : length (attribute_octets (written (attribute_of piece))) ≡ 4 + v = mine ∙ rw test refl in
          elim (header_kinds piece is) [
            | inl two ↦ omega (arith, two.0)
            | inr one ↦ absurd (omega (arith, one.1))
          ])
      | inr under ↦
          (let test : leb v 255 ≡ true = le-leb _ _ under in
          let three_more : length (attribute_octets (written (attribute_of piece))) ≡ 3 + v = mine ∙ rw test refl in
          omega (arith, value_place-bounds piece))
    ]

-- ---- all attributes

pub length_insert : (a : Attribute) (bs : List Attribute) → length (octets_of (insert_by_type a bs)) ≡ length (attribute_octets a) + length (octets_of bs)
length_insert a [] = length-append (attribute_octets a) []
length_insert a (b ∷ bs) = elim (cases_lt b.kind a.kind) [
  | inl lt ↦
      (let e = ap (λ (xs : List Attribute). length (octets_of xs)) (insert-below a b bs lt) in
      omega (arith, e, length_insert a bs, length-append (attribute_octets b) (octets_of (insert_by_type a bs)), length-append (attribute_octets b) (octets_of bs)))
  | inr ge ↦
      ap (λ (xs : List Attribute). length (octets_of xs)) (insert-above a b bs ge) ∙ length-append (attribute_octets a) (octets_of (b ∷ bs))
]

length_by_type : (bs : List Attribute) → length (octets_of (by_type bs)) ≡ length (octets_of bs)
length_by_type [] = refl
length_by_type (b ∷ bs) = omega (arith, length_insert b (by_type bs), length_by_type bs, length-append (attribute_octets b) (octets_of bs))

length_passed_on : (pieces : List (List ℕ)) → AllByRecursion IsPiece pieces → length (octets_of (passed_on (map attribute_of pieces))) ≤ length (concat pieces)
length_passed_on [] are = omega arith
length_passed_on (piece ∷ pieces) are =
    let others = length_passed_on pieces are.1 in
    let mine = written_long piece are.0 in
    let joined = length-append piece (concat pieces) in
    elim (cases_Bool (is_kept (attribute_of piece))) [
      | inl kept ↦ rw kept (omega (arith, length-append (attribute_octets (written (attribute_of piece))) (octets_of (passed_on (map attribute_of pieces)))))
      | inr dropped ↦ rw dropped (omega arith)
    ]

pub pieces_are : (octets : List ℕ) → IsBytes octets → AllByRecursion IsPiece (cut attribute_size octets).0
pieces_are octets bytes = each_piece attribute_size IsPiece (λ xs n b some. piece_is xs n b some) octets bytes

-- what is sent on of a list without a fault is kept
pub sent_on-kept : (octets : List ℕ) → IsBytes octets → length octets ≤ 4073 → list_fault number_width [] (cut attribute_size octets).0 (cut attribute_size octets).1 ≡ None → IsKept (sent_on (attributes_in octets))
sent_on-kept octets bytes short none =
    let pieces = (cut attribute_size octets).0 in
    let ok = faultless_list [] (cut attribute_size octets).0 (cut attribute_size octets).1 none in
    let whole = whole_cut attribute_size (λ xs n some. (omega (arith, three xs n some), (sized xs n some).fits)) octets in
    record {
      rising = rises-sent_on (attributes_in octets) (distinct [] (cut attribute_size octets).0 ok.0);
      short = omega (arith, length_by_type (passed_on (attributes_in octets)), length_passed_on (cut attribute_size octets).0 (pieces_are octets bytes), ap length whole, length-append (concat (cut attribute_size octets).0) (cut attribute_size octets).1);
    }
