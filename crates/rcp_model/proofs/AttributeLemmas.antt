-- Attributes in octets: that each is read from its own octets alone, and that one that is written is read again.
use Rattle.std.proofs.Common.{◌≡◌, ℕ, ◌+◌, ◌%◌, ◌<◌, ◌≤◌, Bool, true, false, cond, ⊎_elim, List, [], ◌∷◌, ◌++◌, length, map, take, drop, Some, refl, sym, ap, ◌∙◌, subst, arith, leb, eq-eqb, ne_eqb, le-leb, leb-true, length-append, length-drop}
use Rattle.std.specs.Prelude.{slice_index}
use Rattle.std.specs.List.{All, AllByRecursion}
use Rattle.std.proofs.lemmas.List.Elements.{All-take, All-drop}
use Rattle.std.specs.Int.{w16, to_be_bytes}
use Rattle.std.proofs.lemmas.Bool.{and_parts, cases_Bool}
use Rattle.std.proofs.lemmas.List.{take-append-le, drop-append-le, get_or_append_left}
use Rattle.std.proofs.lemmas.Nat.{from_be_bytes-to_be_bytes_2}
use Rattle.std.proofs.lemmas.Option.{cond_some}
use Rattle.rcp_model.specs.Attributes.{Attribute, is_extended, value_place, value_length, attribute_size, attribute_of, attributes_in, attribute_octets}
use Rattle.rcp_base.proofs.CutLemmas.{IsSize, IsLocal, IsFront, cut-pieces, cut-All}
use Rattle.rcp_base.proofs.OctetLemmas.{octet-fits, two_octets-fit}
use Rattle.rcp_base.specs.Cut.{cut}

-- ---- where the value stands

value_place_from : (extended : Bool) (octets : List ℕ) → is_extended (slice_index octets 0) ≡ extended → value_place octets ≡ cond extended 4 3
value_place_from extended octets e = rw e refl

value_place-least : (extended : Bool) (octets : List ℕ) → is_extended (slice_index octets 0) ≡ extended → 3 ≤ value_place octets
value_place-least true octets e = omega (arith, value_place_from true octets e)
value_place-least false octets e = omega (arith, value_place_from false octets e)

pub value_place-append : (octets more : List ℕ) → 0 < length octets → value_place (octets ++ more) ≡ value_place octets
value_place-append octets more some = let first : slice_index (octets ++ more) 0 ≡ slice_index octets 0 = get_or_append_left octets more 0 0 some in rw first refl

value_length_append : (extended : Bool) (octets more : List ℕ) → is_extended (slice_index octets 0) ≡ extended → value_place octets ≤ length octets → value_length (octets ++ more) ≡ value_length octets
value_length_append true octets more e within =
    let place = value_place_from true octets e in
    let first : slice_index (octets ++ more) 0 ≡ slice_index octets 0 = get_or_append_left octets more 0 0 (omega arith) in
    let two : take 2 (drop 2 (octets ++ more)) ≡ take 2 (drop 2 octets) = ap (take 2) (drop-append-le 2 octets more (omega arith)) ∙ take-append-le 2 (drop 2 octets) more (omega (arith, length-drop 2 octets)) in
    rw (first, e, two) refl
value_length_append false octets more e within =
    let place = value_place_from false octets e in
    let first : slice_index (octets ++ more) 0 ≡ slice_index octets 0 = get_or_append_left octets more 0 0 (omega arith) in
    let third : slice_index (octets ++ more) 2 ≡ slice_index octets 2 = get_or_append_left octets more 0 2 (omega arith) in
    rw (first, e, third) refl

pub value_length-append : (octets more : List ℕ) → value_place octets ≤ length octets → value_length (octets ++ more) ≡ value_length octets
value_length-append octets more within = value_length_append (is_extended (slice_index octets 0)) octets more refl within

-- ---- whole attributes

-- exactly the octets of one attribute
pub record IsAttribute (piece : List ℕ) : Type 0 where
  pub has_head : value_place piece ≤ length piece
  pub exact : length piece ≡ value_place piece + value_length piece

pub record HasAttribute (octets : List ℕ) (n : ℕ) : Type 0 where
  pub has_head : value_place octets ≤ length octets
  pub is_length : n ≡ value_place octets + value_length octets
  pub within : n ≤ length octets

pub attribute_size-Some : (octets : List ℕ) (n : ℕ) → attribute_size octets ≡ Some n → HasAttribute octets n
unfolding attribute_size
attribute_size-Some octets n e =
    let chosen = cond_some _ (value_place octets + value_length octets) n e in
    let tests = and_parts (leb (value_place octets) (length octets)) (leb (value_place octets + value_length octets) (length octets)) chosen.0 in
    record { has_head = leb-true _ _ tests.0; is_length = sym chosen.1; within = omega (arith, chosen.1, leb-true _ _ tests.1) }

pub attribute_size-from : (octets : List ℕ) → value_place octets ≤ length octets → value_place octets + value_length octets ≤ length octets → attribute_size octets ≡ Some (value_place octets + value_length octets)
unfolding attribute_size
attribute_size-from octets head all =
    let first : leb (value_place octets) (length octets) ≡ true = le-leb _ _ head in
    let second : leb (value_place octets + value_length octets) (length octets) ≡ true = le-leb _ _ all in
    rw (first, second) refl

pub IsSize-attribute_size : IsSize attribute_size
IsSize-attribute_size = record {
  positive = λ octets n e. let there = attribute_size-Some octets n e in omega (arith, there.is_length, value_place-least _ octets refl);
  within = λ octets n e. (attribute_size-Some octets n e).within;
}

pub IsFront-attribute : (piece : List ℕ) → IsAttribute piece → IsFront attribute_size piece
IsFront-attribute piece whole = record {
  seen = λ more.
      let head : value_place piece ≤ length piece = whole.has_head in
      let some : 0 < length piece = omega (arith, head, value_place-least _ piece refl) in
      let place = value_place-append piece more some in
      let value = value_length-append piece more head in
      let all : value_place (piece ++ more) + value_length (piece ++ more) ≡ length piece = omega (arith, place, value, whole.exact) in
      attribute_size-from (piece ++ more) (omega (arith, place, head, length-append piece more)) (omega (arith, all, length-append piece more)) ∙ ap Some all;
}

pub IsAttribute-seen : (piece more : List ℕ) → attribute_size (piece ++ more) ≡ Some (length piece) → IsAttribute piece
IsAttribute-seen piece more e =
    let there = attribute_size-Some (piece ++ more) (length piece) e in
    let some : 0 < length piece = omega (arith, there.is_length, value_place-least _ (piece ++ more) refl) in
    let place = value_place-append piece more some in
    let head : value_place piece ≤ length piece = omega (arith, there.is_length, place) in
    record { has_head = head; exact = omega (arith, there.is_length, place, value_length-append piece more head) }

pub IsLocal-attribute_size : IsLocal attribute_size
IsLocal-attribute_size = record { anyway = λ piece more other e. (IsFront-attribute piece (IsAttribute-seen piece more e)).seen other }

-- ---- attributes that are read

-- of octets, a value has less than 65,536
value_length_fits : (extended : Bool) (piece : List ℕ) → is_extended (slice_index piece 0) ≡ extended → All (λ o. o < 256) piece → value_length piece < 65536
value_length_fits true piece e all = rw e (two_octets-fit (take 2 (drop 2 piece)) (All-take (λ o. o < 256) 2 (drop 2 piece) (All-drop (λ o. o < 256) 2 piece all)))
value_length_fits false piece e all = rw e (omega (arith, octet-fits piece all 2))

value-fits : (piece : List ℕ) → IsAttribute piece → All (λ o. o < 256) piece → length (attribute_of piece).value < 65536
value-fits piece whole all = omega (arith, length-drop (value_place piece) piece, whole.exact, value_length_fits _ piece refl all)

abbrev pub IsShort : Attribute → Type 0
IsShort a = length a.value < 65536

all_short : (pieces : List (List ℕ)) → AllByRecursion (λ piece. (more : List ℕ) × (attribute_size (piece ++ more) ≡ Some (length piece))) pieces → AllByRecursion (All (λ o. o < 256)) pieces
    → AllByRecursion IsShort (map attribute_of pieces)
all_short [] seen all = tt
all_short (piece ∷ pieces) seen all = (value-fits piece (IsAttribute-seen piece seen.0.0 seen.0.1) all.0, all_short pieces seen.1 all.1)

pub IsShort-attributes_in : (octets : List ℕ) → All (λ o. o < 256) octets → AllByRecursion IsShort (attributes_in octets)
IsShort-attributes_in octets all =
    all_short (cut attribute_size octets).0 (cut-pieces attribute_size IsSize-attribute_size octets) (cut-All attribute_size IsSize-attribute_size (λ o. o < 256) octets all)

-- what an attribute of octets keeps
pub record HasOctets (a : Attribute) : Type 0 where
  pub kind : a.kind < 256
  pub value : All (λ o. o < 256) a.value

of_octets : (pieces : List (List ℕ)) → AllByRecursion (All (λ o. o < 256)) pieces → AllByRecursion HasOctets (map attribute_of pieces)
of_octets [] all = tt
of_octets (piece ∷ pieces) all = (record { kind = octet-fits piece all.0 1; value = All-drop (λ o. o < 256) (value_place piece) piece all.0 }, of_octets pieces all.1)

pub HasOctets-attributes_in : (octets : List ℕ) → All (λ o. o < 256) octets → AllByRecursion HasOctets (attributes_in octets)
HasOctets-attributes_in octets all = of_octets (cut attribute_size octets).0 (cut-All attribute_size IsSize-attribute_size (λ o. o < 256) octets all)

-- ---- an attribute that is written

-- as it is read again: a value of more than 255 octets sets the flag of the length
abbrev pub read_back : Attribute → Attribute
read_back a = cond (leb (length a.value) 255) a (record a { flags = a.flags + 16 })

extended_behind : (flags : ℕ) → flags % 32 ≡ 0 → is_extended (flags + 16) ≡ true
extended_behind flags plain = eq-eqb _ _ (omega arith)

not_extended : (flags : ℕ) → flags % 32 ≡ 0 → is_extended flags ≡ false
not_extended flags plain = ne_eqb _ _ (λ e. omega arith)

module _ (a : Attribute) (plain : a.flags % 32 ≡ 0) where
  abbrev short_octets : List ℕ
  short_octets = a.flags ∷ a.kind ∷ length a.value ∷ a.value

  abbrev long_octets : List ℕ
  long_octets = (a.flags + 16) ∷ a.kind ∷ (to_be_bytes w16 (length a.value) ++ a.value)

  attribute_octets-short : leb (length a.value) 255 ≡ true → attribute_octets a ≡ short_octets
  unfolding attribute_octets
  attribute_octets-short e = rw e refl

  attribute_octets-long : leb (length a.value) 255 ≡ false → attribute_octets a ≡ long_octets
  unfolding attribute_octets
  attribute_octets-long e = rw e refl

  short_place : value_place short_octets ≡ 3
  short_place = let e : is_extended a.flags ≡ false = not_extended a.flags plain in rw e refl

  short_length : value_length short_octets ≡ length a.value
  short_length = let e : is_extended a.flags ≡ false = not_extended a.flags plain in rw e refl

  long_place : value_place long_octets ≡ 4
  long_place = let e : is_extended (a.flags + 16) ≡ true = extended_behind a.flags plain in rw e refl

  long_length : length a.value < 65536 → value_length long_octets ≡ length a.value
  long_length fits = let e : is_extended (a.flags + 16) ≡ true = extended_behind a.flags plain in rw e (from_be_bytes-to_be_bytes_2 (length a.value) fits)

  pub IsAttribute-attribute_octets : length a.value < 65536 → IsAttribute (attribute_octets a)
  IsAttribute-attribute_octets fits = ⊎_elim
      (λ (e : leb (length a.value) 255 ≡ true). subst IsAttribute (sym (attribute_octets-short e)) (record { has_head = omega (arith, short_place); exact = omega (arith, short_place, short_length) }))
      (λ (e : leb (length a.value) 255 ≡ false). subst IsAttribute (sym (attribute_octets-long e)) (record { has_head = omega (arith, long_place); exact = omega (arith, long_place, long_length fits) }))
      (cases_Bool (leb (length a.value) 255))

  pub attribute_of-attribute_octets : attribute_of (attribute_octets a) ≡ read_back a
  attribute_of-attribute_octets = ⊎_elim
      (λ (e : leb (length a.value) 255 ≡ true). ap attribute_of (attribute_octets-short e) ∙ rw (e, short_place) refl)
      (λ (e : leb (length a.value) 255 ≡ false). ap attribute_of (attribute_octets-long e) ∙ rw (e, long_place) refl)
      (cases_Bool (leb (length a.value) 255))
