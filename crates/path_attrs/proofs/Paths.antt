-- Segments of an AS_PATH: what stands in front of the octets, read and judged.
use Rattle.std.proofs.Common.{◌≡◌, ℕ, suc, ◌+◌, ◌*◌, ◌-◌, ◌<◌, ◌≤◌, Bool, true, false, ◌||◌, inl, inr, not, eqb, leb, List, [], ◌∷◌, ◌++◌, length, get_or, take, drop, map, Some, None, refl, sym, ap, ◌∙◌, arith, length-append}
use Rattle.std.specs.Int.{from_be_bytes}
use Rattle.std.specs.List.{flat_map, list_any}
use Rattle.std.proofs.lemmas.List.{take_all, drop_at}
use Rattle.std.proofs.lemmas.Bool.{le-leb, lt-leb, cases_lt}
use Rattle.std.proofs.lemmas.Bool.Decides.{nat_tests}
use Rattle.std.specs.Prelude.{slice_index}
use Rattle.rcp_base.specs.Cut.{cut}
use Rattle.rcp_model.specs.Messages.{is_outside}
use Rattle.rcp_model.specs.Attributes.{number_size, numbers_in, segment_size, segment_of, segments_in, is_faulty_path, number_width}
use Rattle.path_attrs.specs.Width.{number_octets}
use Rattle.path_attrs.specs.declared.path.SegmentKind.{SegmentKind}
use Rattle.path_attrs.specs.declared.path.SegmentKind.TheVariants.{AsSet, AsSequence}
use Rattle.path_attrs.specs.Segments.{kind_octet}
use Rattle.path_attrs.proofs.Cutting.{cut-more, cut-none, cut-piece}

-- ---- numbers

front : (a b : ℕ) (rest : List ℕ) → numbers_in number_width (a ∷ b ∷ rest) ≡ from_be_bytes number_width (a ∷ b ∷ []) ∷ numbers_in number_width rest
unfolding number_size
front a b rest =
    let whole : leb 2 (length (a ∷ b ∷ rest)) ≡ true = le-leb _ _ (omega arith) in
    let more = cut-piece (number_size number_width) (a ∷ b ∷ []) rest (rw whole refl) (omega arith) in
    ap (λ (parts : List (List ℕ) × List ℕ). map (from_be_bytes number_width) parts.0) more

-- the number of the first octets, and then those of the others
pub numbers_in_front : (octets : List ℕ) (n : ℕ) → 2 ≤ length octets → n ≡ get_or octets 0 0 * 256 + get_or octets 1 0 → numbers_in number_width octets ≡ n ∷ numbers_in number_width (take (length octets - 2) (drop 2 octets))
numbers_in_front [] n long is = absurd (omega arith)
numbers_in_front (a ∷ []) n long is = absurd (omega arith)
numbers_in_front (a ∷ b ∷ rest) n long is =
    let all : take (length (a ∷ b ∷ rest) - 2) rest ≡ rest = take_all _ rest (omega arith) in
    rw (is, all) (front a b rest)

-- ---- segments

segments-none : (octets : List ℕ) → segment_size number_width octets ≡ None → segments_in number_width octets ≡ []
segments-none octets none = ap (λ (parts : List (List ℕ) × List ℕ). map (segment_of number_width) parts.0) (cut-none (segment_size number_width) octets none)

few_octets : (octets : List ℕ) → length octets < 2 → segment_size number_width octets ≡ None
unfolding segment_size
few_octets octets few =
    let head : leb 2 (length octets) ≡ false = lt-leb _ _ few in
    rw head refl

pub segments-few : (octets : List ℕ) → length octets < 2 → segments_in number_width octets ≡ []
segments-few octets few = segments-none octets (few_octets octets few)

broken_off : (octets : List ℕ) → 2 ≤ length octets → length octets < 2 + get_or octets 1 0 * 2 → segment_size number_width octets ≡ None
unfolding segment_size
broken_off octets long short =
    let head : leb 2 (length octets) ≡ true = le-leb _ _ long in
    let body : leb (2 + get_or octets 1 0 * 2) (length octets) ≡ false = lt-leb _ _ short in
    rw (head, body) refl

pub segments-broken : (octets : List ℕ) → 2 ≤ length octets → length octets < 2 + get_or octets 1 0 * 2 → segments_in number_width octets ≡ []
segments-broken octets long short = segments-none octets (broken_off octets long short)

whole : (octets : List ℕ) → 2 ≤ length octets → 2 + get_or octets 1 0 * 2 ≤ length octets → segment_size number_width octets ≡ Some (2 + get_or octets 1 0 * 2)
unfolding segment_size
whole octets long fits =
    let head : leb 2 (length octets) ≡ true = le-leb _ _ long in
    let body : leb (2 + get_or octets 1 0 * 2) (length octets) ≡ true = le-leb _ _ fits in
    rw (head, body) refl

pub segments-front : (octets front back : List ℕ) → 2 ≤ length octets → 2 + get_or octets 1 0 * 2 ≤ length octets
    → front ≡ take (2 + get_or octets 1 0 * 2) octets → back ≡ drop (2 + get_or octets 1 0 * 2) octets
    → segments_in number_width octets ≡ segment_of number_width front ∷ segments_in number_width back
segments-front octets front back long fits is_front is_back =
    ap (λ (parts : List (List ℕ) × List ℕ). map (segment_of number_width) parts.0)
    (cut-more (segment_size number_width) octets (2 + get_or octets 1 0 * 2) (whole octets long fits) (omega arith) (omega arith))
    ∙ (λ i. segment_of number_width (sym is_front i) ∷ segments_in number_width (sym is_back i))

pieces : (kind count : ℕ) (rest : List ℕ) → count * 2 ≤ length rest
    → cut (segment_size number_width) (kind ∷ count ∷ rest)
    ≡ ((kind ∷ count ∷ take (count * 2) rest) ∷ (cut (segment_size number_width) (drop (count * 2) rest)).0, (cut (segment_size number_width) (drop (count * 2) rest)).1)
pieces kind count rest fits =
    let two : 2 + count * 2 ≡ suc (suc (count * 2)) = omega arith in
    let size : segment_size number_width (kind ∷ count ∷ rest) ≡ Some (suc (suc (count * 2))) = whole (kind ∷ count ∷ rest) (omega arith) (omega arith) ∙ ap (λ (n : ℕ). Some n) two in
    cut-more (segment_size number_width) (kind ∷ count ∷ rest) (suc (suc (count * 2))) size (omega arith) (omega arith)

abbrev is_bad : List ℕ → Bool
is_bad piece = is_outside 1 2 (slice_index piece 0) || eqb (slice_index piece 1) 0

-- whether pieces and a rest are a faulty path
abbrev judged : List (List ℕ) × List ℕ → Bool
judged parts = list_any is_bad parts.0 || not (eqb (length parts.1) 0)

or_assoc : (a b c : Bool) → ((a || b) || c) ≡ (a || (b || c))
or_assoc true b c = refl
or_assoc false b c = refl

pub is_faulty_path-more : (kind count : ℕ) (rest : List ℕ) → count * 2 ≤ length rest
    → is_faulty_path number_width (kind ∷ count ∷ rest) ≡ ((is_outside 1 2 kind || eqb count 0) || is_faulty_path number_width (drop (count * 2) rest))
is_faulty_path-more kind count rest fits =
    ap judged (pieces kind count rest fits) ∙ or_assoc (is_outside 1 2 kind || eqb count 0) _ _

not_cut : (octets : List ℕ) → 0 < length octets → segment_size number_width octets ≡ None → is_faulty_path number_width octets ≡ true
not_cut octets some none =
    let left : eqb (length octets) 0 ≡ false = grind (arith, nat_tests) in
    ap judged (cut-none (segment_size number_width) octets none) ∙ ap not left

-- where no segment is whole there is a fault, unless there are no octets
pub faulty-none : (octets : List ℕ) → segments_in number_width octets ≡ [] → is_faulty_path number_width octets ≡ not (eqb (length octets) 0)
faulty-none [] none = refl
faulty-none (x ∷ []) none = not_cut (x ∷ []) (omega arith) (few_octets (x ∷ []) (omega arith))
faulty-none (kind ∷ count ∷ rest) none =
    let octets = kind ∷ count ∷ rest in
    let some : eqb (length octets) 0 ≡ false = grind (arith, nat_tests) in
    elim (cases_lt (length rest) (count * 2)) [
      | inl short ↦ not_cut octets (omega arith) (broken_off octets (omega arith) (omega arith)) ∙ sym (ap not some)
      | inr fits ↦
          let front = segments-front octets (take (2 + count * 2) octets) (drop (2 + count * 2) octets) (omega arith) (omega arith) refl refl in
          let lengths = ap length (sym front ∙ none) in
          absurd (omega (arith, lengths))
    ]

-- a segment in front, judged, and then what follows it
pub judged_front : (segment after : List ℕ) → 2 ≤ length segment → length segment ≡ 2 + get_or segment 1 0 * 2
    → is_faulty_path number_width (segment ++ after) ≡ ((is_outside 1 2 (get_or segment 0 0) || eqb (get_or segment 1 0) 0) || is_faulty_path number_width after)
judged_front [] after long counted = absurd (omega arith)
judged_front (x ∷ []) after long counted = absurd (omega arith)
judged_front (kind ∷ count ∷ rest) after long counted =
    let numbers : length rest ≡ count * 2 = omega arith in
    let behind : drop (count * 2) (rest ++ after) ≡ after = drop_at rest after (count * 2) numbers in
    is_faulty_path-more kind count (rest ++ after) (omega (arith, length-append rest after))
    ∙ ap (λ (xs : List ℕ). (is_outside 1 2 kind || eqb count 0) || is_faulty_path number_width xs) behind

pub length_numbers : (ns : List ℕ) → length (flat_map number_octets ns) ≡ length ns * 2
length_numbers [] = refl
length_numbers (n ∷ ns) = omega (arith, length_numbers ns)

pub kind_inside : (kind : SegmentKind) (octet : ℕ) → kind_octet kind ≡ octet → is_outside 1 2 octet ≡ false
kind_inside AsSet octet is = rw (← is) refl
kind_inside AsSequence octet is = rw (← is) refl
