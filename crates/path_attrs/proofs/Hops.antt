-- A path counts no more hops than it has octets.
use Rattle.std.proofs.Common.{◌≡◌, ℕ, ◌<◌, ◌≤◌, eqb, List, [], ◌∷◌, length, Some, ap, inl, inr, length-append, arith}
use Rattle.std.specs.Prelude.{sum_by}
use Rattle.std.specs.List.{AllByRecursion}
use Rattle.std.proofs.lemmas.Bool.{cases_Bool}
use Rattle.std.proofs.lemmas.List.Concat.{length-flat_map}
use Rattle.std.proofs.lemmas.List.Sums.{sum_by-le-sum_by}
use Rattle.rcp_model.specs.Attributes.{Attribute, Segment, AS_SEQUENCE, value_of, attribute_octets}
use Rattle.rcp_model.specs.Routes.{hops_of}
use Rattle.rcp_model.proofs.AttributeLemmas.{IsShort}
use Rattle.path_attrs.specs.Lists.{octets_of}
use Rattle.path_attrs.specs.Segments.{segment_octets, path_octets}
use Rattle.path_attrs.proofs.Faultless.{attribute_long}
use Rattle.path_attrs.proofs.Paths.{length_numbers}

segment_hops : (s : Segment) → hops_of s ≤ length (segment_octets s)
segment_hops s = elim (cases_Bool (eqb s.kind AS_SEQUENCE)) [
  | inl sequence ↦ rw sequence (omega (arith, length_numbers s.numbers))
  | inr other ↦ rw other (omega arith)
]

pub hops_fit : (path : List Segment) → sum_by hops_of path ≤ length (path_octets path)
hops_fit path = rw (length-flat_map segment_octets path) (sum_by-le-sum_by hops_of (λ s. length (segment_octets s)) path segment_hops)

-- the value of a type has no more octets than all attributes
pub value_fits : (kind : ℕ) (bs : List Attribute) (value : List ℕ) → value_of kind bs ≡ Some value → length value ≤ length (octets_of bs)
value_fits kind [] value is = absurd cc
value_fits kind (b ∷ bs) value is =
    let joined = length-append (attribute_octets b) (octets_of bs) in
    let mine = attribute_long b in
    elim (cases_Bool (eqb b.kind kind)) [
      | inl here ↦ (let same : b.value ≡ value = some_is b.value value (rw here at is) in omega (arith, ap length same))
      | inr apart ↦ omega (arith, value_fits kind bs value (rw apart at is))
    ]
  where
    some_is : (x y : List ℕ) → Some x ≡ Some y → x ≡ y
    some_is x y same = cc

-- each value of attributes in less than 65,536 octets has less
pub all_short : (bs : List Attribute) → length (octets_of bs) < 65536 → AllByRecursion IsShort bs
all_short [] fits = tt
all_short (b ∷ bs) fits =
    let joined = length-append (attribute_octets b) (octets_of bs) in
    (omega (arith, attribute_long b), all_short bs (omega arith))
