-- The first place in the order of prefixes that passes a test is the least one.
use Rattle.std.proofs.Common.{◌≡◌, ℕ, zero, suc, ◌<◌, ◌≤◌, Bool, true, false, cond, ◌&&◌, ◌||◌, List, [], ◌∷◌, length, filter, find, slice_get, Option, Some, None, IfSome, is_some, refl, sym, ap, subst, ◌∙◌, arith}
use Rattle.std.specs.List.{AllByRecursion}
use Rattle.std.specs.Map.{keys_of}
use Rattle.std.specs.List.Sorted.{IsStrictlySortedBy}
use Rattle.std.specs.Option.{option_and_then, option_map}
use Rattle.std.specs.Ordering.{is_le, is_lt, eq_by_cmp}
use Rattle.std.specs.declared.cmp.Ordering.TheVariants.{Less}
use Rattle.std.proofs.lemmas.Bool.{false≢true, and_parts, and_right, cond-true}
use Rattle.std.proofs.lemmas.Cmp.{tied_back}
use Rattle.std.proofs.lemmas.Option.{none-some}
use Rattle.rcp_base.specs.IpPrefix.{IpPrefix, prefix_cmp}
use Rattle.rcp_model.proofs.RibLemmas.{prefix_total}
use Rattle.std.proofs.lemmas.List.{get_or_past}
use Rattle.out_table.specs.Cells.{Cells, no_cells, number_at}
use Rattle.out_table.specs.Tables.{Table, cell, is_opened, is_dirty, IsLeast, is_after}
use Rattle.out_table.specs.Places.{Place, place_of, prefix_in, cells_at, places_after, is_listed, IsRising, IsPassed, IsKept, table_of}
use Rattle.out_table.proofs.RisingLemmas.{is_equal}
use Rattle.out_table.proofs.EntryLemmas.{none_later, sorted_later, sorted_above, opened_is, dirty_is}
use Rattle.out_table.proofs.TableLemmas.{itself, tied_same, first_listed, first_least}
use Rattle.out_table.proofs.FoundLemmas.{cell_by}

-- whether a prefix has a place that passes
abbrev pub at_place : (ℕ → Bool) → Option ℕ → Bool
at_place test None = false
at_place test (Some place) = test place

abbrev pub passes : (ℕ → Bool) → IpPrefix → List Place → Bool
passes test q places = at_place test (place_of q places)

least_same : (t u : IpPrefix → Bool) (r : Option IpPrefix) → ((q : IpPrefix) → t q ≡ u q) → IsLeast t r → IsLeast u r
least_same t u None same least = λ q. sym (same q) ∙ least q
least_same t u (Some p) same least = (sym (same p) ∙ least.0, λ q passing. least.1 q (same q ∙ passing))

above_first : (p q : IpPrefix) (places : List Place) (place : ℕ) → AllByRecursion (λ later. prefix_cmp p later ≡ Less) (keys_of places) → place_of q places ≡ Some place → prefix_cmp p q ≡ Less
above_first p q [] place above found = absurd (none-some place found)
above_first p q (e ∷ places) place above found = by_test (eq_by_cmp prefix_cmp q e.0) refl found (above_first p q places place above.1) where
  by_test : (t : Bool) → eq_by_cmp prefix_cmp q e.0 ≡ t → cond t (Some e.1) (place_of q places) ≡ Some place → (place_of q places ≡ Some place → prefix_cmp p q ≡ Less) → prefix_cmp p q ≡ Less
  by_test true tied found rest = subst (λ (r : IpPrefix). prefix_cmp p r ≡ Less) (sym (tied_same e.0 q tied)) above.0
  by_test false apart found rest = rest found

-- the first place that passes, of those whose prefix passes a test
pub least_first : (low : IpPrefix → Bool) (test : ℕ → Bool) (places : List Place) → IsStrictlySortedBy prefix_cmp (keys_of places)
    → IsLeast (λ q. low q && passes test q places) (option_map (λ (e : Place). e.0) (find (λ (e : Place). test e.1) (filter (λ (e : Place). low e.0) places)))
least_first low test [] sorted = λ q. and_right (low q) false refl
least_first low test (e ∷ places) sorted = by_tests (low e.0) (test e.1) refl refl (least_first low test places (sorted_later e places sorted)) where
  rest : List Place
  rest = filter (λ (e : Place). low e.0) places

  chosen : Option IpPrefix
  chosen = option_map (λ (e : Place). e.0) (find (λ (e : Place). test e.1) rest)

  found_first : place_of e.0 (e ∷ places) ≡ Some e.1
  found_first = cond-true (eq_by_cmp prefix_cmp e.0 e.0) (Some e.1) (place_of e.0 places) (itself e.0)

  here : low e.0 ≡ true → test e.1 ≡ true → IsLeast (λ q. low q && passes test q (e ∷ places)) (Some e.0)
  here is is' = (
    ap (λ (t : Bool). t && at_place test (place_of e.0 (e ∷ places))) is ∙ ap (at_place test) found_first ∙ is',
    λ q passing. at_or_above q (place_of q (e ∷ places)) refl (and_parts (low q) (at_place test (place_of q (e ∷ places))) passing).1,
  ) where
    at_or_above : (q : IpPrefix) (o : Option ℕ) → place_of q (e ∷ places) ≡ o → at_place test o ≡ true → is_le (prefix_cmp e.0 q) ≡ true
    at_or_above q None at passing = absurd (false≢true passing)
    at_or_above q (Some place) at passing = by_test (eq_by_cmp prefix_cmp q e.0) refl at where
      by_test : (t : Bool) → eq_by_cmp prefix_cmp q e.0 ≡ t → cond t (Some e.1) (place_of q places) ≡ Some place → is_le (prefix_cmp e.0 q) ≡ true
      by_test true tied found = ap is_le (tied_back prefix_total q e.0 (is_equal (prefix_cmp q e.0) tied))
      by_test false apart found = ap is_le (above_first e.0 q places place (sorted_above e places sorted) found)

  later : (low e.0 && test e.1) ≡ false → IsLeast (λ q. low q && passes test q places) chosen → IsLeast (λ q. low q && passes test q (e ∷ places)) chosen
  later fails least = least_same (λ q. low q && passes test q places) (λ q. low q && passes test q (e ∷ places)) chosen (λ q. same q (eq_by_cmp prefix_cmp q e.0) refl) least where
    same : (q : IpPrefix) (t : Bool) → eq_by_cmp prefix_cmp q e.0 ≡ t → (low q && at_place test (place_of q places)) ≡ (low q && at_place test (cond t (Some e.1) (place_of q places)))
    same q true tied =
        ap (λ (o : Option ℕ). low q && at_place test o) (none_later q e places sorted tied) ∙ and_right (low q) false refl
        ∙ sym (ap (λ (r : IpPrefix). low r && test e.1) (tied_same e.0 q tied) ∙ fails)
    same q false apart = refl

  by_tests : (t u : Bool) → low e.0 ≡ t → test e.1 ≡ u → IsLeast (λ q. low q && passes test q places) chosen
      → IsLeast (λ q. low q && passes test q (e ∷ places)) (option_map (λ (e : Place). e.0) (find (λ (e : Place). test e.1) (cond t (e ∷ rest) rest)))
  by_tests true true is is' least = subst (λ (t : Bool). IsLeast (λ q. low q && passes test q (e ∷ places)) (option_map (λ (e : Place). e.0) (cond t (Some e) (find (λ (e : Place). test e.1) rest)))) (sym is') (here is is')
  by_tests true false is is' least = subst (λ (t : Bool). IsLeast (λ q. low q && passes test q (e ∷ places)) (option_map (λ (e : Place). e.0) (cond t (Some e) (find (λ (e : Place). test e.1) rest)))) (sym is') (later (and_right (low e.0) (test e.1) is') least)
  by_tests false u is is' least = later (ap (λ (t : Bool). t && test e.1) is) least

-- ---- in a table

all_low : (places : List Place) → filter (λ (e : Place). true) places ≡ places
all_low [] = refl
all_low (e ∷ places) = ap (λ (rest : List Place). e ∷ rest) (all_low places)

after_is : (p q : IpPrefix) → (is_lt (prefix_cmp p q) && true) ≡ is_after (Some p) q
after_is p q = elim (is_lt (prefix_cmp p q)) as (λ t. (t && true) ≡ t) [ true ↦ refl | false ↦ refl ]

first_found : (places : List Place) → find (λ (e : Place). true) places ≡ slice_get places 0
first_found [] = refl
first_found (e ∷ places) = refl

opened_passes : (o : Option ℕ) → at_place (λ _. true) o ≡ is_some o
opened_passes None = refl
opened_passes (Some k) = refl

number_passes : (numbers : List ℕ) (o : Option ℕ) → at_place (λ k. is_some (number_at k numbers)) o ≡ is_some (option_and_then (λ k. number_at k numbers) o)
number_passes numbers None = refl
number_passes numbers (Some k) = refl

-- the first place whose place passes, as the least prefix that passes another test
pub least_of_all : (test : ℕ → Bool) (places : List Place) (passing : IpPrefix → Bool) → IsStrictlySortedBy prefix_cmp (keys_of places) → ((q : IpPrefix) → passes test q places ≡ passing q)
    → IsLeast (λ q. is_after None q && passing q) (option_map (λ (e : Place). e.0) (find (λ (e : Place). test e.1) places))
least_of_all test places passing sorted same =
    least_same (λ q. true && passes test q places) (λ q. is_after None q && passing q) (option_map (λ (e : Place). e.0) (find (λ (e : Place). test e.1) places)) same
    (subst (λ (es : List Place). IsLeast (λ q. true && passes test q places) (option_map (λ (e : Place). e.0) (find (λ (e : Place). test e.1) es))) (all_low places) (least_first (λ _. true) test places sorted))

pub least_after : (test : ℕ → Bool) (p : IpPrefix) (places : List Place) (passing : IpPrefix → Bool) → IsStrictlySortedBy prefix_cmp (keys_of places) → ((q : IpPrefix) → passes test q places ≡ passing q)
    → IsLeast (λ q. is_after (Some p) q && passing q) (option_map (λ (e : Place). e.0) (find (λ (e : Place). test e.1) (places_after p places)))
least_after test p places passing sorted same =
    least_same (λ q. (is_lt (prefix_cmp p q) && true) && passes test q places) (λ q. is_after (Some p) q && passing q)
    (option_map (λ (e : Place). e.0) (find (λ (e : Place). test e.1) (places_after p places)))
    (λ q. ap (λ (t : Bool). t && passes test q places) (after_is p q) ∙ ap (λ (t : Bool). is_after (Some p) q && t) (same q))
    (least_first (λ q. is_lt (prefix_cmp p q) && true) test places sorted)

pub opened_by : (t : Table) (members : ℕ) (places : List Place) (prefixes : List IpPrefix) (columns : List Cells) → table_of members places prefixes columns ≡ t → (q : IpPrefix) → passes (λ _. true) q places ≡ is_opened t q
opened_by t members places prefixes columns is q = opened_passes (place_of q places) ∙ sym (opened_is members places prefixes columns q) ∙ ap (λ (u : Table). is_opened u q) is

pub next_of_all : (t : Table) (members room : ℕ) (places : List Place) (prefixes : List IpPrefix) (columns : List Cells) → table_of members places prefixes columns ≡ t → IsKept members room places prefixes columns
    → IsLeast (λ q. is_after None q && is_opened t q) (option_map (λ (e : Place). e.0) (slice_get places 0))
next_of_all t members room places prefixes columns is kept =
    subst (λ (o : Option Place). IsLeast (λ q. is_after None q && is_opened t q) (option_map (λ (e : Place). e.0) o)) (first_found places)
    (least_of_all (λ _. true) places (is_opened t) kept.inverse.sorted (opened_by t members places prefixes columns is))

pub next_after : (t : Table) (members room : ℕ) (p : IpPrefix) (places : List Place) (prefixes : List IpPrefix) (columns : List Cells) → table_of members places prefixes columns ≡ t → IsKept members room places prefixes columns
    → IsLeast (λ q. is_after (Some p) q && is_opened t q) (option_map (λ (e : Place). e.0) (slice_get (places_after p places) 0))
next_after t members room p places prefixes columns is kept =
    subst (λ (o : Option Place). IsLeast (λ q. is_after (Some p) q && is_opened t q) (option_map (λ (e : Place). e.0) o)) (first_found (places_after p places))
    (least_after (λ _. true) p places (is_opened t) kept.inverse.sorted (opened_by t members places prefixes columns is))

pub number_by : (t : Table) (members : ℕ) (places : List Place) (prefixes : List IpPrefix) (columns : List Cells) → table_of members places prefixes columns ≡ t → IsStrictlySortedBy prefix_cmp (keys_of places)
    → (i slot : ℕ) → i ≡ slot → (q : IpPrefix) → passes (λ k. is_some (number_at k (cells_at i columns).numbers)) q places ≡ is_some (cell t slot q)
number_by t members places prefixes columns is sorted i slot at q =
    number_passes (cells_at i columns).numbers (place_of q places) ∙ ap is_some (sym (cell_by t members places prefixes columns is sorted i slot at q))

-- ---- the next of the dirty places

or_none : (low : IpPrefix → Bool) (prefixes : List IpPrefix) (place : ℕ) (later : List ℕ) → low (prefix_in prefixes place) ≡ false → (q : IpPrefix)
    → (low q && is_listed q prefixes later) ≡ (low q && is_listed q prefixes (place ∷ later))
or_none low prefixes place later fails q = by_test (eq_by_cmp prefix_cmp q (prefix_in prefixes place)) refl where
  by_test : (t : Bool) → eq_by_cmp prefix_cmp q (prefix_in prefixes place) ≡ t → (low q && is_listed q prefixes later) ≡ (low q && (t || is_listed q prefixes later))
  by_test true tied = let none : low q ≡ false = ap low (tied_same (prefix_in prefixes place) q tied) ∙ fails in
      ap (λ (t : Bool). t && is_listed q prefixes later) none ∙ sym (ap (λ (t : Bool). t && true) none)
  by_test false apart = refl

tail_passed : (p : IpPrefix) (prefixes : List IpPrefix) (place : ℕ) (later : List ℕ) (count : ℕ) → IsPassed p prefixes (place ∷ later) (suc count) → IsPassed p prefixes later count
tail_passed p prefixes place later count is = record {
  before = λ k low within. is.before (suc k) (omega arith) (omega arith);
  after = λ k from within. is.after (suc k) (omega arith) (omega arith);
}

after_lt : (p q : IpPrefix) → is_after (Some p) q ≡ is_lt (prefix_cmp p q)
after_lt p q = refl

pub passed_least : (p : IpPrefix) (prefixes : List IpPrefix) (dirty : List ℕ) (count : ℕ) → IsRising prefixes dirty → IsPassed p prefixes dirty count
    → IsLeast (λ q. is_after (Some p) q && is_listed q prefixes dirty) (option_map (prefix_in prefixes) (slice_get dirty count))
passed_least p prefixes [] count rising is = λ q. and_right (is_after (Some p) q) false refl
passed_least p prefixes (place ∷ later) zero rising is = (
  ap (λ (t : Bool). t && is_listed (prefix_in prefixes place) prefixes (place ∷ later)) (is.after 0 (omega arith) (omega arith)) ∙ first_listed prefixes place later,
  λ q passing. first_least q prefixes place later rising (and_parts (is_after (Some p) q) (is_listed q prefixes (place ∷ later)) passing).1,
)
passed_least p prefixes (place ∷ later) (suc count) rising is =
    least_same (λ q. is_after (Some p) q && is_listed q prefixes later) (λ q. is_after (Some p) q && is_listed q prefixes (place ∷ later)) (option_map (prefix_in prefixes) (slice_get later count))
    (or_none (is_after (Some p)) prefixes place later (is.before 0 (omega arith) (omega arith)))
    (passed_least p prefixes later count rising.1 (tail_passed p prefixes place later count is))

-- the first of all
pub first_of_all : (prefixes : List IpPrefix) (dirty : List ℕ) → IsRising prefixes dirty → IsLeast (λ q. is_after None q && is_listed q prefixes dirty) (option_map (prefix_in prefixes) (slice_get dirty 0))
first_of_all prefixes [] rising = λ q. refl
first_of_all prefixes (place ∷ later) rising = (first_listed prefixes place later, λ q passing. first_least q prefixes place later rising passing)

-- a place of the list is that of a prefix
pub place_within : (prefixes : List IpPrefix) (dirty : List ℕ) (count : ℕ) → AllByRecursion (λ place. place < length prefixes) dirty → IfSome (slice_get dirty count) (λ place. place < length prefixes)
place_within prefixes [] count below = tt
place_within prefixes (place ∷ later) zero below = below.0
place_within prefixes (place ∷ later) (suc count) below = place_within prefixes later count below.1

-- the same for a slot of the table
pub next_listed : (t : Table) (members : ℕ) (places : List Place) (prefixes : List IpPrefix) (columns : List Cells) → table_of members places prefixes columns ≡ t
    → (i slot : ℕ) → i ≡ slot → (after found : Option IpPrefix)
    → IsLeast (λ q. is_after after q && is_listed q prefixes (cells_at i columns).dirty) found → IsLeast (λ q. is_after after q && is_dirty t slot q) found
next_listed t members places prefixes columns is i slot at after found least =
    least_same (λ q. is_after after q && is_listed q prefixes (cells_at i columns).dirty) (λ q. is_after after q && is_dirty t slot q) found
    (λ q. ap (λ (b : Bool). is_after after q && b) (ap (λ (s : ℕ). is_listed q prefixes (cells_at s columns).dirty) at ∙ sym (dirty_is members places prefixes columns slot q) ∙ ap (λ (u : Table). is_dirty u slot q) is)) least

-- a slot without cells
pub next_past : (t : Table) (members : ℕ) (places : List Place) (prefixes : List IpPrefix) (columns : List Cells) → table_of members places prefixes columns ≡ t
    → (i slot : ℕ) → i ≡ slot → length columns ≤ i → (after : Option IpPrefix) → IsLeast (λ q. is_after after q && is_dirty t slot q) None
next_past t members places prefixes columns is i slot at past after =
    next_listed t members places prefixes columns is i slot at after None
    (λ q. and_right (is_after after q) _ (ap (λ (v : Cells). is_listed q prefixes v.dirty) (get_or_past columns i no_cells past)))
