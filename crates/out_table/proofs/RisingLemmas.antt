-- Places whose prefixes rise: what a search finds among them, and what holds after one is put in.
use Rattle.std.proofs.Common.{◌≡◌, ◌≢◌, ℕ, ◌+◌, ◌-◌, ◌<◌, ◌≤◌, Bool, true, false, ◌||◌, List, [], ◌∷◌, length, get_or, MatchResult, Result, Ok, Err, AllPairs, Contains, refl, sym, ap, subst, ◌∙◌, arith, ltb, suc, zero, ◌⊎◌, inl, inr}
use Rattle.std.specs.List.{All, AllByRecursion, insert}
use Rattle.std.specs.List.Sorted.{IsSortedBy, IsNonDecreasingBy, IsBinarySearchResult, IsSearchInRange}
use Rattle.std.specs.Ordering.{is_lt, is_eq, eq_by_cmp, ordering_index, ordering_reverse}
use Rattle.std.specs.declared.cmp.Ordering.{Ordering}
use Rattle.std.specs.declared.cmp.Ordering.TheVariants.{Less, Equal, Greater}
use Rattle.std.proofs.lemmas.Bool.{cond-true, false≢true, lt-ltb, ltb-true, ltb-false, or_right, or_left, cases_eq, cases_lt}
use Rattle.std.proofs.lemmas.Cmp.{tied_itself, tied_back}
use Rattle.std.proofs.lemmas.List.Kept.{AllPairs-cons}
use Rattle.std.proofs.lemmas.List.Elements.{All-from_recursion}
use Rattle.std.proofs.lemmas.List.{get_or_default, length-set}
use Rattle.std.proofs.Math.ListN.{set}
use Rattle.std.proofs.lemmas.List.Sorted.{searchable_from_sorted, IsPermutation-insert, list_any-IsPermutation}
use Rattle.rcp_base.specs.IpPrefix.{IpPrefix, prefix_cmp}
use Rattle.rcp_model.proofs.RibLemmas.{prefix_total, prefix_exact}
use Rattle.rcp_model.proofs.GraphLemmas.{apart_within}
use Rattle.rcp_model.proofs.MemberLemmas.{Contains-head, Contains-tail, Contains-cases}
use Rattle.out_table.specs.Cells.{Cells}
use Rattle.out_table.specs.Places.{prefix_in, order_in, IsRising, IsGap, IsPassed, is_listed, AreKept, Sets}

-- ---- the order by places

abbrev IsBelow : List IpPrefix → ℕ → ℕ → Type 0
IsBelow prefixes a b = prefix_cmp (prefix_in prefixes a) (prefix_in prefixes b) ≡ Less

pub rising_pairs : (prefixes : List IpPrefix) (dirty : List ℕ) → IsRising prefixes dirty → AllPairs (IsBelow prefixes) dirty
rising_pairs prefixes [] rising = λ i j d less within. absurd (omega arith)
rising_pairs prefixes (place ∷ dirty) rising =
    AllPairs-cons (IsBelow prefixes) place dirty (All-from_recursion (IsBelow prefixes place) dirty rising.0) (rising_pairs prefixes dirty rising.1)

not_back : (a b : IpPrefix) → prefix_cmp a b ≡ Less → is_lt (prefix_cmp b a) ≡ false
not_back a b less = ap is_lt (prefix_total.antisymm b a ∙ ap ordering_reverse less)

pub back : (a b : IpPrefix) → prefix_cmp a b ≡ Less → prefix_cmp b a ≡ Greater
back a b less = prefix_total.antisymm b a ∙ ap ordering_reverse less

rising_sorted : (prefixes : List IpPrefix) (dirty : List ℕ) → IsRising prefixes dirty
    → IsSortedBy (λ a b. is_lt (prefix_cmp (prefix_in prefixes a) (prefix_in prefixes b))) dirty
rising_sorted prefixes dirty rising = λ k d low within. not_back (prefix_in prefixes (get_or dirty k d)) (prefix_in prefixes (get_or dirty (k + 1) d)) (rising_pairs prefixes dirty rising k (k + 1) d (omega arith) within)

pub order_in_is : (prefixes : List IpPrefix) (p : IpPrefix) (place : ℕ) → place < length prefixes → order_in prefixes p place ≡ prefix_cmp (prefix_in prefixes place) p
order_in_is prefixes p place within = cond-true (ltb place (length prefixes)) _ Greater (lt-ltb place (length prefixes) within)

pub is_equal : (o : Ordering) → is_eq o ≡ true → o ≡ Equal
is_equal Less e = absurd (false≢true e)
is_equal Equal e = refl
is_equal Greater e = absurd (false≢true e)

-- ---- what a search finds

pub listed_at : (p : IpPrefix) (prefixes : List IpPrefix) (dirty : List ℕ) (k : ℕ) → k < length dirty → prefix_cmp (prefix_in prefixes (get_or dirty k 0)) p ≡ Equal → is_listed p prefixes dirty ≡ true
listed_at p prefixes [] k within tied = absurd (omega arith)
listed_at p prefixes (place ∷ dirty) zero within tied = or_left (eq_by_cmp prefix_cmp p (prefix_in prefixes place)) (is_listed p prefixes dirty) (ap is_eq (tied_back prefix_total (prefix_in prefixes place) p tied))
listed_at p prefixes (place ∷ dirty) (suc k) within tied = or_right (eq_by_cmp prefix_cmp p (prefix_in prefixes place)) (is_listed p prefixes dirty) (listed_at p prefixes dirty k (omega arith) tied)

searchable : (p : IpPrefix) (prefixes : List IpPrefix) (dirty : List ℕ) → AllByRecursion (λ place. place < length prefixes) dirty → IsRising prefixes dirty
    → IsNonDecreasingBy (λ place. ordering_index (order_in prefixes p place)) dirty
searchable p prefixes dirty below rising = λ i j d le within.
    let bound = All-from_recursion (λ place. place < length prefixes) dirty below in
    let sorted = searchable_from_sorted prefix_total (prefix_in prefixes) dirty p (rising_sorted prefixes dirty rising) i j d le within in
    let first = order_in_is prefixes p (get_or dirty i d) (bound i d (omega arith)) in
    let second = order_in_is prefixes p (get_or dirty j d) (bound j d within) in
    subst (λ (o : Ordering). ordering_index o ≤ ordering_index (order_in prefixes p (get_or dirty j d))) (sym first)
    (subst (λ (o : Ordering). ordering_index (prefix_cmp (prefix_in prefixes (get_or dirty i d)) p) ≤ ordering_index o) (sym second) sorted)

pub searched_gap : (p : IpPrefix) (prefixes : List IpPrefix) (dirty : List ℕ) → AllByRecursion (λ place. place < length prefixes) dirty → IsRising prefixes dirty
    → (r : Result ℕ ℕ) → IsSearchInRange r (length dirty) → IsBinarySearchResult (order_in prefixes p) dirty r
    → MatchResult r (λ _. is_listed p prefixes dirty ≡ true) (IsGap p prefixes dirty)
searched_gap p prefixes dirty below rising (Ok k) bound result =
    let all = All-from_recursion (λ place. place < length prefixes) dirty below in
    listed_at p prefixes dirty k bound (sym (order_in_is prefixes p (get_or dirty k 0) (all k 0 bound)) ∙ result 0)
searched_gap p prefixes dirty below rising (Err k) bound result =
    let all = All-from_recursion (λ place. place < length prefixes) dirty below in
    let parts = result (searchable p prefixes dirty below rising) in
    record {
      within = bound;
      before = λ i less. sym (order_in_is prefixes p (get_or dirty i 0) (all i 0 (omega arith))) ∙ parts.0 i 0 (omega arith) less;
      after = λ i from within. sym (order_in_is prefixes p (get_or dirty i 0) (all i 0 within)) ∙ parts.1 i 0 from within;
    }

-- up to the prefix of a place
pub passed_at : (p : IpPrefix) (prefixes : List IpPrefix) (dirty : List ℕ) (k : ℕ) → IsRising prefixes dirty → k < length dirty → prefix_cmp (prefix_in prefixes (get_or dirty k 0)) p ≡ Equal → IsPassed p prefixes dirty (k + 1)
passed_at p prefixes dirty k rising within tied =
    subst (λ (q : IpPrefix). IsPassed q prefixes dirty (k + 1)) (prefix_exact (prefix_in prefixes (get_or dirty k 0)) p tied)
    (record {
      before = λ i low inside. up_to i inside (cases_eq i k) low;
      after = λ i from inside. ap is_lt (rising_pairs prefixes dirty rising k i 0 (omega arith) inside);
    }) where
      less : (i k : ℕ) → i ≢ k → i < k + 1 → i < k
      less i k other low = elim (cases_lt i k) [ inl below ↦ below | inr above ↦ absurd (other (omega (arith, low, above))) ]

      up_to : (i : ℕ) → i < length dirty → (i ≡ k) ⊎ (i ≢ k) → i < k + 1 → is_lt (prefix_cmp (prefix_in prefixes (get_or dirty k 0)) (prefix_in prefixes (get_or dirty i 0))) ≡ false
      up_to i inside (inl same) low = subst (λ (j : ℕ). is_lt (prefix_cmp (prefix_in prefixes (get_or dirty k 0)) (prefix_in prefixes (get_or dirty j 0))) ≡ false) (sym same) (ap is_lt (tied_itself prefix_total (prefix_in prefixes (get_or dirty k 0))))
      up_to i inside (inr other) low = not_back (prefix_in prefixes (get_or dirty i 0)) (prefix_in prefixes (get_or dirty k 0)) (rising_pairs prefixes dirty rising i k 0 (less i k other low) within)

-- up to a prefix that isn't there
pub passed_gap : (p : IpPrefix) (prefixes : List IpPrefix) (dirty : List ℕ) (gap : ℕ) → IsGap p prefixes dirty gap → IsPassed p prefixes dirty gap
passed_gap p prefixes dirty gap is = record {
  before = λ k low inside. not_back (prefix_in prefixes (get_or dirty k 0)) p (is.before k low);
  after = λ k from inside. ap is_lt (prefix_total.antisymm p (prefix_in prefixes (get_or dirty k 0)) ∙ ap ordering_reverse (is.after k from inside));
}

-- what a search passes
pub searched_passed : (p : IpPrefix) (prefixes : List IpPrefix) (dirty : List ℕ) → AllByRecursion (λ place. place < length prefixes) dirty → IsRising prefixes dirty
    → (r : Result ℕ ℕ) → IsSearchInRange r (length dirty) → IsBinarySearchResult (order_in prefixes p) dirty r
    → MatchResult r (λ n. IsPassed p prefixes dirty (n + 1)) (IsPassed p prefixes dirty)
searched_passed p prefixes dirty below rising (Ok k) bound result =
    let all = All-from_recursion (λ place. place < length prefixes) dirty below in
    passed_at p prefixes dirty k rising bound (sym (order_in_is prefixes p (get_or dirty k 0) (all k 0 bound)) ∙ result 0)
searched_passed p prefixes dirty below rising (Err k) bound result = passed_gap p prefixes dirty k (searched_gap p prefixes dirty below rising (Err k) bound result)

-- above the last one
pub last_gap : (p : IpPrefix) (prefixes : List IpPrefix) (dirty : List ℕ) → IsRising prefixes dirty → 0 < length dirty
    → prefix_cmp (prefix_in prefixes (get_or dirty (length dirty - 1) 0)) p ≡ Less → IsGap p prefixes dirty (length dirty)
last_gap p prefixes dirty rising some less = record {
  within = omega arith;
  before = λ k within. at_last k within (ltb k (length dirty - 1)) refl;
  after = λ k from within. absurd (omega arith);
} where
  at_last : (k : ℕ) → k < length dirty → (t : Bool) → ltb k (length dirty - 1) ≡ t → prefix_cmp (prefix_in prefixes (get_or dirty k 0)) p ≡ Less
  at_last k within true is = prefix_total.trans (prefix_in prefixes (get_or dirty k 0)) (prefix_in prefixes (get_or dirty (length dirty - 1) 0)) p (rising_pairs prefixes dirty rising k (length dirty - 1) 0 (omega (arith, ltb-true k (length dirty - 1) is)) (omega arith)) less
  at_last k within false is = let last : length dirty - 1 ≡ k = omega (arith, ltb-false k (length dirty - 1) is) in subst (λ j. prefix_cmp (prefix_in prefixes (get_or dirty j 0)) p ≡ Less) last less

-- the same, by the last one
pub above_last : (p : IpPrefix) (prefixes : List IpPrefix) (dirty : List ℕ) (n place : ℕ) → AllByRecursion (λ place. place < length prefixes) dirty → IsRising prefixes dirty
    → n ≡ length dirty → 0 < n → place ≡ get_or dirty (n - 1) place → order_in prefixes p place ≡ Less → IsGap p prefixes dirty n
above_last p prefixes dirty n place below rising count some last less =
    let bound = All-from_recursion (λ place. place < length prefixes) dirty below in
    let at : place ≡ get_or dirty (length dirty - 1) 0 = last ∙ get_or_default dirty (n - 1) place 0 (omega arith) ∙ ap (λ m. get_or dirty (m - 1) 0) count in
    subst (IsGap p prefixes dirty) (sym count)
    (last_gap p prefixes dirty rising (omega arith)
    (subst (λ (m : ℕ). prefix_cmp (prefix_in prefixes m) p ≡ Less) at
    (sym (order_in_is prefixes p place (subst (λ m. m < length prefixes) (sym at) (bound (length dirty - 1) 0 (omega arith)))) ∙ less)))

-- the last one itself
pub listed_last : (p : IpPrefix) (prefixes : List IpPrefix) (dirty : List ℕ) (n place : ℕ) → AllByRecursion (λ place. place < length prefixes) dirty
    → n ≡ length dirty → 0 < n → place ≡ get_or dirty (n - 1) place → order_in prefixes p place ≡ Equal → is_listed p prefixes dirty ≡ true
listed_last p prefixes dirty n place below count some last tied =
    let bound = All-from_recursion (λ place. place < length prefixes) dirty below in
    let at : place ≡ get_or dirty (n - 1) 0 = last ∙ get_or_default dirty (n - 1) place 0 (omega arith) in
    listed_at p prefixes dirty (n - 1) (omega arith)
    (subst (λ (m : ℕ). prefix_cmp (prefix_in prefixes m) p ≡ Equal) at
    (sym (order_in_is prefixes p place (subst (λ m. m < length prefixes) (sym at) (bound (n - 1) 0 (omega arith)))) ∙ tied))

-- ---- what holds after a place is put in

pub all-insert : (P : ℕ → Type 0) (dirty : List ℕ) (gap place : ℕ) → AllByRecursion P dirty → P place → AllByRecursion P (insert dirty gap place)
all-insert P [] zero place all one = (one, tt)
all-insert P [] (suc gap) place all one = (one, tt)
all-insert P (other ∷ dirty) zero place all one = (one, all)
all-insert P (other ∷ dirty) (suc gap) place all one = (all.0, all-insert P dirty gap place all.1 one)

all_above : (prefixes : List IpPrefix) (place : ℕ) (dirty : List ℕ) → ((k : ℕ) → k < length dirty → prefix_cmp (prefix_in prefixes (get_or dirty k 0)) (prefix_in prefixes place) ≡ Greater)
    → AllByRecursion (IsBelow prefixes place) dirty
all_above prefixes place [] above = tt
all_above prefixes place (other ∷ dirty) above =
    (prefix_total.antisymm (prefix_in prefixes place) (prefix_in prefixes other) ∙ ap ordering_reverse (above 0 (omega arith)), all_above prefixes place dirty (λ k within. above (suc k) (omega arith)))

tail_gap : (p : IpPrefix) (prefixes : List IpPrefix) (other : ℕ) (dirty : List ℕ) (gap : ℕ) → IsGap p prefixes (other ∷ dirty) (suc gap) → IsGap p prefixes dirty gap
tail_gap p prefixes other dirty gap is = let within = is.within in record {
  within = omega arith;
  before = λ k less. is.before (suc k) (omega arith);
  after = λ k from within. is.after (suc k) (omega arith) (omega arith);
}

pub rising-insert : (prefixes : List IpPrefix) (dirty : List ℕ) (gap place : ℕ) → IsRising prefixes dirty → IsGap (prefix_in prefixes place) prefixes dirty gap → IsRising prefixes (insert dirty gap place)
rising-insert prefixes [] zero place rising is = (tt, tt)
rising-insert prefixes [] (suc gap) place rising is = (tt, tt)
rising-insert prefixes (other ∷ dirty) zero place rising is = (all_above prefixes place (other ∷ dirty) (λ k within. is.after k (omega arith) within), rising)
rising-insert prefixes (other ∷ dirty) (suc gap) place rising is =
    (all-insert (IsBelow prefixes other) dirty gap place rising.0 (is.before 0 (omega arith)), rising-insert prefixes dirty gap place rising.1 (tail_gap (prefix_in prefixes place) prefixes other dirty gap is))

pub listed-insert : (q : IpPrefix) (prefixes : List IpPrefix) (dirty : List ℕ) (gap place : ℕ)
    → is_listed q prefixes (insert dirty gap place) ≡ (eq_by_cmp prefix_cmp q (prefix_in prefixes place) || is_listed q prefixes dirty)
listed-insert q prefixes dirty gap place =
    sym (list_any-IsPermutation (λ other. eq_by_cmp prefix_cmp q (prefix_in prefixes other)) (place ∷ dirty) (insert dirty gap place) (IsPermutation-insert dirty gap place))

-- ---- there is room for one that isn't there

pub less_not_equal : Less ≡ Equal → ⊥
less_not_equal e = cc

greater_not_equal : Greater ≡ Equal → ⊥
greater_not_equal e = cc

numbers_below : ℕ → List ℕ
numbers_below zero = []
numbers_below (suc n) = n ∷ numbers_below n

length-below : (n : ℕ) → length (numbers_below n) ≡ n
unfolding numbers_below
length-below zero = refl
length-below (suc n) = ap suc (length-below n)

below-has : (n k : ℕ) → k < n → Contains (numbers_below n) k
unfolding numbers_below
below-has zero k less = absurd (omega arith)
below-has (suc n) k less = elim (cases_eq n k) [
  | inl same ↦ subst (Contains (n ∷ numbers_below n)) same (Contains-head n (numbers_below n))
  | inr other ↦ Contains-tail n (numbers_below n) k (below-has n k (omega arith))
]

apart : (prefixes : List IpPrefix) (a b : ℕ) → IsBelow prefixes a b → a ≢ b
apart prefixes a b less same = less_not_equal (sym (subst (λ c. IsBelow prefixes c b) same less) ∙ tied_itself prefix_total (prefix_in prefixes b))

pairs_apart : (prefixes : List IpPrefix) (dirty : List ℕ) → IsRising prefixes dirty → AllPairs (λ a b. a ≢ b) dirty
pairs_apart prefixes dirty rising = λ i j d less within. apart prefixes _ _ (rising_pairs prefixes dirty rising i j d less within)

gap_apart : (prefixes : List IpPrefix) (dirty : List ℕ) (gap place : ℕ) → IsGap (prefix_in prefixes place) prefixes dirty gap → All (λ other. place ≢ other) dirty
gap_apart prefixes dirty gap place is = λ k d within same. at_side k within (same ∙ get_or_default dirty k d 0 within) (ltb k gap) refl where
  tied : (k : ℕ) → place ≡ get_or dirty k 0 → prefix_cmp (prefix_in prefixes (get_or dirty k 0)) (prefix_in prefixes place) ≡ Equal
  tied k same = subst (λ (other : ℕ). prefix_cmp (prefix_in prefixes other) (prefix_in prefixes place) ≡ Equal) same (tied_itself prefix_total (prefix_in prefixes place))

  at_side : (k : ℕ) → k < length dirty → place ≡ get_or dirty k 0 → (t : Bool) → ltb k gap ≡ t → ⊥
  at_side k within same true side = less_not_equal (sym (is.before k (ltb-true k gap side)) ∙ tied k same)
  at_side k within same false side = greater_not_equal (sym (is.after k (ltb-false k gap side) within) ∙ tied k same)

pub has_room : (prefixes : List IpPrefix) (dirty : List ℕ) (gap place : ℕ) → AllByRecursion (λ other. other < length prefixes) dirty → IsRising prefixes dirty
    → place < length prefixes → IsGap (prefix_in prefixes place) prefixes dirty gap → length dirty < length prefixes
has_room prefixes dirty gap place below rising within is =
    let few = apart_within (place ∷ dirty) (numbers_below (length prefixes)) (AllPairs-cons (λ a b. a ≢ b) place dirty (gap_apart prefixes dirty gap place is) (pairs_apart prefixes dirty rising))
    (λ n member. below-has (length prefixes) n (bounded n (Contains-cases place dirty n member))) in
    omega (arith, few, length-below (length prefixes)) where
      bounded : (n : ℕ) → (place ≡ n) ⊎ Contains dirty n → n < length prefixes
      bounded n (inl same) = subst (λ m. m < length prefixes) same within
      bounded n (inr later) = subst (λ m. m < length prefixes) later.2 (All-from_recursion (λ other. other < length prefixes) dirty below later.0 n later.1)

-- ---- a cell is written and marked

pub gap_room : (p : IpPrefix) (prefixes : List IpPrefix) (place number gap : ℕ) (old mid : Cells) → AreKept (length prefixes) prefixes old → place < length prefixes
    → prefix_in prefixes place ≡ p → mid ≡ record { numbers = set old.numbers place number; dirty = old.dirty } → IsGap p prefixes mid.dirty gap → length mid.dirty < length mid.numbers
gap_room p prefixes place number gap old mid kept within at is gap_is =
    let gap_here : IsGap (prefix_in prefixes place) prefixes old.dirty gap =
    subst (λ (q : IpPrefix). IsGap q prefixes old.dirty gap) (sym at) (subst (λ (v : Cells). IsGap p prefixes v.dirty gap) is gap_is) in
    let few = has_room prefixes old.dirty gap place kept.below kept.rising within gap_here in
    let long = kept.long in
    subst (λ (v : Cells). length v.dirty < length v.numbers) (sym is) (omega (arith, length-set old.numbers place number))

pub set_marked : (p : IpPrefix) (prefixes : List IpPrefix) (place number gap : ℕ) (old mid new : Cells) → AreKept (length prefixes) prefixes old → place < length prefixes
    → prefix_in prefixes place ≡ p → mid ≡ record { numbers = set old.numbers place number; dirty = old.dirty } → IsGap p prefixes mid.dirty gap
    → new ≡ record { numbers = mid.numbers; dirty = insert mid.dirty gap place } → Sets place number prefixes true old new
set_marked p prefixes place number gap old mid new kept within at is gap_is done =
    let gap_here : IsGap (prefix_in prefixes place) prefixes old.dirty gap =
    subst (λ (q : IpPrefix). IsGap q prefixes old.dirty gap) (sym at) (subst (λ (v : Cells). IsGap p prefixes v.dirty gap) is gap_is) in
    let whole : new ≡ record { numbers = set old.numbers place number; dirty = insert old.dirty gap place } =
    done ∙ ap (λ (v : Cells). let r : Cells = record { numbers = v.numbers; dirty = insert v.dirty gap place } in r) is in
    subst (Sets place number prefixes true old) (sym whole)
    (record {
      numbers = refl;
      listed = λ q. listed-insert q prefixes old.dirty gap place;
      below = all-insert (λ other. other < length prefixes) old.dirty gap place kept.below within;
      rising = rising-insert prefixes old.dirty gap place kept.rising gap_here;
    })

-- it is written, and dirty already
pub set_listed : (p : IpPrefix) (prefixes : List IpPrefix) (place number : ℕ) (old new : Cells) → AreKept (length prefixes) prefixes old
    → prefix_in prefixes place ≡ p → new ≡ record { numbers = set old.numbers place number; dirty = old.dirty } → is_listed p prefixes new.dirty ≡ true → Sets place number prefixes true old new
set_listed p prefixes place number old new kept at is listed =
    let here : is_listed p prefixes old.dirty ≡ true = ap (λ (v : Cells). is_listed p prefixes v.dirty) (sym is) ∙ listed in
    subst (Sets place number prefixes true old) (sym is)
    (record { numbers = refl; listed = λ q. either q (eq_by_cmp prefix_cmp q (prefix_in prefixes place)) refl here; below = kept.below; rising = kept.rising }) where
      either : (q : IpPrefix) → (t : Bool) → eq_by_cmp prefix_cmp q (prefix_in prefixes place) ≡ t → is_listed p prefixes old.dirty ≡ true
          → is_listed q prefixes old.dirty ≡ (eq_by_cmp prefix_cmp q (prefix_in prefixes place) || is_listed q prefixes old.dirty)
      either q true tied here =
          subst (λ (r : IpPrefix). is_listed r prefixes old.dirty ≡ true) (sym (prefix_exact q (prefix_in prefixes place) (is_equal (prefix_cmp q (prefix_in prefixes place)) tied) ∙ at)) here
          ∙ sym (or_left (eq_by_cmp prefix_cmp q (prefix_in prefixes place)) (is_listed q prefixes old.dirty) tied)
      either q false apart here = ap (λ (t : Bool). t || is_listed q prefixes old.dirty) (sym apart)

pub set_unchanged : (prefixes : List IpPrefix) (place number : ℕ) (old new : Cells) → AreKept (length prefixes) prefixes old
    → new ≡ record { numbers = set old.numbers place number; dirty = old.dirty } → Sets place number prefixes false old new
set_unchanged prefixes place number old new kept is =
    subst (Sets place number prefixes false old) (sym is) (record { numbers = refl; listed = λ q. refl; below = kept.below; rising = kept.rising })
