-- What a table keeps and means where a prefix is opened.
use Rattle.std.proofs.Common.{◌≡◌, ◌≢◌, ℕ, ◌<◌, ◌≤◌, Bool, true, false, cond, ◌||◌, List, [], ◌∷◌, ◌++◌, length, Option, Some, None, is_some, refl, sym, ap, subst, ◌∙◌, arith, ◌⊎◌, inl, inr}
use Rattle.std.specs.List.{AllByRecursion}
use Rattle.std.specs.Map.{keys_of}
use Rattle.std.specs.List.Sorted.{IsStrictlySortedBy}
use Rattle.std.specs.FinSet as set_of
use Rattle.std.specs.Option.{option_and_then}
use Rattle.std.specs.Ordering.{eq_by_cmp}
use Rattle.std.specs.declared.cmp.Ordering.TheVariants.{Less}
use Rattle.std.proofs.lemmas.Bool.{cases_eq, cases_lt, false≢true}
use Rattle.std.proofs.Common.{Result, Ok, Err, OnOk, OnErr}
use Rattle.std.proofs.lemmas.Option.{same_Some, none-some}
use Rattle.std.proofs.lemmas.Cmp.{eq_by_cmp_equiv}
use Rattle.std.proofs.lemmas.List.{get_or_append_left, get_or_push, get_or_past, length_push}
use Rattle.rcp_base.specs.IpPrefix.{IpPrefix, prefix_cmp}
use Rattle.rcp_model.specs.Ribs.{route_no_of}
use Rattle.rcp_model.proofs.RibLemmas.{prefix_total}
use Rattle.out_table.specs.Cells.{Cells, no_cells, number_at, Keeps}
use Rattle.out_table.specs.Tables.{Table, is_opened, opened}
use Rattle.out_table.specs.Places.{Place, place_of, prefix_in, no_prefix, AreInverse, cells_at, number_of, is_listed, IsRising, AreKept, IsKept, KeepsAll, IsRoom, Adds, table_of}
use Rattle.out_table.proofs.TableLemmas.{tied_same, apart_of, members_same, members_are}
use Rattle.out_table.proofs.EntryLemmas.{cell_is, dirty_is, opened_is, same_table}

-- ---- room is made

same_numbers : (q : IpPrefix) (places : List Place) (old new : Cells) → Keeps old new → number_of q places new.numbers ≡ number_of q places old.numbers
same_numbers q places old new kept = at (place_of q places) where
  at : (o : Option ℕ) → option_and_then (λ k. number_at k new.numbers) o ≡ option_and_then (λ k. number_at k old.numbers) o
  at None = refl
  at (Some k) = ap route_no_of (kept.numbers k)

-- more room doesn't change the table
pub table_grown : (members : ℕ) (places : List Place) (prefixes : List IpPrefix) (columns more : List Cells) → IsStrictlySortedBy prefix_cmp (keys_of places) → KeepsAll columns more
    → table_of members places prefixes more ≡ table_of members places prefixes columns
table_grown members places prefixes columns more sorted kept =
    same_table (table_of members places prefixes more) (table_of members places prefixes columns) (members_same members places prefixes more columns)
    (λ q. opened_is members places prefixes more q ∙ sym (opened_is members places prefixes columns q))
    (λ s q. cell_is members places prefixes more sorted s q ∙ same_numbers q places (cells_at s columns) (cells_at s more) (kept.each s) ∙ sym (cell_is members places prefixes columns sorted s q))
    (λ s q. dirty_is members places prefixes more s q ∙ ap (is_listed q prefixes) (kept.each s).dirty ∙ sym (dirty_is members places prefixes columns s q))

kept-grown : (room slot : ℕ) (prefixes : List IpPrefix) (old new : Cells) → Keeps old new → AreKept room prefixes old → AreKept room prefixes new
kept-grown room slot prefixes old new keeps kept = let long = kept.long in let more = keeps.more in record {
  long = omega arith;
  unused = λ k past. keeps.numbers k ∙ kept.unused k past;
  below = subst (AllByRecursion (λ place. place < length prefixes)) (sym keeps.dirty) kept.below;
  rising = subst (IsRising prefixes) (sym keeps.dirty) kept.rising;
}

-- a slot without cells, where there is no room
kept_none : (prefixes : List IpPrefix) → AreKept 0 prefixes no_cells
kept_none prefixes = record { long = omega arith; unused = λ k past. refl; below = tt; rising = tt }

pub kept_grown : (members room : ℕ) (places : List Place) (prefixes : List IpPrefix) (columns more : List Cells) → IsKept members room places prefixes columns → KeepsAll columns more → length more ≤ members
    → IsKept members room places prefixes more
kept_grown members room places prefixes columns more kept keeps few = record {
  inverse = kept.inverse;
  rows = kept.rows;
  few = few;
  full = λ some. let all = kept.full some in let longer = keeps.more in omega arith;
  each = λ s less. kept-grown room s prefixes (cells_at s columns) (cells_at s more) (keeps.each s) (at s less (cases_lt s (length columns)));
} where
  at : (s : ℕ) → s < length more → (s < length columns) ⊎ (length columns ≤ s) → AreKept room prefixes (cells_at s columns)
  at s less (inl within) = kept.each s within
  at s less (inr past) =
      let no_room : room ≡ 0 = empty (cases_lt 0 room) in
      subst (λ (n : ℕ). AreKept n prefixes (cells_at s columns)) (sym no_room) (subst (AreKept 0 prefixes) (sym (get_or_past columns s no_cells past)) (kept_none prefixes)) where
        empty : (0 < room) ⊎ (room ≤ 0) → room ≡ 0
        empty (inl some) = let all = kept.full some in absurd (omega arith)
        empty (inr none) = omega arith

pub room_of : (members room : ℕ) (places : List Place) (prefixes : List IpPrefix) (columns : List Cells) → IsKept members room places prefixes columns → IsRoom members room columns
room_of members room places prefixes columns kept = record { few = kept.few; full = kept.full; long = λ slot less. (kept.each slot less).long }

pub kept_room : (members room more : ℕ) (places : List Place) (prefixes : List IpPrefix) (columns longer : List Cells) → IsKept members room places prefixes columns → KeepsAll columns longer → IsRoom members more longer
    → length prefixes ≤ more → IsKept members more places prefixes longer
kept_room members room more places prefixes columns longer kept keeps roomy rows =
    let grown = kept_grown members room places prefixes columns longer kept keeps roomy.few in
    record {
      inverse = kept.inverse;
      rows = rows;
      few = roomy.few;
      full = roomy.full;
      each = λ s less. let cells = grown.each s less in record { long = roomy.long s less; unused = cells.unused; below = cells.below; rising = cells.rising };
    }

pub roomy : (members room : ℕ) (columns : List Cells) → length columns ≡ members → ((slot : ℕ) → slot < length columns → room ≤ length (cells_at slot columns).numbers) → IsRoom members room columns
roomy members room columns full long = record { few = omega arith; full = λ some. full; long = long }

-- ---- a prefix gets the next place

turned : (p q : IpPrefix) → eq_by_cmp prefix_cmp p q ≡ eq_by_cmp prefix_cmp q p
turned p q = (eq_by_cmp_equiv prefix_total).symm p q

at_other : (p q : IpPrefix) (place : ℕ) (old new : List Place) → Adds p place old new → q ≢ p → place_of q new ≡ place_of q old
at_other p q place old new adds other = adds.at q ∙ by_test (eq_by_cmp prefix_cmp p q) refl where
  by_test : (t : Bool) → eq_by_cmp prefix_cmp p q ≡ t → cond t (Some place) (place_of q old) ≡ place_of q old
  by_test true tied = absurd (other (sym (tied_same q p tied)))
  by_test false apart = refl

at_itself : (p : IpPrefix) (place : ℕ) (old new : List Place) → Adds p place old new → place_of p new ≡ Some place
at_itself p place old new adds = adds.at p ∙ by_test (eq_by_cmp prefix_cmp p p) refl where
  by_test : (t : Bool) → eq_by_cmp prefix_cmp p p ≡ t → cond t (Some place) (place_of p old) ≡ Some place
  by_test true tied = refl
  by_test false apart = absurd (apart_of p p apart refl)

same_or_other : (p q : IpPrefix) → (q ≡ p) ⊎ (q ≢ p)
same_or_other p q = by_test (eq_by_cmp prefix_cmp q p) refl where
  by_test : (t : Bool) → eq_by_cmp prefix_cmp q p ≡ t → (q ≡ p) ⊎ (q ≢ p)
  by_test true tied = inl (tied_same p q tied)
  by_test false apart = inr (apart_of p q apart)

pub inverse_added : (p : IpPrefix) (old new : List Place) (prefixes : List IpPrefix) → AreInverse old prefixes → place_of p old ≡ None → Adds p (length prefixes) old new → AreInverse new (prefixes ++ p ∷ [])
inverse_added p old new prefixes inverse none adds = record { sorted = adds.sorted; placed = λ q k found. placed q k found (same_or_other p q); found = λ k within. found k within (cases_eq k (length prefixes)) } where
  placed : (q : IpPrefix) (k : ℕ) → place_of q new ≡ Some k → (q ≡ p) ⊎ (q ≢ p) → (k < length (prefixes ++ p ∷ [])) × (prefix_in (prefixes ++ p ∷ []) k ≡ q)
  placed q k found (inl same) =
      let is : k ≡ length prefixes = same_Some k (length prefixes) (sym found ∙ ap (λ (r : IpPrefix). place_of r new) same ∙ at_itself p (length prefixes) old new adds) in
      (omega (arith, length_push prefixes p), get_or_push prefixes p no_prefix k (sym is) ∙ sym same)
  placed q k found (inr other) =
      let before = inverse.placed q k (sym (at_other p q (length prefixes) old new adds other) ∙ found) in
      (omega (arith, length_push prefixes p, before.0), get_or_append_left prefixes (p ∷ []) no_prefix k before.0 ∙ before.1)

  found : (k : ℕ) → k < length (prefixes ++ p ∷ []) → (k ≡ length prefixes) ⊎ (k ≢ length prefixes) → place_of (prefix_in (prefixes ++ p ∷ []) k) new ≡ Some k
  found k within (inl is) = ap (λ (r : IpPrefix). place_of r new) (get_or_push prefixes p no_prefix k (sym is)) ∙ at_itself p (length prefixes) old new adds ∙ ap (λ (n : ℕ). Some n) (sym is)
  found k within (inr other) =
      let less : k < length prefixes = omega (arith, length_push prefixes p) in
      let known = inverse.found k less in
      let differs : prefix_in prefixes k ≢ p = λ same. none-some k (sym none ∙ ap (λ (r : IpPrefix). place_of r old) (sym same) ∙ known) in
      ap (λ (r : IpPrefix). place_of r new) (get_or_append_left prefixes (p ∷ []) no_prefix k less) ∙ at_other p (prefix_in prefixes k) (length prefixes) old new adds differs ∙ known

-- the order of places below a length is the same in a longer list of prefixes
same_prefix_in : (prefixes : List IpPrefix) (p : IpPrefix) (k : ℕ) → k < length prefixes → prefix_in (prefixes ++ p ∷ []) k ≡ prefix_in prefixes k
same_prefix_in prefixes p k within = get_or_append_left prefixes (p ∷ []) no_prefix k within

above_longer : (prefixes : List IpPrefix) (p : IpPrefix) (place : ℕ) (later : List ℕ) → place < length prefixes → AllByRecursion (λ k. k < length prefixes) later
    → AllByRecursion (λ other. prefix_cmp (prefix_in prefixes place) (prefix_in prefixes other) ≡ Less) later
    → AllByRecursion (λ other. prefix_cmp (prefix_in (prefixes ++ p ∷ []) place) (prefix_in (prefixes ++ p ∷ []) other) ≡ Less) later
above_longer prefixes p place [] within below above = tt
above_longer prefixes p place (other ∷ later) within below above = (
  subst (λ (q : IpPrefix). prefix_cmp q (prefix_in (prefixes ++ p ∷ []) other) ≡ Less) (sym (same_prefix_in prefixes p place within))
      (subst (λ (q : IpPrefix). prefix_cmp (prefix_in prefixes place) q ≡ Less) (sym (same_prefix_in prefixes p other below.0)) above.0),
  above_longer prefixes p place later within below.1 above.1,
)

rising_longer : (prefixes : List IpPrefix) (p : IpPrefix) (dirty : List ℕ) → AllByRecursion (λ k. k < length prefixes) dirty → IsRising prefixes dirty → IsRising (prefixes ++ p ∷ []) dirty
rising_longer prefixes p [] below rising = tt
rising_longer prefixes p (place ∷ dirty) below rising = (above_longer prefixes p place dirty below.0 below.1 rising.0, rising_longer prefixes p dirty below.1 rising.1)

below_longer : (prefixes : List IpPrefix) (p : IpPrefix) (dirty : List ℕ) → AllByRecursion (λ k. k < length prefixes) dirty → AllByRecursion (λ k. k < length (prefixes ++ p ∷ [])) dirty
below_longer prefixes p [] below = tt
below_longer prefixes p (place ∷ dirty) below = (omega (arith, length_push prefixes p, below.0), below_longer prefixes p dirty below.1)

listed_longer : (q : IpPrefix) (prefixes : List IpPrefix) (p : IpPrefix) (dirty : List ℕ) → AllByRecursion (λ k. k < length prefixes) dirty → is_listed q (prefixes ++ p ∷ []) dirty ≡ is_listed q prefixes dirty
listed_longer q prefixes p [] below = refl
listed_longer q prefixes p (place ∷ dirty) below =
    ap (λ (r : IpPrefix). eq_by_cmp prefix_cmp q r || is_listed q (prefixes ++ p ∷ []) dirty) (same_prefix_in prefixes p place below.0)
    ∙ ap (λ (t : Bool). eq_by_cmp prefix_cmp q (prefix_in prefixes place) || t) (listed_longer q prefixes p dirty below.1)

kept_longer : (room : ℕ) (prefixes : List IpPrefix) (p : IpPrefix) (cells : Cells) → AreKept room prefixes cells → AreKept room (prefixes ++ p ∷ []) cells
kept_longer room prefixes p cells kept = record {
  long = kept.long;
  unused = λ k past. kept.unused k (omega (arith, length_push prefixes p));
  below = below_longer prefixes p cells.dirty kept.below;
  rising = rising_longer prefixes p cells.dirty kept.below kept.rising;
}

pub kept_opened : (members room : ℕ) (p : IpPrefix) (old new : List Place) (prefixes : List IpPrefix) (columns : List Cells) → IsKept members room old prefixes columns → length prefixes < room → place_of p old ≡ None
    → Adds p (length prefixes) old new → IsKept members room new (prefixes ++ p ∷ []) columns
kept_opened members room p old new prefixes columns kept free none adds = record {
  inverse = inverse_added p old new prefixes kept.inverse none adds;
  rows = omega (arith, length_push prefixes p);
  few = kept.few;
  full = kept.full;
  each = λ s less. kept_longer room prefixes p (cells_at s columns) (kept.each s less);
}

-- what no slot has
none_new : (members room : ℕ) (old : List Place) (prefixes : List IpPrefix) (columns : List Cells) (s : ℕ) → IsKept members room old prefixes columns → number_at (length prefixes) (cells_at s columns).numbers ≡ None
none_new members room old prefixes columns s kept = at (cases_lt s (length columns)) where
  at : (s < length columns) ⊎ (length columns ≤ s) → number_at (length prefixes) (cells_at s columns).numbers ≡ None
  at (inl within) = ap route_no_of ((kept.each s within).unused (length prefixes) (omega arith))
  at (inr past) = ap (λ (v : Cells). number_at (length prefixes) v.numbers) (get_or_past columns s no_cells past)

same_dirty : (members room : ℕ) (old : List Place) (prefixes : List IpPrefix) (columns : List Cells) (p : IpPrefix) (s : ℕ) (q : IpPrefix) → IsKept members room old prefixes columns
    → is_listed q (prefixes ++ p ∷ []) (cells_at s columns).dirty ≡ is_listed q prefixes (cells_at s columns).dirty
same_dirty members room old prefixes columns p s q kept = at (cases_lt s (length columns)) where
  at : (s < length columns) ⊎ (length columns ≤ s) → is_listed q (prefixes ++ p ∷ []) (cells_at s columns).dirty ≡ is_listed q prefixes (cells_at s columns).dirty
  at (inl within) = listed_longer q prefixes p (cells_at s columns).dirty (kept.each s within).below
  at (inr past) =
      let none : (cells_at s columns).dirty ≡ [] = ap (λ (v : Cells). v.dirty) (get_or_past columns s no_cells past) in
      ap (is_listed q (prefixes ++ p ∷ [])) none ∙ sym (ap (is_listed q prefixes) none)

pub table_opened : (members room : ℕ) (p : IpPrefix) (old new : List Place) (prefixes : List IpPrefix) (columns : List Cells) → IsKept members room old prefixes columns → place_of p old ≡ None
    → Adds p (length prefixes) old new → table_of members new (prefixes ++ p ∷ []) columns ≡ opened p (table_of members old prefixes columns)
table_opened members room p old new prefixes columns kept none adds =
    same_table (table_of members new (prefixes ++ p ∷ []) columns) (opened p before) same_count
    (λ q. opened_is members new (prefixes ++ p ∷ []) columns q ∙ ap is_some (adds.at q) ∙ either (eq_by_cmp prefix_cmp p q) (place_of q old)
    ∙ sym (set_of.contains-insert prefix_total before.opened p q
    ∙ ap (λ (t : Bool). t || is_opened before q) (sym (turned p q))
    ∙ ap (λ (t : Bool). eq_by_cmp prefix_cmp p q || t) (opened_is members old prefixes columns q)))
    (λ s q. cell_is members new (prefixes ++ p ∷ []) columns adds.sorted s q ∙ numbers_same s q (same_or_other p q) ∙ sym (cell_is members old prefixes columns kept.inverse.sorted s q))
    (λ s q. dirty_is members new (prefixes ++ p ∷ []) columns s q ∙ same_dirty members room old prefixes columns p s q kept ∙ sym (dirty_is members old prefixes columns s q)) where
      before : Table
      before = table_of members old prefixes columns

      same_count : (table_of members new (prefixes ++ p ∷ []) columns).members ≡ (table_of members old prefixes columns).members
      same_count = members_are members new (prefixes ++ p ∷ []) columns ∙ sym (members_are members old prefixes columns)

      either : (t : Bool) (o : Option ℕ) → is_some (cond t (Some (length prefixes)) o) ≡ (t || is_some o)
      either true o = refl
      either false o = refl

      numbers_same : (s : ℕ) (q : IpPrefix) → (q ≡ p) ⊎ (q ≢ p) → number_of q new (cells_at s columns).numbers ≡ number_of q old (cells_at s columns).numbers
      numbers_same s q (inl same) =
          subst (λ (r : IpPrefix). number_of r new (cells_at s columns).numbers ≡ number_of r old (cells_at s columns).numbers) (sym same)
          (ap (λ (o : Option ℕ). option_and_then (λ k. number_at k (cells_at s columns).numbers) o) (at_itself p (length prefixes) old new adds)
          ∙ none_new members room old prefixes columns s kept
          ∙ sym (ap (λ (o : Option ℕ). option_and_then (λ k. number_at k (cells_at s columns).numbers) o) none))
      numbers_same s q (inr other) = ap (λ (o : Option ℕ). option_and_then (λ k. number_at k (cells_at s columns).numbers) o) (at_other p q (length prefixes) old new adds other)

-- a prefix that is opened already
pub table_again : (members : ℕ) (p : IpPrefix) (places : List Place) (prefixes : List IpPrefix) (columns : List Cells) → is_some (place_of p places) ≡ true
    → table_of members places prefixes columns ≡ opened p (table_of members places prefixes columns)
table_again members p places prefixes columns found =
    same_table before (opened p before) refl
    (λ q. is_there q (eq_by_cmp prefix_cmp q p) refl ∙ sym (set_of.contains-insert prefix_total before.opened p q)) (λ s q. refl) (λ s q. refl) where
      before : Table
      before = table_of members places prefixes columns

      is_there : (q : IpPrefix) → (t : Bool) → eq_by_cmp prefix_cmp q p ≡ t → is_opened before q ≡ (eq_by_cmp prefix_cmp q p || is_opened before q)
      is_there q true tied =
          subst (λ (r : IpPrefix). is_opened before r ≡ true) (sym (tied_same p q tied)) (opened_is members places prefixes columns p ∙ found)
          ∙ sym (ap (λ (t : Bool). t || is_opened before q) tied)
      is_there q false apart = sym (ap (λ (t : Bool). t || is_opened before q) apart)

-- ---- where it may fail

pub none_from : (o : Option ℕ) → false ≡ is_some o → o ≡ None
none_from None is = refl
none_from (Some k) is = absurd (false≢true is)

pub on_err : {E : Type 0} (r : Result (Unit {0}) E) (P : Type 0) → P → OnErr r P
on_err (Ok u) P p = tt
on_err (Err e) P p = p

pub kept_either : {E : Type 0} (r : Result (Unit {0}) E) (members room : ℕ) (p : IpPrefix) (old new : List Place) (prefixes longer : List IpPrefix) (columns : List Cells) → IsKept members room old prefixes columns → length prefixes < room
    → place_of p old ≡ None → OnOk r (Adds p (length prefixes) old new) → OnOk r (longer ≡ prefixes ++ p ∷ []) → OnErr r (new ≡ old) → OnErr r (longer ≡ prefixes) → IsKept members room new longer columns
kept_either (Ok u) members room p old new prefixes longer columns kept free none adds prefix same same_prefixes =
    subst (λ (ps : List IpPrefix). IsKept members room new ps columns) (sym prefix) (kept_opened members room p old new prefixes columns kept free none adds)
kept_either (Err e) members room p old new prefixes longer columns kept free none adds prefix same same_prefixes =
    subst (λ (ps : List IpPrefix). IsKept members room new ps columns) (sym same_prefixes) (subst (λ (es : List Place). IsKept members room es prefixes columns) (sym same) kept)

pub table_ok : {E : Type 0} (r : Result (Unit {0}) E) (t : Table) (members room : ℕ) (p : IpPrefix) (old new : List Place) (prefixes longer : List IpPrefix) (columns : List Cells) → IsKept members room old prefixes columns
    → table_of members old prefixes columns ≡ t → place_of p old ≡ None → OnOk r (Adds p (length prefixes) old new) → OnOk r (longer ≡ prefixes ++ p ∷ [])
    → OnOk r (table_of members new longer columns ≡ opened p t)
table_ok (Ok u) t members room p old new prefixes longer columns kept is none adds prefix =
    ap (λ (ps : List IpPrefix). table_of members new ps columns) prefix ∙ table_opened members room p old new prefixes columns kept none adds ∙ ap (opened p) is
table_ok (Err e) t members room p old new prefixes longer columns kept is none adds prefix = tt

pub table_err : {E : Type 0} (r : Result (Unit {0}) E) (t : Table) (members : ℕ) (old new : List Place) (prefixes longer : List IpPrefix) (columns : List Cells)
    → table_of members old prefixes columns ≡ t → OnErr r (new ≡ old) → OnErr r (longer ≡ prefixes) → OnErr r (table_of members new longer columns ≡ t)
table_err (Ok u) t members old new prefixes longer columns is same same_prefixes = tt
table_err (Err e) t members old new prefixes longer columns is same same_prefixes =
    ap (λ (ps : List IpPrefix). table_of members new ps columns) same_prefixes ∙ ap (λ (es : List Place). table_of members es prefixes columns) same ∙ is
