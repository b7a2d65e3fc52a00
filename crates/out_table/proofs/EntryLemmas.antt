-- What the entries of a table say of each prefix and slot.
use Rattle.std.proofs.Common.{◌≡◌, ℕ, suc, ◌+◌, ◌-◌, ◌<◌, Bool, true, false, cond, not, ◌&&◌, ◌||◌, eqb, ltb, List, [], ◌∷◌, ◌++◌, map, get_or, Option, Some, None, is_some, refl, sym, ap, subst, ◌∙◌, arith, ◌⊎◌, inl, inr}
use Rattle.std.specs.List.{AllByRecursion, list_any}
use Rattle.std.specs.Map.{keys_of}
use Rattle.std.specs.List.Sorted.{IsStrictlySortedBy}
use Rattle.std.specs.FinMap as map_of
use Rattle.std.specs.FinSet as set_of
use Rattle.std.specs.Option.{option_and_then}
use Rattle.std.specs.Ordering.{is_eq, eq_by_cmp}
use Rattle.std.specs.declared.cmp.Ordering.{Ordering}
use Rattle.std.specs.declared.cmp.Ordering.TheVariants.{Less}
use Rattle.std.proofs.lemmas.Bool.{cases_order, lt-ltb, le-ltb, eq-eqb, ne_eqb}
use Rattle.std.proofs.lemmas.List.Folds.{list_any-append}
use Rattle.rcp_base.specs.IpPrefix.{IpPrefix, prefix_cmp}
use Rattle.rcp_model.specs.Ribs.{RibKey, rib_cmp}
use Rattle.rcp_model.proofs.RibLemmas.{prefix_total, prefix_exact, rib_total, rib_exact, rib_tied}
use Rattle.out_table.proofs.RisingLemmas.{is_equal}
use Rattle.out_table.specs.Cells.{Cells, no_cells, number_at}
use Rattle.out_table.specs.Tables.{Table, cell, is_opened, is_dirty}
use Rattle.out_table.specs.Places.{Place, place_of, prefix_in, cells_at, number_of, is_listed, with_entry, entries_in, entries_from, dirty_from, table_of}

-- ---- the entries of one slot

none_above : (q : IpPrefix) (places : List Place) → AllByRecursion (λ p. prefix_cmp q p ≡ Less) (keys_of places) → place_of q places ≡ None
none_above q [] above = refl
none_above q (e ∷ places) above = ap (λ (o : Ordering). cond (is_eq o) (Some e.1) (place_of q places)) above.0 ∙ none_above q places above.1

-- no place comes after the one that is found
pub none_later : (q : IpPrefix) (e : Place) (places : List Place) → IsStrictlySortedBy prefix_cmp (keys_of (e ∷ places)) → eq_by_cmp prefix_cmp q e.0 ≡ true → place_of q places ≡ None
unfolding IsStrictlySortedBy
none_later q e places sorted is =
    let same : e.0 ≡ q = sym (prefix_exact q e.0 (is_equal (prefix_cmp q e.0) is)) in
    none_above q places (subst (λ (p : IpPrefix). AllByRecursion (λ later. prefix_cmp p later ≡ Less) (keys_of places)) same sorted.0)

pub sorted_later : (e : Place) (places : List Place) → IsStrictlySortedBy prefix_cmp (keys_of (e ∷ places)) → IsStrictlySortedBy prefix_cmp (keys_of places)
unfolding IsStrictlySortedBy
sorted_later e places sorted = sorted.1

pub sorted_above : (e : Place) (places : List Place) → IsStrictlySortedBy prefix_cmp (keys_of (e ∷ places)) → AllByRecursion (λ p. prefix_cmp e.0 p ≡ Less) (keys_of places)
unfolding IsStrictlySortedBy
sorted_above e places sorted = sorted.0

first_some : Bool → Option ℕ → Option ℕ → Option ℕ
first_some true (Some n) rest = Some n
first_some true None rest = rest
first_some false value rest = rest

find-with_entry : (k key : RibKey) (value : Option ℕ) (entries : List (RibKey × ℕ)) → map_of.find rib_cmp k (with_entry key value entries) ≡ first_some (eq_by_cmp rib_cmp k key) value (map_of.find rib_cmp k entries)
unfolding first_some
find-with_entry k key None entries = elim (eq_by_cmp rib_cmp k key) as (λ t. map_of.find rib_cmp k entries ≡ first_some t None (map_of.find rib_cmp k entries)) [ true ↦ refl | false ↦ refl ]
find-with_entry k key (Some n) entries = elim (eq_by_cmp rib_cmp k key) as (λ t. cond t (Some n) (map_of.find rib_cmp k entries) ≡ first_some t (Some n) (map_of.find rib_cmp k entries)) [ true ↦ refl | false ↦ refl ]

joined : (t u : Bool) (value later rest : Option ℕ) → rest ≡ cond u later None → (t ≡ true → later ≡ None) → first_some (t && u) value rest ≡ cond u (cond t value later) None
unfolding first_some
joined true true (Some n) later rest is none = refl
joined true true None later rest is none = is ∙ none refl
joined true false value later rest is none = is
joined false true value later rest is none = is
joined false false value later rest is none = is

number_here : (t : Bool) (e : Place) (place : Option ℕ) (numbers : List ℕ)
    → cond t (number_at e.1 numbers) (option_and_then (λ place. number_at place numbers) place) ≡ option_and_then (λ place. number_at place numbers) (cond t (Some e.1) place)
number_here true e place numbers = refl
number_here false e place numbers = refl

none_either : (t : Bool) (o : Option ℕ) → o ≡ None → None ≡ cond t o None
none_either true o is = sym is
none_either false o is = refl

find-entries_in : (q : IpPrefix) (s slot : ℕ) (places : List Place) (numbers : List ℕ) → IsStrictlySortedBy prefix_cmp (keys_of places)
    → map_of.find rib_cmp (q, s) (entries_in slot places numbers) ≡ cond (eqb s slot) (number_of q places numbers) None
find-entries_in q s slot [] numbers sorted = none_either (eqb s slot) (number_of q [] numbers) refl
find-entries_in q s slot (e ∷ places) numbers sorted =
    let t = eq_by_cmp prefix_cmp q e.0 in
    find-with_entry (q, s) (e.0, slot) (number_at e.1 numbers) (entries_in slot places numbers)
    ∙ ap (λ (b : Bool). first_some b (number_at e.1 numbers) (map_of.find rib_cmp (q, s) (entries_in slot places numbers))) (rib_tied (q, s) (e.0, slot))
    ∙ joined t (eqb s slot) (number_at e.1 numbers) (number_of q places numbers) _ (find-entries_in q s slot places numbers (sorted_later e places sorted))
    (λ is. ap (option_and_then (λ place. number_at place numbers)) (none_later q e places sorted is))
    ∙ ap (λ (o : Option ℕ). cond (eqb s slot) o None) (number_here t e (place_of q places) numbers)

-- ---- the entries of all slots

or_some : Option ℕ → Option ℕ → Option ℕ
or_some (Some n) rest = Some n
or_some None rest = rest

find-append : (k : RibKey) (xs ys : List (RibKey × ℕ)) → map_of.find rib_cmp k (xs ++ ys) ≡ or_some (map_of.find rib_cmp k xs) (map_of.find rib_cmp k ys)
unfolding or_some
find-append k [] ys = refl
find-append k (x ∷ xs) ys =
    let rest = find-append k xs ys in
    elim (eq_by_cmp rib_cmp k x.0) as (λ t. cond t (Some x.1) (map_of.find rib_cmp k (xs ++ ys)) ≡ or_some (cond t (Some x.1) (map_of.find rib_cmp k xs)) (map_of.find rib_cmp k ys)) [ true ↦ refl | false ↦ rest ]

or_none : (o : Option ℕ) → or_some o None ≡ o
unfolding or_some
or_none None = refl
or_none (Some n) = refl

no_number_of : (q : IpPrefix) (places : List Place) → number_of q places [] ≡ None
no_number_of q places = elim (place_of q places) as (λ o. option_and_then (λ place. number_at place []) o ≡ None) [ None ↦ refl | Some place ↦ refl ]

both_none : (t : Bool) (o : Option ℕ) → o ≡ None → None ≡ cond t None o
both_none true o is = refl
both_none false o is = sym is

-- an element further on
get_or_later : {X : Type 0} (x : X) (xs : List X) (s base : ℕ) (d : X) → base < s → get_or xs (s - (base + 1)) d ≡ get_or (x ∷ xs) (s - base) d
get_or_later x xs s base d less = ap (λ n. get_or (x ∷ xs) n d) (let e : suc (s - (base + 1)) ≡ s - base = omega arith in e)

get_or_first : {X : Type 0} (x : X) (xs : List X) (s base : ℕ) (d : X) → s ≡ base → x ≡ get_or (x ∷ xs) (s - base) d
get_or_first x xs s base d same = ap (λ n. get_or (x ∷ xs) n d) (let e : 0 ≡ s - base = omega arith in e)

find-entries_from : (q : IpPrefix) (s base : ℕ) (places : List Place) (columns : List Cells) → IsStrictlySortedBy prefix_cmp (keys_of places)
    → map_of.find rib_cmp (q, s) (entries_from base places columns) ≡ cond (ltb s base) None (number_of q places (cells_at (s - base) columns).numbers)
unfolding or_some
find-entries_from q s base places [] sorted = both_none (ltb s base) _ (no_number_of q places)
find-entries_from q s base places (cells ∷ columns) sorted =
    find-append (q, s) (entries_in base places cells.numbers) (entries_from (base + 1) places columns)
    ∙ ap (λ (o : Option ℕ). or_some o (map_of.find rib_cmp (q, s) (entries_from (base + 1) places columns))) (find-entries_in q s base places cells.numbers sorted)
    ∙ ap (or_some (cond (eqb s base) (number_of q places cells.numbers) None)) (find-entries_from q s (base + 1) places columns sorted)
    ∙ by_order (cases_order s base) where
      here : Cells → Option ℕ
      here c = number_of q places c.numbers

      by_tests : (t u v : Bool) → eqb s base ≡ t → ltb s (base + 1) ≡ u → ltb s base ≡ v
          → or_some (cond t (here cells) None) (cond u None (here (cells_at (s - (base + 1)) columns))) ≡ cond v None (here (cells_at (s - base) (cells ∷ columns)))
          → or_some (cond (eqb s base) (here cells) None) (cond (ltb s (base + 1)) None (here (cells_at (s - (base + 1)) columns))) ≡ cond (ltb s base) None (here (cells_at (s - base) (cells ∷ columns)))
      by_tests t u v is is' is'' h =
          subst (λ (w : Bool). or_some (cond w (here cells) None) (cond (ltb s (base + 1)) None (here (cells_at (s - (base + 1)) columns))) ≡ cond (ltb s base) None (here (cells_at (s - base) (cells ∷ columns)))) (sym is)
          (subst (λ (w : Bool). or_some (cond t (here cells) None) (cond w None (here (cells_at (s - (base + 1)) columns))) ≡ cond (ltb s base) None (here (cells_at (s - base) (cells ∷ columns)))) (sym is')
          (subst (λ (w : Bool). or_some (cond t (here cells) None) (cond u None (here (cells_at (s - (base + 1)) columns))) ≡ cond w None (here (cells_at (s - base) (cells ∷ columns)))) (sym is'') h))

      by_order : (s ≡ base) ⊎ ((s < base) ⊎ (base < s))
          → or_some (cond (eqb s base) (here cells) None) (cond (ltb s (base + 1)) None (here (cells_at (s - (base + 1)) columns))) ≡ cond (ltb s base) None (here (cells_at (s - base) (cells ∷ columns)))
      by_order (inl same) = by_tests true true false (eq-eqb s base same) (lt-ltb s (base + 1) (omega arith)) (le-ltb s base (omega arith)) (or_none (here cells) ∙ ap here (get_or_first cells columns s base no_cells same))
      by_order (inr (inl less)) = by_tests false true true (ne_eqb s base (λ e. absurd (omega arith))) (lt-ltb s (base + 1) (omega arith)) (lt-ltb s base less) refl
      by_order (inr (inr more)) = by_tests false false false (ne_eqb s base (λ e. absurd (omega arith))) (le-ltb s (base + 1) (omega arith)) (le-ltb s base (omega arith)) (ap here (get_or_later cells columns s base no_cells more))

-- ---- the dirty keys

shared : (t u r : Bool) → ((t && u) || (u && r)) ≡ (u && (t || r))
shared true true r = refl
shared true false r = refl
shared false true r = refl
shared false false r = refl

any_in : (q : IpPrefix) (s slot : ℕ) (prefixes : List IpPrefix) (dirty : List ℕ)
    → list_any (eq_by_cmp rib_cmp (q, s)) (map (λ place. (prefix_in prefixes place, slot)) dirty) ≡ (eqb s slot && is_listed q prefixes dirty)
any_in q s slot prefixes [] = elim (eqb s slot) as (λ t. false ≡ (t && false)) [ true ↦ refl | false ↦ refl ]
any_in q s slot prefixes (place ∷ dirty) =
    ap (λ (b : Bool). b || list_any (eq_by_cmp rib_cmp (q, s)) (map (λ place. (prefix_in prefixes place, slot)) dirty)) (rib_tied (q, s) (prefix_in prefixes place, slot))
    ∙ ap (λ (b : Bool). (eq_by_cmp prefix_cmp q (prefix_in prefixes place) && eqb s slot) || b) (any_in q s slot prefixes dirty)
    ∙ shared (eq_by_cmp prefix_cmp q (prefix_in prefixes place)) (eqb s slot) (is_listed q prefixes dirty)

or_false : (t : Bool) → (t || false) ≡ t
or_false true = refl
or_false false = refl

any_from : (q : IpPrefix) (s base : ℕ) (prefixes : List IpPrefix) (columns : List Cells)
    → list_any (eq_by_cmp rib_cmp (q, s)) (dirty_from base prefixes columns) ≡ (not (ltb s base) && is_listed q prefixes (cells_at (s - base) columns).dirty)
any_from q s base prefixes [] = elim (not (ltb s base)) as (λ t. false ≡ (t && false)) [ true ↦ refl | false ↦ refl ]
any_from q s base prefixes (cells ∷ columns) =
    list_any-append (eq_by_cmp rib_cmp (q, s)) (map (λ place. (prefix_in prefixes place, base)) cells.dirty) (dirty_from (base + 1) prefixes columns)
    ∙ ap (λ (b : Bool). b || list_any (eq_by_cmp rib_cmp (q, s)) (dirty_from (base + 1) prefixes columns)) (any_in q s base prefixes cells.dirty)
    ∙ ap (λ (b : Bool). (eqb s base && is_listed q prefixes cells.dirty) || b) (any_from q s (base + 1) prefixes columns)
    ∙ by_order (cases_order s base) where
      here : Cells → Bool
      here c = is_listed q prefixes c.dirty

      by_tests : (t u v : Bool) → eqb s base ≡ t → ltb s (base + 1) ≡ u → ltb s base ≡ v
          → ((t && here cells) || (not u && here (cells_at (s - (base + 1)) columns))) ≡ (not v && here (cells_at (s - base) (cells ∷ columns)))
          → ((eqb s base && here cells) || (not (ltb s (base + 1)) && here (cells_at (s - (base + 1)) columns))) ≡ (not (ltb s base) && here (cells_at (s - base) (cells ∷ columns)))
      by_tests t u v is is' is'' h =
          subst (λ (w : Bool). ((w && here cells) || (not (ltb s (base + 1)) && here (cells_at (s - (base + 1)) columns))) ≡ (not (ltb s base) && here (cells_at (s - base) (cells ∷ columns)))) (sym is)
          (subst (λ (w : Bool). ((t && here cells) || (not w && here (cells_at (s - (base + 1)) columns))) ≡ (not (ltb s base) && here (cells_at (s - base) (cells ∷ columns)))) (sym is')
          (subst (λ (w : Bool). ((t && here cells) || (not u && here (cells_at (s - (base + 1)) columns))) ≡ (not w && here (cells_at (s - base) (cells ∷ columns)))) (sym is'') h))

      by_order : (s ≡ base) ⊎ ((s < base) ⊎ (base < s))
          → ((eqb s base && here cells) || (not (ltb s (base + 1)) && here (cells_at (s - (base + 1)) columns))) ≡ (not (ltb s base) && here (cells_at (s - base) (cells ∷ columns)))
      by_order (inl same) = by_tests true true false (eq-eqb s base same) (lt-ltb s (base + 1) (omega arith)) (le-ltb s base (omega arith)) (or_false (here cells) ∙ ap here (get_or_first cells columns s base no_cells same))
      by_order (inr (inl less)) = by_tests false true true (ne_eqb s base (λ e. absurd (omega arith))) (lt-ltb s (base + 1) (omega arith)) (lt-ltb s base less) refl
      by_order (inr (inr more)) = by_tests false false false (ne_eqb s base (λ e. absurd (omega arith))) (le-ltb s (base + 1) (omega arith)) (le-ltb s base (omega arith)) (ap here (get_or_later cells columns s base no_cells more))

-- ---- the table

number_from_none : (q : IpPrefix) (s : ℕ) (places : List Place) (columns : List Cells) → cond (ltb s 0) None (number_of q places (cells_at (s - 0) columns).numbers) ≡ number_of q places (cells_at s columns).numbers
number_from_none q s places columns = ap (λ (t : Bool). cond t None (number_of q places (cells_at (s - 0) columns).numbers)) (le-ltb s 0 (omega arith)) ∙ ap (λ n. number_of q places (cells_at n columns).numbers) (let e : s - 0 ≡ s = omega arith in e)

pub cell_is : (members : ℕ) (places : List Place) (prefixes : List IpPrefix) (columns : List Cells) → IsStrictlySortedBy prefix_cmp (keys_of places)
    → (slot : ℕ) (p : IpPrefix) → cell (table_of members places prefixes columns) slot p ≡ number_of p places (cells_at slot columns).numbers
unfolding table_of
cell_is members places prefixes columns sorted slot p =
    map_of.get-from_entries rib_total (entries_from 0 places columns) (p, slot) ∙ find-entries_from p slot 0 places columns sorted ∙ number_from_none p slot places columns

pub dirty_is : (members : ℕ) (places : List Place) (prefixes : List IpPrefix) (columns : List Cells)
    → (slot : ℕ) (p : IpPrefix) → is_dirty (table_of members places prefixes columns) slot p ≡ is_listed p prefixes (cells_at slot columns).dirty
unfolding table_of
dirty_is members places prefixes columns slot p =
    set_of.contains-from_list rib_total (dirty_from 0 prefixes columns) (p, slot) ∙ any_from p slot 0 prefixes columns
    ∙ ap (λ (t : Bool). not t && is_listed p prefixes (cells_at (slot - 0) columns).dirty) (le-ltb slot 0 (omega arith)) ∙ ap (λ n. is_listed p prefixes (cells_at n columns).dirty) (let e : slot - 0 ≡ slot = omega arith in e)

any-keys : (p : IpPrefix) (places : List Place) → list_any (eq_by_cmp prefix_cmp p) (keys_of places) ≡ is_some (place_of p places)
any-keys p [] = refl
any-keys p (e ∷ places) = let rest = any-keys p places in
    elim (eq_by_cmp prefix_cmp p e.0) as (λ t. (t || list_any (eq_by_cmp prefix_cmp p) (keys_of places)) ≡ is_some (cond t (Some e.1) (place_of p places))) [ true ↦ refl | false ↦ rest ]

pub opened_is : (members : ℕ) (places : List Place) (prefixes : List IpPrefix) (columns : List Cells)
    → (p : IpPrefix) → is_opened (table_of members places prefixes columns) p ≡ is_some (place_of p places)
unfolding table_of
opened_is members places prefixes columns p = set_of.contains-from_list prefix_total (keys_of places) p ∙ any-keys p places

-- tables that answer alike are equal
pub same_table : (t u : Table) → t.members ≡ u.members → ((p : IpPrefix) → is_opened t p ≡ is_opened u p) → ((slot : ℕ) (p : IpPrefix) → cell t slot p ≡ cell u slot p)
    → ((slot : ℕ) (p : IpPrefix) → is_dirty t slot p ≡ is_dirty u slot p) → t ≡ u
same_table t u members opened cells dirty =
    let open_same = set_of.same_set prefix_total prefix_exact t.opened u.opened opened in
    let cells_same = map_of.same_map rib_total rib_exact t.cells u.cells (λ key. cells key.1 key.0) in
    let dirty_same = set_of.same_set rib_total rib_exact t.dirty u.dirty (λ key. dirty key.1 key.0) in
    λ i. record { members = members i; opened = open_same i; cells = cells_same i; dirty = dirty_same i }
