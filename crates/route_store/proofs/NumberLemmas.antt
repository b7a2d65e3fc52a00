-- What the finite map of the rows has at a key, and what a change at one key makes of it.
use Rattle.std.proofs.Common.{◌≡◌, ◌≢◌, ℕ, Bool, true, false, cond, ◌&&◌, ◌==◌, List, [], ◌∷◌, ◌++◌, map, if◌then◌else◌, Option, Some, None, IfSome, Result, Ok, Err, OnOk, OnErr, refl, sym, ap, subst, ◌∙◌}
use Rattle.std.specs.BTreeMap as tree
use Rattle.std.specs.BTreeMap.{is_at, IsOrdered}
use Rattle.std.specs.Cmp.{Equal-is, unsigned_tied, eq_by_cmp_equiv, nat_eq_equiv}
use Rattle.std.specs.FinMap as map_of
use Rattle.std.specs.FinMap.{find, get-from_entries, get-insert, get-remove, same_map}
use Rattle.std.specs.List.Sorted.{IsStrictlySortedBy}
use Rattle.std.specs.declared.cmp.Ordering.TheVariants.{Equal}
use Rattle.std.specs.Map.{keys_of, lookup}
use Rattle.std.specs.Ordering.{nat_cmp, eq_by_cmp}
use Rattle.std.proofs.lemmas.Bool.{eq-eqb}
use Rattle.std.proofs.lemmas.Map.{lookup-none}
use Rattle.std.proofs.lemmas.Map.Entries.{none_past_head, lookup_head, lookup_tail}
use Rattle.std.proofs.lemmas.Map.Keys.{IsDistinct-from_sorted, sorted_tail}
use Rattle.rcp_base.specs.IpPrefix.{IpPrefix, prefix_cmp}
use Rattle.rcp_model.specs.Ribs.{RibKey, rib_cmp}
use Rattle.rcp_model.proofs.RibLemmas.{prefix_total, prefix_exact, rib_total, rib_exact, rib_tied}
use Rattle.route_store.specs.Announcers.{Announcement}
use Rattle.route_store.specs.Rows.{Row, Rows, number_in, number_of, number_at, PutsIn, Puts, SameNumbers, entries_in, numbers_in, IsFilled}

tied_slots : (a b : ℕ) → eq_by_cmp nat_cmp a b ≡ (b == a)
tied_slots a b = unsigned_tied a b ∙ nat_eq_equiv.symm a b

tied_is : (p q : IpPrefix) → eq_by_cmp prefix_cmp p q ≡ true → prefix_cmp p q ≡ Equal
tied_is p q e = (Equal-is (prefix_cmp p q)).0 e

pub tied_prefixes : (p q : IpPrefix) → eq_by_cmp prefix_cmp p q ≡ eq_by_cmp prefix_cmp q p
tied_prefixes p q = (eq_by_cmp_equiv prefix_total).symm p q

pub find_row : (row : Row) (slot : ℕ) → find nat_cmp slot row ≡ number_in row slot
find_row [] slot = refl
find_row (a ∷ row) slot =
    ap (λ (b : Bool). cond b (Some a.1) (find nat_cmp slot row)) (tied_slots slot a.0) ∙ ap (cond (a.0 == slot) (Some a.1)) (find_row row slot)

-- ---- in the entries of all rows

abbrev nothing : (X : Type 0) → Option X
nothing X = None

none_either : {X : Type 0} (b : Bool) → cond b None (nothing X) ≡ nothing X
none_either true = refl
none_either false = refl

both_tests : {X : Type 0} (s t : Bool) (x y z : Option X) → cond (s && t) x (cond s y z) ≡ cond s (cond t x y) z
both_tests true t x y z = refl
both_tests false t x y z = refl

find_prefix : (p q : IpPrefix) (slot : ℕ) (row : Row) → find rib_cmp (p, slot) (map (λ (a : Announcement). ((q, a.0), a.1)) row) ≡ cond (eq_by_cmp prefix_cmp p q) (number_in row slot) None
find_prefix p q slot [] = sym (none_either (eq_by_cmp prefix_cmp p q))
find_prefix p q slot (a ∷ row) =
    ap (λ (b : Bool). cond b (Some a.1) (find rib_cmp (p, slot) (map (λ (a : Announcement). ((q, a.0), a.1)) row))) (rib_tied (p, slot) (q, a.0))
    ∙ ap (cond (eq_by_cmp prefix_cmp p q && slot == a.0) (Some a.1)) (find_prefix p q slot row)
    ∙ both_tests (eq_by_cmp prefix_cmp p q) (slot == a.0) (Some a.1) (number_in row slot) None
    ∙ ap (λ (b : Bool). cond (eq_by_cmp prefix_cmp p q) (cond b (Some a.1) (number_in row slot)) None) (nat_eq_equiv.symm slot a.0)

abbrev or_else : Option ℕ → Option ℕ → Option ℕ
or_else None other = other
or_else (Some n) other = Some n

chosen : (b : Bool) (n : ℕ) (one other : Option ℕ) → cond b (Some n) (or_else one other) ≡ or_else (cond b (Some n) one) other
chosen true n one other = refl
chosen false n one other = refl

find_both : (key : RibKey) (xs ys : List (RibKey × ℕ)) → find rib_cmp key (xs ++ ys) ≡ or_else (find rib_cmp key xs) (find rib_cmp key ys)
find_both key [] ys = refl
find_both key (x ∷ xs) ys =
    ap (cond (eq_by_cmp rib_cmp key x.0) (Some x.1)) (find_both key xs ys) ∙ chosen (eq_by_cmp rib_cmp key x.0) x.1 (find rib_cmp key xs) (find rib_cmp key ys)

or_none : (o : Option ℕ) → or_else o None ≡ o
or_none None = refl
or_none (Some n) = refl

find_rows : (p : IpPrefix) (slot : ℕ) (rows : List (IpPrefix × Row)) → IsStrictlySortedBy prefix_cmp (keys_of rows)
    → find rib_cmp (p, slot) (entries_in rows) ≡ number_of (lookup (is_at (prefix_cmp p)) rows) slot
find_rows p slot [] rising = refl
find_rows p slot (row ∷ rows) rising =
    let later = find_rows p slot rows (sorted_tail prefix_cmp row.0 (keys_of rows) rising) in
    find_both (p, slot) (map (λ (a : Announcement). ((row.0, a.0), a.1)) row.1) (entries_in rows)
    ∙ ap (λ (o : Option ℕ). or_else o (find rib_cmp (p, slot) (entries_in rows))) (find_prefix p row.0 slot row.1)
    ∙ at_test (eq_by_cmp prefix_cmp p row.0) refl later
  where
    at_test : (b : Bool) → eq_by_cmp prefix_cmp p row.0 ≡ b → find rib_cmp (p, slot) (entries_in rows) ≡ number_of (lookup (is_at (prefix_cmp p)) rows) slot
        → or_else (cond b (number_in row.1 slot) None) (find rib_cmp (p, slot) (entries_in rows)) ≡ number_of (lookup (is_at (prefix_cmp p)) (row ∷ rows)) slot
    at_test true is later =
        let none : lookup (is_at (prefix_cmp p)) rows ≡ None = lookup-none (is_at (prefix_cmp p)) rows (none_past_head (eq_by_cmp_equiv prefix_total) p row rows (IsDistinct-from_sorted prefix_cmp (keys_of (row ∷ rows)) rising) is) in
        ap (or_else (number_in row.1 slot)) (later ∙ ap (λ (o : Option Row). number_of o slot) none)
        ∙ or_none (number_in row.1 slot)
        ∙ sym (ap (λ (o : Option Row). number_of o slot) (lookup_head (is_at (prefix_cmp p)) row rows is))
    at_test false is later = later ∙ sym (ap (λ (o : Option Row). number_of o slot) (lookup_tail (is_at (prefix_cmp p)) row rows is))

pub get_number : (rows : Rows) → IsOrdered prefix_cmp rows → (key : RibKey) → map_of.get (numbers_in rows) key ≡ number_at rows key
get_number rows ordered key = get-from_entries rib_total (entries_in rows.entries) key ∙ find_rows key.0 key.1 rows.entries ordered

module _ (old new : Rows) (before : IsOrdered prefix_cmp old) (after : IsOrdered prefix_cmp new) (key : RibKey) where
  pub numbers_put : (n : ℕ) → Puts old new key (Some n) → numbers_in new ≡ map_of.insert (numbers_in old) key n
  numbers_put n puts = same_map rib_total rib_exact _ _ (λ q.
      get_number new after q ∙ puts q
      ∙ sym (get-insert rib_total (numbers_in old) key n q ∙ ap (cond (eq_by_cmp rib_cmp q key) (Some n)) (get_number old before q)))

  pub numbers_taken : Puts old new key None → numbers_in new ≡ map_of.remove (numbers_in old) key
  numbers_taken puts = same_map rib_total rib_exact _ _ (λ q.
      get_number new after q ∙ puts q
      ∙ sym (get-remove rib_total (numbers_in old) key q ∙ ap (cond (eq_by_cmp rib_cmp q key) None) (get_number old before q)))

pub numbers_same : (old new : Rows) → IsOrdered prefix_cmp old → IsOrdered prefix_cmp new → SameNumbers old new → numbers_in new ≡ numbers_in old
numbers_same old new before after same = same_map rib_total rib_exact _ _ (λ q. get_number new after q ∙ same q ∙ sym (get_number old before q))

-- ---- a change of one row

module _ (old new : Rows) (p : IpPrefix) (slot' : Option Row)
    (updates : (q : IpPrefix) → tree.get prefix_cmp new q ≡ cond (is_at (prefix_cmp p) q) slot' (tree.get prefix_cmp old q)) where
  pub puts_at : (slot : ℕ) (value : Option ℕ) → ((r : ℕ) → number_of slot' r ≡ (if slot == r then value else number_of (tree.get prefix_cmp old p) r)) → Puts old new (p, slot) value
  puts_at slot value row key =
      ap (λ (o : Option Row). number_of o key.1) (updates key.0) ∙ at_test (eq_by_cmp prefix_cmp p key.0) refl
      ∙ ap (λ (b : Bool). cond b value (number_at old key)) (sym (rib_tied key (p, slot) ∙ ap (λ (b : Bool). b && key.1 == slot) (tied_prefixes key.0 p)))
    where
      at_test : (b : Bool) → eq_by_cmp prefix_cmp p key.0 ≡ b
          → number_of (cond b slot' (tree.get prefix_cmp old key.0)) key.1 ≡ cond (b && key.1 == slot) value (number_at old key)
      at_test true is =
          let same : p ≡ key.0 = prefix_exact p key.0 (tied_is p key.0 is) in
          row key.1 ∙ ap (λ (b : Bool). cond b value (number_of (tree.get prefix_cmp old p) key.1)) (nat_eq_equiv.symm slot key.1)
          ∙ ap (λ (q : IpPrefix). cond (key.1 == slot) value (number_of (tree.get prefix_cmp old q) key.1)) same
      at_test false is = refl

  -- a row that is as before
  pub same_at : slot' ≡ tree.get prefix_cmp old p → SameNumbers old new
  same_at same key = ap (λ (o : Option Row). number_of o key.1) (updates key.0 ∙ at_test (eq_by_cmp prefix_cmp p key.0) refl) where
    at_test : (b : Bool) → eq_by_cmp prefix_cmp p key.0 ≡ b → cond b slot' (tree.get prefix_cmp old key.0) ≡ tree.get prefix_cmp old key.0
    at_test true is = same ∙ ap (tree.get prefix_cmp old) (prefix_exact p key.0 (tied_is p key.0 is))
    at_test false is = refl

  pub filled_at : IsFilled old → IfSome slot' (λ row. row ≢ []) → IsFilled new
  filled_at filled here q = subst (λ (o : Option Row). IfSome o (λ row. row ≢ [])) (sym (updates q)) (at_test (is_at (prefix_cmp p) q)) where
    at_test : (b : Bool) → IfSome (cond b slot' (tree.get prefix_cmp old q)) (λ row. row ≢ [])
    at_test true = here
    at_test false = filled q

-- ---- of the row that is written

-- the first announcement of a prefix
pub first_row : (row : Row) (slot n : ℕ) (o : Option Row) → row ≡ (slot, n) ∷ [] → o ≡ None → (r : ℕ) → number_of (Some row) r ≡ (if slot == r then Some n else number_of o r)
first_row row slot n o e none r = rw (e, none) refl

pub first_filled : (row : Row) (a : Announcement) → row ≡ a ∷ [] → row ≢ []
first_filled row a e empty = cc

-- the row of a prefix after it was written
pub row_puts : (row new : Row) (slot : ℕ) (value : Option ℕ) (o : Option Row) → PutsIn row new slot value → Some row ≡ o → (r : ℕ) → number_of (Some new) r ≡ (if slot == r then value else number_of o r)
row_puts row new slot value o puts e r = puts r ∙ ap (λ (o : Option Row). cond (slot == r) value (number_of o r)) e

pub row_gone : (row new : Row) (slot : ℕ) (o : Option Row) → PutsIn row new slot None → Some row ≡ o → new ≡ [] → (r : ℕ) → number_of None r ≡ (if slot == r then None else number_of o r)
row_gone row new slot o puts e empty r = sym (ap (λ (x : Row). number_in x r) empty) ∙ row_puts row new slot None o puts e r

pub row_filled : (o : Option Row) (row : Row) → IfSome o (λ row. row ≢ []) → Some row ≡ o → row ≢ []
row_filled o row full e = subst (λ (o : Option Row). IfSome o (λ row. row ≢ [])) (sym e) full

pub set_filled : {A E : Type 0} (r : Result A E) (row new : Row) (slot n : ℕ) → OnOk r (PutsIn row new slot (Some n)) → OnErr r (new ≡ row) → row ≢ [] → new ≢ []
set_filled (Ok a) row new slot n puts same full empty =
    let has = puts slot in
    let here : cond (slot == slot) (Some n) (number_in row slot) ≡ Some n = rw (eq-eqb slot slot refl) refl in
    let none = ap (λ (x : Row). number_in x slot) empty in
    absurd cc
set_filled (Err e) row new slot n puts same full empty = full (sym same ∙ empty)

-- what was written and then taken out is gone
pub gone_through : (old mid new : Rows) (p : IpPrefix) (row : Option Row) → ((q : IpPrefix) → tree.get prefix_cmp mid q ≡ cond (is_at (prefix_cmp p) q) row (tree.get prefix_cmp old q))
    → ((q : IpPrefix) → tree.get prefix_cmp new q ≡ cond (is_at (prefix_cmp p) q) None (tree.get prefix_cmp mid q)) → (q : IpPrefix) → tree.get prefix_cmp new q ≡ cond (is_at (prefix_cmp p) q) None (tree.get prefix_cmp old q)
gone_through old mid new p row written gone q = gone q ∙ ap (cond (is_at (prefix_cmp p) q) None) (written q) ∙ at_test (is_at (prefix_cmp p) q) where
  at_test : (b : Bool) → cond b None (cond b row (tree.get prefix_cmp old q)) ≡ cond b None (tree.get prefix_cmp old q)
  at_test true = refl
  at_test false = refl

-- ---- of a result

pub on_ok : {A E : Type 0} (r : Result A E) (P Q : Type 0) → (P → Q) → OnOk r P → OnOk r Q
on_ok (Ok a) P Q f p = f p
on_ok (Err e) P Q f p = tt

pub on_err : {A E : Type 0} (r : Result A E) (P Q : Type 0) → (P → Q) → OnErr r P → OnErr r Q
on_err (Ok a) P Q f p = tt
on_err (Err e) P Q f p = f p
