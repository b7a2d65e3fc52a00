-- How many prefixes are announced: one for each row.
use Rattle.std.proofs.Common.{◌≡◌, ℕ, suc, ◌==◌, Bool, true, false, cond, ◌&&◌, List, [], ◌∷◌, map, length, Option, Some, None, is_some, IsSome, refl, sym, ap, subst, ◌∙◌}
use Rattle.std.specs.Prelude.{T}
use Rattle.std.specs.BTreeMap.{IsOrdered, is_at}
use Rattle.std.specs.Cmp.{both_ways}
use Rattle.std.specs.FinMap as map_of
use Rattle.std.specs.FinMap.{get-entries, get-from_entries, get-from_sorted, from_sorted, entries-from_sorted, len-entries, same_map}
use Rattle.std.specs.FinMap.Entries.{find, is_sorted, below_all}
use Rattle.std.specs.List.{AllByRecursion}
use Rattle.std.specs.List.Sorted.{IsStrictlySortedBy}
use Rattle.std.specs.Map.{keys_of, lookup}
use Rattle.std.specs.Ordering.{eq_by_cmp, is_lt}
use Rattle.std.specs.declared.cmp.Ordering.TheVariants.{Less}
use Rattle.std.proofs.lemmas.Bool.{and_from, eq-eqb}
use Rattle.std.proofs.lemmas.Map.Keys.{sorted_head, sorted_tail}
use Rattle.rcp_base.specs.IpPrefix.{IpPrefix, prefix_cmp}
use Rattle.rcp_model.specs.Ribs.{RibKey, rib_cmp}
use Rattle.rcp_model.proofs.RibLemmas.{prefix_total, prefix_exact, rib_tied}
use Rattle.route_store.specs.Announcers.{announced}
use Rattle.route_store.specs.Rows.{Row, Rows, numbers_in, IsFilled}
use Rattle.route_store.proofs.StoreLemmas.{row_announced, announced_row}

abbrev Here : Type 0
Here = Unit {0}

abbrev prefixes_of : List (RibKey × ℕ) → List (IpPrefix × Here)
prefixes_of entries = map (λ (e : RibKey × ℕ). (e.0.0, tt)) entries

abbrev prefixes_in : List (IpPrefix × Row) → List (IpPrefix × Here)
prefixes_in rows = map (λ (row : IpPrefix × Row). (row.0, tt)) rows

-- ---- a prefix stands in a list of keys exactly where some slot's key does

first_slot : (q : IpPrefix) (entries : List (RibKey × ℕ)) → IsSome (find prefix_cmp q (prefixes_of entries)) → (slot : ℕ) × IsSome (find rib_cmp (q, slot) entries)
first_slot q [] there = absurd cc
first_slot q (e ∷ entries) there = at_test (eq_by_cmp prefix_cmp q e.0.0) refl there (first_slot q entries) where
  at_test : (b : Bool) → eq_by_cmp prefix_cmp q e.0.0 ≡ b → IsSome (cond b (Some tt) (find prefix_cmp q (prefixes_of entries)))
      → (IsSome (find prefix_cmp q (prefixes_of entries)) → (slot : ℕ) × IsSome (find rib_cmp (q, slot) entries)) → (slot : ℕ) × IsSome (find rib_cmp (q, slot) (e ∷ entries))
  at_test true is there later =
      (e.0.1, subst IsSome (sym (ap (λ (b : Bool). cond b (Some e.1) (find rib_cmp (q, e.0.1) entries)) (rib_tied (q, e.0.1) e.0 ∙ and_from _ _ is (eq-eqb e.0.1 e.0.1 refl)))) refl)
  at_test false is there later =
      let found = later there in
      (found.0, subst IsSome (sym (ap (λ (b : Bool). cond b (Some e.1) (find rib_cmp (q, found.0) entries)) (rib_tied (q, found.0) e.0 ∙ ap (λ (b : Bool). b && found.0 == e.0.1) is))) found.1)

some_prefix : (q : IpPrefix) (slot : ℕ) (entries : List (RibKey × ℕ)) → IsSome (find rib_cmp (q, slot) entries) → IsSome (find prefix_cmp q (prefixes_of entries))
some_prefix q slot [] there = absurd cc
some_prefix q slot (e ∷ entries) there =
    at_test (eq_by_cmp prefix_cmp q e.0.0) (subst IsSome (ap (λ (b : Bool). cond b (Some e.1) (find rib_cmp (q, slot) entries)) (rib_tied (q, slot) e.0)) there) (some_prefix q slot entries) where
      at_test : (b : Bool) → IsSome (cond (b && slot == e.0.1) (Some e.1) (find rib_cmp (q, slot) entries)) → (IsSome (find rib_cmp (q, slot) entries) → IsSome (find prefix_cmp q (prefixes_of entries)))
          → IsSome (cond b (Some tt) (find prefix_cmp q (prefixes_of entries)))
      at_test true there later = refl
      at_test false there later = later there

-- ---- a prefix stands in the rows' keys exactly where it has a row

same_test : (b : Bool) (row : Row) (x : Option Here) (y : Option Row) → is_some x ≡ is_some y → is_some (cond b (Some tt) x) ≡ is_some (cond b (Some row) y)
same_test true row x y e = refl
same_test false row x y e = e

row_key : (q : IpPrefix) (rows : List (IpPrefix × Row)) → is_some (find prefix_cmp q (prefixes_in rows)) ≡ is_some (lookup (is_at (prefix_cmp q)) rows)
row_key q [] = refl
row_key q (row ∷ rows) = same_test (eq_by_cmp prefix_cmp q row.0) row.1 (find prefix_cmp q (prefixes_in rows)) (lookup (is_at (prefix_cmp q)) rows) (row_key q rows)

and_both : (a b : Bool) → T a → T b → T (a && b)
and_both true b h k = k
and_both false b h k = absurd h

below_rows : (p : IpPrefix) (rows : List (IpPrefix × Row)) → AllByRecursion (λ q. prefix_cmp p q ≡ Less) (keys_of rows) → T (below_all prefix_cmp p (prefixes_in rows))
below_rows p [] h = tt
below_rows p (row ∷ rows) h = and_both _ _ (subst (λ o. T (is_lt o)) (sym h.0) tt) (below_rows p rows h.1)

sorted_rows : (rows : List (IpPrefix × Row)) → IsStrictlySortedBy prefix_cmp (keys_of rows) → T (is_sorted prefix_cmp (prefixes_in rows))
sorted_rows [] h = tt
sorted_rows (row ∷ rows) h =
    and_both _ _ (below_rows row.0 rows (sorted_head prefix_cmp row.0 (keys_of rows) h)) (sorted_rows rows (sorted_tail prefix_cmp row.0 (keys_of rows) h))

count_in : (rows : List (IpPrefix × Row)) → length (prefixes_in rows) ≡ length rows
count_in [] = refl
count_in (row ∷ rows) = ap suc (count_in rows)

unit_same : (a b : Option Here) → is_some a ≡ is_some b → a ≡ b
unit_same None None e = refl
unit_same None (Some y) e = absurd cc
unit_same (Some x) None e = absurd cc
unit_same (Some x) (Some y) e = refl

module _ (rows : Rows) (ordered : IsOrdered prefix_cmp rows) (filled : IsFilled rows) where
  in_both : (q : IpPrefix) → map_of.get (announced (numbers_in rows)) q ≡ map_of.get (from_sorted {R = prefix_cmp} (prefixes_in rows.entries)) q
  in_both q =
      let entries = map_of.entries (numbers_in rows) in
      let kept = row_key q rows.entries in
      get-from_entries prefix_total (prefixes_of entries) q
      ∙ unit_same (find prefix_cmp q (prefixes_of entries)) (find prefix_cmp q (prefixes_in rows.entries)) (both_ways _ _
      (λ there. let slot = first_slot q entries there in
      kept ∙ announced_row rows ordered q (slot.0, subst IsSome (sym (get-entries (numbers_in rows) (q, slot.0))) slot.1))
      (λ there. let slot = row_announced rows ordered filled q (sym kept ∙ there) in
      some_prefix q slot.0 entries (subst IsSome (get-entries (numbers_in rows) (q, slot.0)) slot.1)))
      ∙ sym (get-from_sorted prefix_cmp (prefixes_in rows.entries) q (sorted_rows rows.entries ordered))

  pub count-announced : map_of.len (announced (numbers_in rows)) ≡ length rows.entries
  count-announced =
      ap (λ (m : map_of.FinMap prefix_cmp Here). map_of.len m) (same_map prefix_total prefix_exact (announced (numbers_in rows)) (from_sorted (prefixes_in rows.entries)) in_both)
      ∙ len-entries (from_sorted (prefixes_in rows.entries))
      ∙ ap length (entries-from_sorted prefix_cmp (prefixes_in rows.entries) (sorted_rows rows.entries ordered))
      ∙ count_in rows.entries
