-- How many prefixes are announced: the rows that are counted, and the prefixes of the base.
use Rattle.std.proofs.Common.{◌≡◌, ℕ, ◌+◌, Bool, true, false, cond, ◌||◌, List, [], ◌∷◌, map, Option, Some, is_some, refl, sym, ap, ◌∙◌}
use Rattle.std.specs.FinMap as map_of
use Rattle.std.specs.FinMap.Entries.{find}
use Rattle.std.specs.FinSet as set_of
use Rattle.std.specs.List.{list_any}
use Rattle.std.specs.Ordering.{eq_by_cmp}
use Rattle.rcp_base.specs.IpPrefix.{IpPrefix, prefix_cmp}
use Rattle.rcp_model.specs.Ribs.{RibKey, RouteNumbers}
use Rattle.rcp_model.specs.ServerRibs.{Rib, Prefixes, prefixes_of}
use Rattle.rcp_model.proofs.RibLemmas.{prefix_total, prefix_exact, rib_total, rib_exact}
use Rattle.rib_laws.proofs.RibLookups.{same_test, get-retained, has_of_prefixes, prefixes_of_has}
use Rattle.route_store.specs.Announcers.{announced}

abbrev marked : List (RibKey × ℕ) → List (IpPrefix × Unit {0})
marked entries = map (λ (e : RibKey × ℕ). (e.0.0, tt)) entries

abbrev listed : List (RibKey × ℕ) → List IpPrefix
listed entries = map (λ (k : RibKey). k.0) (map (λ (e : RibKey × ℕ). e.0) entries)

found_any : (q : IpPrefix) (entries : List (RibKey × ℕ)) → is_some (find prefix_cmp q (marked entries)) ≡ list_any (eq_by_cmp prefix_cmp q) (listed entries)
found_any q [] = refl
found_any q (e ∷ entries) = at_test (eq_by_cmp prefix_cmp q e.0.0) (find prefix_cmp q (marked entries)) (list_any (eq_by_cmp prefix_cmp q) (listed entries)) (found_any q entries) where
  at_test : (b : Bool) (x : Option (Unit {0})) (y : Bool) → is_some x ≡ y → is_some (cond b (Some tt) x) ≡ (b || y)
  at_test true x y later = refl
  at_test false x y later = later

-- the keys of a map without values are as many as the elements of a set
counted : (entries : List (RibKey × ℕ)) → map_of.len (map_of.from_entries {R = prefix_cmp} (marked entries)) ≡ set_of.len (set_of.from_list {R = prefix_cmp} (listed entries))
counted [] = map_of.len-empty prefix_cmp (Unit {0}) ∙ sym (set_of.len-empty prefix_cmp)
counted (e ∷ entries) =
    let there =
    ap is_some (map_of.get-from_entries prefix_total (marked entries) e.0.0) ∙ found_any e.0.0 entries
    ∙ sym (set_of.contains-from_list prefix_total (listed entries) e.0.0) in
    let before = counted entries in
    map_of.len-insert prefix_total (map_of.from_entries (marked entries)) e.0.0 tt
    ∙ (λ i. cond (there i) (before i) (before i + 1))
    ∙ sym (set_of.len-insert prefix_total (set_of.from_list (listed entries)) e.0.0)

all_kept : (numbers : RouteNumbers) → map_of.retain_keys numbers (λ (key : RibKey). true) ≡ numbers
all_kept numbers = map_of.same_map rib_total rib_exact (map_of.retain_keys numbers (λ (key : RibKey). true)) numbers (get-retained (λ (key : RibKey). true) numbers)

-- the prefixes of two bases in which the same keys have a value
module _ (numbers : RouteNumbers) {V : Type 0} (rib : Rib V) (same : (key : RibKey) → is_some (map_of.get numbers key) ≡ is_some (map_of.get rib key)) where
  one_set : prefixes_of (λ e. true) numbers ≡ prefixes_of (λ e. true) rib
  one_set = set_of.same_set prefix_total prefix_exact (prefixes_of (λ e. true) numbers) (prefixes_of (λ e. true) rib) (λ p.
      same_test (set_of.contains (prefixes_of (λ e. true) numbers) p) (set_of.contains (prefixes_of (λ e. true) rib) p)
      (λ inside. let has = has_of_prefixes (λ e. true) numbers p inside in
      prefixes_of_has (λ e. true) rib p (record { slot = has.slot; passes = refl; there = sym (same (p, has.slot)) ∙ has.there }))
      (λ inside. let has = has_of_prefixes (λ e. true) rib p inside in
      prefixes_of_has (λ e. true) numbers p (record { slot = has.slot; passes = refl; there = same (p, has.slot) ∙ has.there })))

  pub prefixes_counted : map_of.len (announced numbers) ≡ set_of.len (prefixes_of (λ e. true) rib)
  prefixes_counted =
      counted (map_of.entries numbers)
      ∙ ap (λ (m : RouteNumbers). set_of.len (set_of.from_list {R = prefix_cmp} (listed (map_of.entries m)))) (sym (all_kept numbers))
      ∙ ap (λ (s : Prefixes). set_of.len s) one_set
