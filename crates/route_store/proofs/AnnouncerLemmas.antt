-- The announcements of one prefix: each exactly an entry of the map, by rising slot.
use Rattle.std.proofs.Common.{◌≡◌, ℕ, suc, ◌<◌, ◌==◌, Bool, true, false, cond, ◌&&◌, List, [], ◌∷◌, map, filter, length, Some, refl, sym, ap, ◌∙◌, arith}
use Rattle.std.specs.Prelude.{T}
use Rattle.std.specs.BTreeMap.{IsOrdered}
use Rattle.std.specs.Cmp.{unsigned_tied, Equal-is}
use Rattle.std.specs.FinMap as map_of
use Rattle.std.specs.FinMap.{get-entries, entries_sorted, nat_cmp-IsAntisymmetric}
use Rattle.std.specs.FinMap.Entries.{find, is_sorted, below_all, same_entries}
use Rattle.std.specs.Ordering.{nat_cmp, eq_by_cmp, is_lt, ordering_then}
use Rattle.std.specs.declared.cmp.Ordering.{Ordering}
use Rattle.std.specs.declared.cmp.Ordering.TheVariants.{Less, Equal, Greater}
use Rattle.std.proofs.lemmas.Bool.{lt-ltb}
use Rattle.std.proofs.lemmas.Cmp.{nat_cmp_total}
use Rattle.rcp_base.specs.IpPrefix.{IpPrefix, prefix_cmp}
use Rattle.rcp_model.specs.Ribs.{RibKey, RouteNumbers, rib_cmp}
use Rattle.rcp_model.proofs.RibLemmas.{prefix_total, rib_tied}
use Rattle.route_store.specs.Announcers.{Announcement, announcement_of, announcers_of}
use Rattle.route_store.specs.Rows.{Row, Rows, number_in, number_at, numbers_in, slot_at, IsRising}
use Rattle.route_store.proofs.NumberLemmas.{find_row, get_number}

abbrev of_prefix : IpPrefix → List (RibKey × ℕ) → List Announcement
of_prefix p entries = map announcement_of (filter (λ entry. eq_by_cmp prefix_cmp p entry.0.0) entries)

find_of_prefix : (p : IpPrefix) (slot : ℕ) (entries : List (RibKey × ℕ)) → find nat_cmp slot (of_prefix p entries) ≡ find rib_cmp (p, slot) entries
find_of_prefix p slot [] = refl
find_of_prefix p slot (e ∷ entries) =
    at_test (eq_by_cmp prefix_cmp p e.0.0) (find_of_prefix p slot entries)
    ∙ ap (λ (b : Bool). cond b (Some e.1) (find rib_cmp (p, slot) entries)) (sym (rib_tied (p, slot) e.0))
  where
    at_test : (b : Bool) → find nat_cmp slot (of_prefix p entries) ≡ find rib_cmp (p, slot) entries
        → find nat_cmp slot (map announcement_of (cond b (e ∷ filter (λ entry. eq_by_cmp prefix_cmp p entry.0.0) entries) (filter (λ entry. eq_by_cmp prefix_cmp p entry.0.0) entries)))
        ≡ cond (b && slot == e.0.1) (Some e.1) (find rib_cmp (p, slot) entries)
    at_test true later = ap (λ (b : Bool). cond b (Some e.1) (find nat_cmp slot (of_prefix p entries))) (unsigned_tied slot e.0.1) ∙ ap (cond (slot == e.0.1) (Some e.1)) later
    at_test false later = later

-- what the list has at a slot is what the map has at the slot and the prefix
pub find-announcers : (numbers : RouteNumbers) (p : IpPrefix) (slot : ℕ) → find nat_cmp slot (announcers_of numbers p) ≡ map_of.get numbers (p, slot)
find-announcers numbers p slot = find_of_prefix p slot (map_of.entries numbers) ∙ sym (get-entries numbers (p, slot))

both_true : (a b : Bool) → T (a && b) → T a × T b
both_true true b h = (tt, h)
both_true false b h = absurd h

and_both : (a b : Bool) → T a → T b → T (a && b)
and_both true b h k = k
and_both false b h k = absurd h

-- of two keys with one prefix, the slots decide
by_slot : (first second : Ordering) → first ≡ Equal → T (is_lt (ordering_then first second)) → T (is_lt second)
by_slot Less second e h = absurd cc
by_slot Equal second e h = h
by_slot Greater second e h = absurd cc

tied : (p q : IpPrefix) → eq_by_cmp prefix_cmp p q ≡ true → prefix_cmp p q ≡ Equal
tied p q e = (Equal-is (prefix_cmp p q)).0 e

below_of_prefix : (p : IpPrefix) (key : RibKey) → eq_by_cmp prefix_cmp p key.0 ≡ true → (entries : List (RibKey × ℕ)) → T (below_all rib_cmp key entries) → T (below_all nat_cmp key.1 (of_prefix p entries))
below_of_prefix p key is [] h = tt
below_of_prefix p key is (e ∷ entries) h =
    let parts = both_true _ _ h in
    at_test (eq_by_cmp prefix_cmp p e.0.0) refl parts.0 (below_of_prefix p key is entries parts.1)
  where
    at_test : (b : Bool) → eq_by_cmp prefix_cmp p e.0.0 ≡ b → T (is_lt (rib_cmp key e.0)) → T (below_all nat_cmp key.1 (of_prefix p entries))
        → T (below_all nat_cmp key.1 (map announcement_of (cond b (e ∷ filter (λ entry. eq_by_cmp prefix_cmp p entry.0.0) entries) (filter (λ entry. eq_by_cmp prefix_cmp p entry.0.0) entries))))
    at_test true same less later =
        let one : prefix_cmp key.0 e.0.0 ≡ Equal = sym (prefix_total.congr p key.0 e.0.0 (tied p key.0 is)) ∙ tied p e.0.0 same in
        and_both _ _ (by_slot (prefix_cmp key.0 e.0.0) (nat_cmp key.1 e.0.1) one less) later
    at_test false same less later = later

sorted_of_prefix : (p : IpPrefix) (entries : List (RibKey × ℕ)) → T (is_sorted rib_cmp entries) → T (is_sorted nat_cmp (of_prefix p entries))
sorted_of_prefix p [] h = tt
sorted_of_prefix p (e ∷ entries) h =
    let parts = both_true _ _ h in
    at_test (eq_by_cmp prefix_cmp p e.0.0) refl parts.0 (sorted_of_prefix p entries parts.1)
  where
    at_test : (b : Bool) → eq_by_cmp prefix_cmp p e.0.0 ≡ b → T (below_all rib_cmp e.0 entries) → T (is_sorted nat_cmp (of_prefix p entries))
        → T (is_sorted nat_cmp (map announcement_of (cond b (e ∷ filter (λ entry. eq_by_cmp prefix_cmp p entry.0.0) entries) (filter (λ entry. eq_by_cmp prefix_cmp p entry.0.0) entries))))
    at_test true same below later = and_both _ _ (below_of_prefix p e.0 same entries below) later
    at_test false same below later = later

-- the slots rise
pub rising-announcers : (numbers : RouteNumbers) (p : IpPrefix) → T (is_sorted nat_cmp (announcers_of numbers p))
rising-announcers numbers p = sorted_of_prefix p (map_of.entries numbers) (entries_sorted numbers)

-- ---- a row is such a list

less_tested : (a b : ℕ) → a < b → T (is_lt (nat_cmp a b))
less_tested a b h = let t = lt-ltb a b h in rw t tt

below_row : (slot : ℕ) (row : Row) → ((j : ℕ) → j < length row → slot < slot_at row j) → T (below_all nat_cmp slot row)
below_row slot [] h = tt
below_row slot (a ∷ row) h = and_both _ _ (less_tested slot a.0 (h 0 (omega arith))) (below_row slot row (λ j lt. h (suc j) (omega arith)))

sorted_row : (row : Row) → IsRising row → T (is_sorted nat_cmp row)
sorted_row [] rising = tt
sorted_row (a ∷ row) rising =
    and_both _ _ (below_row a.0 row (λ j lt. rising 0 (suc j) (omega arith) (omega arith)))
    (sorted_row row (λ i j lt in_range. rising (suc i) (suc j) (omega arith) (omega arith)))

pub row-announcers : (rows : Rows) → IsOrdered prefix_cmp rows → (p : IpPrefix) (row : Row) → IsRising row → ((slot : ℕ) → number_in row slot ≡ number_at rows (p, slot)) → row ≡ announcers_of (numbers_in rows) p
row-announcers rows ordered p row rising same =
    same_entries nat_cmp nat_cmp_total nat_cmp-IsAntisymmetric row (announcers_of (numbers_in rows) p) (sorted_row row rising) (rising-announcers (numbers_in rows) p)
    (λ slot. find_row row slot ∙ same slot ∙ sym (get_number rows ordered (p, slot)) ∙ sym (find-announcers (numbers_in rows) p slot))
