-- The routes of a slab as a finite map: what it has at a number, and what a change of one slot makes of it.
use Rattle.std.proofs.Common.{◌≡◌, ◌≢◌, ℕ, zero, suc, ◌+◌, ◌<◌, Bool, true, false, cond, eqb, List, [], ◌∷◌, get_or, Option, Some, None, refl, sym, ap, ◌∙◌, inl, inr, zero-add, arith}
use Rattle.std.specs.Cmp.{unsigned_tied}
use Rattle.std.specs.FinMap as map_of
use Rattle.std.specs.FinMap.{find, get-from_entries, get-insert, get-remove, same_map, nat_cmp-IsAntisymmetric}
use Rattle.std.specs.Ordering.{nat_cmp, eq_by_cmp}
use Rattle.std.proofs.lemmas.Bool.{cases_eq, eq-eqb, ne_eqb}
use Rattle.std.proofs.lemmas.Cmp.{nat_cmp_total}
use Rattle.slab.specs.Slab as slab
use Rattle.slab.specs.Slab.{Slab, Updates, entries_from}
use Rattle.attr_store.specs.declared.kept.KeptRoute.{KeptRoute}
use Rattle.attr_store.specs.Kept.{KeptRoutes}
use Rattle.attr_store.specs.Joined.{kept_routes}

tied : (a b : ℕ) → a ≡ b → eq_by_cmp nat_cmp a b ≡ true
tied a b e = unsigned_tied a b ∙ eq-eqb a b e

apart : (a b : ℕ) → a ≢ b → eq_by_cmp nat_cmp a b ≡ false
apart a b h = unsigned_tied a b ∙ ne_eqb a b h

module _ {T : Type 0} where
  -- a number below the first is not found
  find_below : (k q : ℕ) (slots : List (Option T)) → q < k → find nat_cmp q (entries_from k slots) ≡ None
  find_below k q [] less = refl
  find_below k q (None ∷ rest) less = find_below (k + 1) q rest (omega arith)
  find_below k q (Some value ∷ rest) less =
      ap (λ (b : Bool). cond b (Some value) (find nat_cmp q (entries_from (k + 1) rest))) (apart q k (λ e. omega arith)) ∙ find_below (k + 1) q rest (omega arith)

  find_at : (k q i : ℕ) (slots : List (Option T)) → q ≡ k + i → find nat_cmp q (entries_from k slots) ≡ get_or slots i None
  find_at k q i [] e = refl
  find_at k q zero (None ∷ rest) e = find_below (k + 1) q rest (omega arith)
  find_at k q (suc i) (None ∷ rest) e = find_at (k + 1) q i rest (omega arith)
  find_at k q zero (Some value ∷ rest) e =
      ap (λ (b : Bool). cond b (Some value) (find nat_cmp q (entries_from (k + 1) rest))) (tied q k (omega arith))
  find_at k q (suc i) (Some value ∷ rest) e =
      ap (λ (b : Bool). cond b (Some value) (find nat_cmp q (entries_from (k + 1) rest))) (apart q k (λ h. omega arith)) ∙ find_at (k + 1) q i rest (omega arith)

-- what the map has at a number
pub kept_get : (s : Slab KeptRoute) (n : ℕ) → map_of.get (kept_routes s) n ≡ slab.get s n
kept_get s n = get-from_entries nat_cmp_total (slab.entries s) n ∙ find_at 0 n n s.slots (omega arith)

module _ (old new : Slab KeptRoute) (n : ℕ) (slot : Option KeptRoute) (updates : Updates old new n slot) where
  pub get_updated : (q : ℕ) → slab.get new q ≡ cond (eq_by_cmp nat_cmp q n) slot (slab.get old q)
  get_updated q = elim (cases_eq q n) [
    | inl e ↦ ap (slab.get new) e ∙ updates.changed ∙ ap (λ (b : Bool). cond b slot (slab.get old q)) (sym (tied q n e))
    | inr h ↦ updates.others q h ∙ ap (λ (b : Bool). cond b slot (slab.get old q)) (sym (apart q n h))
  ]

pub one_set : (old new : Slab KeptRoute) (n : ℕ) (k : KeptRoute) → Updates old new n (Some k) → kept_routes new ≡ map_of.insert (kept_routes old) n k
one_set old new n k updates = same_map nat_cmp_total nat_cmp-IsAntisymmetric _ _ (λ q.
    kept_get new q ∙ get_updated old new n (Some k) updates q
    ∙ sym (get-insert nat_cmp_total (kept_routes old) n k q ∙ ap (cond (eq_by_cmp nat_cmp q n) (Some k)) (kept_get old q)))

pub one_gone : (old new : Slab KeptRoute) (n : ℕ) → Updates old new n None → kept_routes new ≡ map_of.remove (kept_routes old) n
one_gone old new n updates = same_map nat_cmp_total nat_cmp-IsAntisymmetric _ _ (λ q.
    kept_get new q ∙ get_updated old new n None updates q
    ∙ sym (get-remove nat_cmp_total (kept_routes old) n q ∙ ap (cond (eq_by_cmp nat_cmp q n) None) (kept_get old q)))

-- what is written where it stands already changes nothing
pub one_same : (old new : Slab KeptRoute) (n : ℕ) (k : KeptRoute) → Updates old new n (Some k) → slab.get old n ≡ Some k → kept_routes new ≡ kept_routes old
one_same old new n k updates here = same_map nat_cmp_total nat_cmp-IsAntisymmetric _ _ (λ q. kept_get new q ∙ same q ∙ sym (kept_get old q)) where
  same : (q : ℕ) → slab.get new q ≡ slab.get old q
  same q = elim (cases_eq q n) [
    | inl e ↦ ap (slab.get new) e ∙ updates.changed ∙ sym here ∙ ap (slab.get old) (sym e)
    | inr h ↦ updates.others q h
  ]

-- more room changes nothing
pub same_kept : (old new : Slab KeptRoute) → slab.SameValues old new → kept_routes new ≡ kept_routes old
same_kept old new same = same_map nat_cmp_total nat_cmp-IsAntisymmetric _ _ (λ q. kept_get new q ∙ same q ∙ sym (kept_get old q))
