-- The set of the slots whose flag is set.
use Rattle.std.proofs.Common.{◌≡◌, ℕ, zero, suc, ◌+◌, ◌<◌, ◌≤◌, Bool, true, false, cond, not, ◌&&◌, ◌||◌, eqb, List, [], ◌∷◌, length, get_or, replicate, Option, unwrap_or, refl, sym, ap, subst, ◌∙◌, arith, get_or-set_same, get_or-set_other}
use Rattle.std.proofs.Math.ListN.{set, length-set}
use Rattle.std.specs.FinSet as set_of
use Rattle.std.specs.List.{list_any}
use Rattle.std.specs.Ordering.{nat_cmp, eq_by_cmp}
use Rattle.std.specs.Cmp.{unsigned_tied}
use Rattle.std.proofs.lemmas.Cmp.{nat_cmp_total}
use Rattle.std.proofs.lemmas.Bool.{eqb-true, eqb-false, eq-eqb, ne_eqb}
use Rattle.std.proofs.lemmas.Option.{unwrap_or-slice_get, slice_get_past}
use Rattle.rcs_shard.specs.Slots.{flagged_from, flag_at, slots_in}

apart : (q slot : ℕ) → (q ≡ slot → ⊥) → eq_by_cmp nat_cmp q slot ≡ false
apart q slot other = unsigned_tied q slot ∙ ne_eqb q slot other

none_below : (first : ℕ) (flags : List Bool) (q : ℕ) → q < first → list_any (eq_by_cmp nat_cmp q) (flagged_from first flags) ≡ false
none_below first [] q low = refl
none_below first (true ∷ flags) q low = λ i. apart q first (λ same. absurd (omega arith)) i || none_below (suc first) flags q (omega arith) i
none_below first (false ∷ flags) q low = none_below (suc first) flags q (omega arith)

any_at : (first : ℕ) (flags : List Bool) (q place : ℕ) → q ≡ first + place → list_any (eq_by_cmp nat_cmp q) (flagged_from first flags) ≡ flag_at flags place
any_at first [] q place is = refl
any_at first (true ∷ flags) q zero is =
    ap (λ t. t || list_any (eq_by_cmp nat_cmp q) (flagged_from (suc first) flags)) (unsigned_tied q first ∙ eq-eqb q first (omega arith))
any_at first (false ∷ flags) q zero is = none_below (suc first) flags q (omega arith)
any_at first (true ∷ flags) q (suc place) is = λ i. apart q first (λ same. absurd (omega arith)) i || any_at (suc first) flags q place (omega arith) i
any_at first (false ∷ flags) q (suc place) is = any_at (suc first) flags q place (omega arith)

pub flagged : (flags : List Bool) (slot : ℕ) → set_of.contains (slots_in flags).inside slot ≡ flag_at flags slot
flagged flags slot = set_of.contains-from_list nat_cmp_total (flagged_from 0 flags) slot ∙ any_at 0 flags slot slot (omega arith)

-- ---- one flag is set

pub flag_set : (flags : List Bool) (slot : ℕ) (value : Bool) (q : ℕ) → slot < length flags → flag_at (set flags slot value) q ≡ cond (eqb q slot) value (flag_at flags q)
flag_set flags slot value q within = unwrap_or-slice_get (set flags slot value) q false ∙ at (eqb q slot) refl where
  at : (t : Bool) → eqb q slot ≡ t → get_or (set flags slot value) q false ≡ cond t value (flag_at flags q)
  at true is = ap (λ k. get_or (set flags slot value) k false) (eqb-true q slot is) ∙ rw get_or-set_same refl
  at false is = let differs : q ≡ slot → ⊥ = eqb-false q slot is in (rw get_or-set_other refl) ∙ sym (unwrap_or-slice_get flags q false)

pub inserted : (flags : List Bool) (slot : ℕ) → slot < length flags → slots_in (set flags slot true) ≡ record (slots_in flags) { inside = set_of.insert (slots_in flags).inside slot }
inserted flags slot within = λ i. record { members = length-set flags slot true i; inside = same i } where
  at : (t b : Bool) → cond t true b ≡ (t || b)
  at true b = refl
  at false b = refl

  same : (slots_in (set flags slot true)).inside ≡ set_of.insert (slots_in flags).inside slot
  same = set_of.same_set nat_cmp_total set_of.nat_cmp-IsAntisymmetric _ _ (λ q.
      flagged (set flags slot true) q ∙ flag_set flags slot true q within ∙ at (eqb q slot) (flag_at flags q)
      ∙ sym (set_of.contains-insert nat_cmp_total (slots_in flags).inside slot q ∙ (λ i. unsigned_tied q slot i || flagged flags q i)))

pub removed : (flags : List Bool) (slot : ℕ) → slot < length flags → slots_in (set flags slot false) ≡ record (slots_in flags) { inside = set_of.remove (slots_in flags).inside slot }
removed flags slot within = λ i. record { members = length-set flags slot false i; inside = same i } where
  at : (t b : Bool) → cond t false b ≡ (not t && b)
  at true b = refl
  at false b = refl

  same : (slots_in (set flags slot false)).inside ≡ set_of.remove (slots_in flags).inside slot
  same = set_of.same_set nat_cmp_total set_of.nat_cmp-IsAntisymmetric _ _ (λ q.
      flagged (set flags slot false) q ∙ flag_set flags slot false q within ∙ at (eqb q slot) (flag_at flags q)
      ∙ sym (set_of.contains-remove nat_cmp_total (slots_in flags).inside slot q ∙ (λ i. not (unsigned_tied q slot i) && flagged flags q i)))

-- ---- no flag is set

pub none_set : (n q : ℕ) → flag_at (replicate n false) q ≡ false
none_set zero q = refl
none_set (suc n) zero = refl
none_set (suc n) (suc q) = none_set n q

pub length_none : (n : ℕ) → length (replicate n false) ≡ n
length_none zero = refl
length_none (suc n) = ap suc (length_none n)

pub no_slots : (n : ℕ) (flags : List Bool) → flags ≡ replicate n false → slots_in flags ≡ record { members = n; inside = set_of.empty }
no_slots n flags is = ap slots_in is ∙ (λ i. record { members = length_none n i; inside = same i }) where
  same : (slots_in (replicate n false)).inside ≡ set_of.empty
  same = set_of.same_set nat_cmp_total set_of.nat_cmp-IsAntisymmetric _ _ (λ q.
      flagged (replicate n false) q ∙ none_set n q ∙ sym (set_of.contains-empty nat_cmp q))

-- past the last flag
pub flag_past : (flags seen : List Bool) (slot : ℕ) → seen ≡ flags → length seen ≤ slot → flag_at flags slot ≡ false
flag_past flags seen slot is past =
    ap (λ (o : Option Bool). unwrap_or o false) (slice_get_past flags slot (subst (λ (f : List Bool). length f ≤ slot) is past))
