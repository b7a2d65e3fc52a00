-- All keys of one slot are taken out, one after another.
use Rattle.std.proofs.Common.{◌≡◌, ℕ, ◌-◌, ◌<◌, ◌==◌, Bool, true, false, cond, not, Option, Some, None, is_some, IsSome, refl, sym, ap, subst, ◌∙◌, arith}
use Rattle.std.specs.Cmp.{Equal-is}
use Rattle.std.specs.FinMap as map_of
use Rattle.std.specs.FinMap.{get-remove, get-retain_keys, get-empty, len-remove, empty_of_len, same_map}
use Rattle.std.specs.Ordering.{eq_by_cmp}
use Rattle.std.proofs.lemmas.Bool.{eq-eqb, eqb-true}
use Rattle.rcp_base.specs.IpPrefix.{IpPrefix}
use Rattle.rcp_model.specs.Ribs.{RibKey, RouteNumbers, rib_cmp}
use Rattle.rcp_model.proofs.RibLemmas.{rib_total, rib_exact}
use Rattle.route_store.specs.Announcers.{IsAnnouncedBy}
use Rattle.route_store.specs.Next.{IsAfter}

module _ (slot : ℕ) where
  abbrev pub other_slot : RibKey → Bool
  other_slot key = not (key.1 == slot)

  get_other : (m : RouteNumbers) (q : RibKey) → map_of.get (map_of.retain_keys m other_slot) q ≡ cond (other_slot q) (map_of.get m q) None
  get_other m q = get-retain_keys m other_slot q (λ x tied. ap other_slot (sym (rib_exact q x tied)))

  -- without one of them, the others' keys are the same
  pub dropped_one : (m : RouteNumbers) (p : IpPrefix) → map_of.retain_keys (map_of.remove m (p, slot)) other_slot ≡ map_of.retain_keys m other_slot
  dropped_one m p = same_map rib_total rib_exact _ _ (λ q.
      get_other (map_of.remove m (p, slot)) q ∙ ap (λ (o : Option ℕ). cond (other_slot q) o None) (get-remove rib_total m (p, slot) q)
      ∙ at_test q (eq_by_cmp rib_cmp q (p, slot)) refl ∙ sym (get_other m q)) where
        at_test : (q : RibKey) (b : Bool) → eq_by_cmp rib_cmp q (p, slot) ≡ b → cond (other_slot q) (cond b None (map_of.get m q)) None ≡ cond (other_slot q) (map_of.get m q) None
        at_test q true is =
            let same : q ≡ (p, slot) = rib_exact q (p, slot) ((Equal-is (rib_cmp q (p, slot))).0 is) in
            let own : other_slot q ≡ false = ap other_slot same ∙ ap not (eq-eqb slot slot refl) in
            ap (λ (b : Bool). cond b None None) own ∙ sym (ap (λ (b : Bool). cond b (map_of.get m q) None) own)
        at_test q false is = refl

  -- where none is left, nothing is to be taken out
  pub all_dropped : (m : RouteNumbers) → ((p : IpPrefix) → IsAfter None p → IsAnnouncedBy m slot p → ⊥) → m ≡ map_of.retain_keys m other_slot
  all_dropped m none = same_map rib_total rib_exact m (map_of.retain_keys m other_slot) (λ q. at_test q (q.1 == slot) refl ∙ sym (get_other m q)) where
    no_number : (q : RibKey) (o : Option ℕ) → map_of.get m q ≡ o → q.1 ≡ slot → o ≡ None
    no_number q None e same = refl
    no_number q (Some n) e same = absurd (none q.0 tt (subst (λ (s : ℕ). IsSome (map_of.get m (q.0, s))) same (subst IsSome (sym e) refl)))

    at_test : (q : RibKey) (b : Bool) → (q.1 == slot) ≡ b → map_of.get m q ≡ cond (not b) (map_of.get m q) None
    at_test q true is = no_number q (map_of.get m q) refl (eqb-true q.1 slot is)
    at_test q false is = refl

-- one key less
no_key : (m : RouteNumbers) (key : RibKey) → map_of.len m ≡ 0 → map_of.get m key ≡ None
no_key m key e = ap (λ (n : RouteNumbers). map_of.get n key) (empty_of_len m e) ∙ get-empty rib_cmp key

some_left : (m : RouteNumbers) (key : RibKey) → IsSome (map_of.get m key) → map_of.len m ≡ 0 → ⊥
some_left m key there e = let none = ap is_some (no_key m key e) in absurd cc

pub one_less : (m : RouteNumbers) (key : RibKey) → IsSome (map_of.get m key) → map_of.len (map_of.remove m key) < map_of.len m
one_less m key there =
    let count : map_of.len (map_of.remove m key) ≡ map_of.len m - 1 = len-remove rib_total m key ∙ ap (λ (b : Bool). cond b (map_of.len m - 1) (map_of.len m)) there in
    omega (arith, some_left m key there)
