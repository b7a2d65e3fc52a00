-- A search by halves over connections whose numbers rise.
use Rattle.std.proofs.Common.{◌≡◌, ℕ, zero, suc, ◌+◌, ◌<◌, ◌≤◌, Bool, true, false, cond, eqb, nat_lt, ◌==◌, List, [], ◌∷◌, length, get_or, Some, None, Result, Ok, Err, refl, sym, ap, ◌∙◌, arith}
use Rattle.std.specs.List.{position, position_from, AllByRecursion}
use Rattle.std.specs.List.Sorted.{IsBinarySearchResult, IsSearchInRange}
use Rattle.std.specs.Ordering.{nat_cmp, ordering_index}
use Rattle.std.specs.declared.cmp.Ordering.TheVariants.{Less, Equal, Greater}
use Rattle.std.specs.Result.{result_ok}
use Rattle.std.proofs.lemmas.Bool.{eqb-true, eq-eqb, ne_eqb}
use Rattle.std.proofs.lemmas.Bool.Decides.{nat_tests}
use Rattle.std.proofs.lemmas.Iterator.Adapters.{position_from-zero}
use Rattle.rcp_model.specs.LinkState.{same_number}
use Rattle.platform_core.specs.declared.sessions.Connection.{Connection}
use Rattle.platform_core.specs.Open.{connection_in, sessions_in, AreNumbered, numbers_of}

above_at : (m : ℕ) (cs : List Connection) (j : ℕ) (d : Connection) → AllByRecursion (λ n. m < n) (numbers_of (sessions_in cs)) → j < length cs → m < (get_or cs j d).number
above_at m [] j d above less = absurd (omega arith)
above_at m (c ∷ cs) zero d above less = above.0
above_at m (c ∷ cs) (suc j) d above less = above_at m cs j d above.1 (omega arith)

rises : (cs : List Connection) (i j : ℕ) (d : Connection) → AreNumbered (numbers_of (sessions_in cs)) → i ≤ j → j < length cs → (get_or cs i d).number ≤ (get_or cs j d).number
rises [] i j d numbered le less = absurd (omega arith)
rises (c ∷ cs) zero zero d numbered le less = omega arith
rises (c ∷ cs) zero (suc j) d numbered le less = let above = above_at c.number cs j d numbered.0 (omega arith) in omega arith
rises (c ∷ cs) (suc i) zero d numbered le less = absurd (omega arith)
rises (c ∷ cs) (suc i) (suc j) d numbered le less = rises cs i j d numbered.1 (omega arith) (omega arith)

rank_rises : (a b n : ℕ) → a ≤ b → ordering_index (nat_cmp a n) ≤ ordering_index (nat_cmp b n)
rank_rises a b n le = at_tests (nat_lt a n) refl (a == n) refl (nat_lt b n) refl (b == n) refl where
  at_tests : (s : Bool) → nat_lt a n ≡ s → (t : Bool) → (a == n) ≡ t → (u : Bool) → nat_lt b n ≡ u → (v : Bool) → (b == n) ≡ v
      → ordering_index (cond s Less (cond t Equal Greater)) ≤ ordering_index (cond u Less (cond v Equal Greater))
  at_tests true s t t_is u u_is v v_is = omega arith
  at_tests false s true t_is true u_is v v_is = absurd (grind (arith, nat_tests))
  at_tests false s false t_is true u_is v v_is = absurd (grind (arith, nat_tests))
  at_tests false s true t_is false u_is true v_is = omega arith
  at_tests false s true t_is false u_is false v_is = omega arith
  at_tests false s false t_is false u_is false v_is = omega arith
  at_tests false s false t_is false u_is true v_is = absurd (grind (arith, nat_tests))

equal_is : (a n : ℕ) → nat_cmp a n ≡ Equal → n ≡ a
equal_is a n equal = at_tests (nat_lt a n) (a == n) refl equal where
  at_tests : (s t : Bool) → (a == n) ≡ t → cond s Less (cond t Equal Greater) ≡ Equal → n ≡ a
  at_tests true t t_is e = absurd cc
  at_tests false true t_is e = sym (eqb-true a n t_is)
  at_tests false false t_is e = absurd cc

other_is : (a n : ℕ) → (nat_cmp a n ≡ Equal → ⊥) → eqb n a ≡ false
other_is a n other = ne_eqb n a (λ same. other (at_tests (nat_lt a n) refl (a == n) refl same)) where
  at_tests : (s : Bool) → nat_lt a n ≡ s → (t : Bool) → (a == n) ≡ t → n ≡ a → cond s Less (cond t Equal Greater) ≡ Equal
  at_tests true s_is t t_is same = absurd (grind (arith, nat_tests))
  at_tests false s_is true t_is same = refl
  at_tests false s_is false t_is same = absurd (grind (arith, nat_tests))

module _ (n : ℕ) where
  abbrev has_number : Connection → Bool
  has_number c = same_number n (connection_in c).0

  found_from : (cs : List Connection) (i k : ℕ) → AreNumbered (numbers_of (sessions_in cs)) → i < length cs → ((d : Connection) → n ≡ (get_or cs i d).number) → position_from has_number k cs ≡ Some (k + i)
  found_from [] i k numbered less is = absurd (omega arith)
  found_from (c ∷ cs) zero k numbered less is = rw (eq-eqb n c.number (is c)) (ap Some (let e : k ≡ k + 0 = omega arith in e))
  found_from (c ∷ cs) (suc i) k numbered less is =
      let above = above_at c.number cs i c numbered.0 (omega arith) in
      let here = is c in
      let differs : n ≡ c.number → ⊥ = λ same. absurd (omega arith) in
      rw (ne_eqb n c.number differs) (found_from cs i (k + 1) numbered.1 (omega arith) is ∙ ap Some (let e : k + 1 + i ≡ k + suc i = omega arith in e))

  none_from : (cs : List Connection) (k : ℕ) → ((j : ℕ) → j < length cs → (d : Connection) → eqb n (get_or cs j d).number ≡ false) → position_from has_number k cs ≡ None
  none_from [] k other = refl
  none_from (c ∷ cs) k other = rw (other 0 (omega arith) c) (none_from cs (k + 1) (λ j less d. other (suc j) (omega arith) d))

  pub searched : (cs : List Connection) (r : Result ℕ ℕ) → AreNumbered (numbers_of (sessions_in cs)) → IsSearchInRange r (length cs) → IsBinarySearchResult (λ (c : Connection). nat_cmp c.number n) cs r
      → result_ok r ≡ position has_number cs
  searched cs (Ok i) numbered range found =
      sym (position_from-zero has_number cs ∙ found_from cs i 0 numbered range (λ d. equal_is (get_or cs i d).number n (found d)) ∙ ap Some (let e : 0 + i ≡ i = omega arith in e))
  searched cs (Err i) numbered range found =
      let parts = found (λ j k d le less. rank_rises (get_or cs j d).number (get_or cs k d).number n (rises cs j k d numbered le less)) in
      sym (position_from-zero has_number cs ∙ none_from cs 0 (λ j less d. other_is (get_or cs j d).number n (λ equal. at_place parts.0 parts.1 j less d equal))) where
        at_place : ((j : ℕ) (d : Connection) → 0 ≤ j → j < i → nat_cmp (get_or cs j d).number n ≡ Less) → ((j : ℕ) (d : Connection) → i ≤ j → j < length cs → nat_cmp (get_or cs j d).number n ≡ Greater)
            → (j : ℕ) → j < length cs → (d : Connection) → nat_cmp (get_or cs j d).number n ≡ Equal → ⊥
        at_place before after j less d equal = by_side (nat_lt j i) refl where
          by_side : (b : Bool) → nat_lt j i ≡ b → ⊥
          by_side true is = let l = before j d (omega arith) (grind (arith, nat_tests)) in cc
          by_side false is = let g = after j d (grind (arith, nat_tests)) less in cc
