-- Standings: the filters' order among candidates that are sorted by them.
use Rattle.std.proofs.Common.{◌≡◌, ℕ, ◌<◌, ◌≤◌, Bool, true, false, ◌&&◌, ◌||◌, ◌==◌, nat_lt, ◌⊎◌, List, get_or, Ordering, Less, Equal, Greater, nat_cmp, refl, sym, ap, ◌∙◌, inl, inr, arith}
use Rattle.std.specs.Ordering.{is_lt, ordering_then}
use Rattle.std.specs.List.Sorted.{IsSortedBy}
use Rattle.std.specs.Cmp.{IsTotalOrder}
use Rattle.std.proofs.lemmas.Bool.Decides.{nat_tests}
use Rattle.std.proofs.lemmas.Cmp.{nat_cmp_total, on_total, then_total, back_total}
use Rattle.std.proofs.lemmas.List.Sorted.{sorted_far, ranks_by}
use Rattle.rcp_model.specs.Decision.{Contender, goes_before, has_lower_exit}
use Rattle.egress_rank.specs.Standings.{Standing, standing, stands_before, AreRanked}

-- ---- one step: the lower number, or where they are equal what the next steps say

module _ (m n : ℕ) (p : Bool) where
  lower_parts : (nat_lt m n || m == n && p) ≡ true → (m ≤ n) × (m ≡ n → p ≡ true)
  lower_parts h = (grind (arith, nat_tests), λ same. grind (arith, nat_tests))

  no_lower_parts : (nat_lt m n || m == n && p) ≡ false → (n ≤ m) × (m ≡ n → p ≡ false)
  no_lower_parts h = (grind (arith, nat_tests), λ same. grind (arith, nat_tests))

  lower_from : m ≤ n → (m ≡ n → p ≡ true) → (nat_lt m n || m == n && p) ≡ true
  lower_from less same = elim (cases m n less) [
    | inl below ↦ grind (arith, nat_tests)
    | inr equal ↦ let next = same equal in grind (arith, nat_tests)
  ] where
    cases : (m n : ℕ) → m ≤ n → (m < n) ⊎ (m ≡ n)
    cases m n less = grind arith

  higher_is : (nat_lt m n || n == m && p) ≡ (nat_lt m n || m == n && p)
  higher_is = grind (arith, nat_tests)

chain_step : (x y z : ℕ) (p q r : Bool) → (p ≡ true → q ≡ true → r ≡ true) → (nat_lt x y || x == y && p) ≡ true → (nat_lt y z || y == z && q) ≡ true → (nat_lt x z || x == z && r) ≡ true
chain_step x y z p q r next h k =
    let a = lower_parts x y p h in
    let b = lower_parts y z q k in
    let first = a.0 in
    let second = b.0 in
    lower_from x z r (omega arith) (λ same. next (a.1 (omega arith)) (b.1 (omega arith)))

implied_step : (x y : ℕ) (p q : Bool) → (p ≡ true → q ≡ true) → (nat_lt x y || x == y && p) ≡ true → (nat_lt x y || x == y && q) ≡ true
implied_step x y p q next h = let a = lower_parts x y p h in lower_from x y q a.0 (λ same. next (a.1 same))

-- of a leader l, an earlier b and a later c: where the leader goes before neither, and b not before it, b isn't before c
apart_step : (l b c : ℕ) (cl lb lc bl bc : Bool) → (cl ≡ false → lb ≡ false → lc ≡ false → bl ≡ false → bc ≡ true → ⊥)
    → (nat_lt c l || c == l && cl) ≡ false → (nat_lt l b || l == b && lb) ≡ false → (nat_lt l c || l == c && lc) ≡ false → (nat_lt b l || b == l && bl) ≡ false → (nat_lt b c || b == c && bc) ≡ true → ⊥
apart_step l b c cl lb lc bl bc next later earlier level unbeaten beats =
    let p = no_lower_parts c l cl later in
    let q = no_lower_parts l b lb earlier in
    let r = no_lower_parts l c lc level in
    let s = no_lower_parts b l bl unbeaten in
    let t = lower_parts b c bc beats in
    let p_le = p.0 in
    let q_le = q.0 in
    let r_le = r.0 in
    let s_le = s.0 in
    next (p.1 (omega arith)) (q.1 (omega arith)) (r.1 (omega arith)) (s.1 (omega arith)) (t.1 (omega arith))

-- the same where the higher number goes first
apart_step_higher : (l b c : ℕ) (cl lb lc bl bc : Bool) → (cl ≡ false → lb ≡ false → lc ≡ false → bl ≡ false → bc ≡ true → ⊥)
    → (nat_lt l c || l == c && cl) ≡ false → (nat_lt b l || b == l && lb) ≡ false → (nat_lt c l || c == l && lc) ≡ false → (nat_lt l b || l == b && bl) ≡ false → (nat_lt c b || c == b && bc) ≡ true → ⊥
apart_step_higher l b c cl lb lc bl bc next later earlier level unbeaten beats =
    let p = no_lower_parts l c cl later in
    let q = no_lower_parts b l lb earlier in
    let r = no_lower_parts c l lc level in
    let s = no_lower_parts l b bl unbeaten in
    let t = lower_parts c b bc beats in
    let p_le = p.0 in
    let q_le = q.0 in
    let r_le = r.0 in
    let s_le = s.0 in
    next (p.1 (omega arith)) (q.1 (omega arith)) (r.1 (omega arith)) (s.1 (omega arith)) (t.1 (omega arith))

-- ---- the last step: the lower exit, of one neighbour alone

chain_exit : (a b c l m n : ℕ) → (a == b && nat_lt l m) ≡ true → (b == c && nat_lt m n) ≡ true → (a == c && nat_lt l n) ≡ true
chain_exit a b c l m n h k = grind (arith, nat_tests)

implied_exit : (a b l m : ℕ) → (a == b && nat_lt l m) ≡ true → (nat_lt a b || a == b && nat_lt l m) ≡ true
implied_exit a b l m h = grind (arith, nat_tests)

-- neighbours and exits of l, b and c
apart_exit : (l b c lm bm cm : ℕ) → (nat_lt c l || c == l && nat_lt cm lm) ≡ false → (nat_lt l b || l == b && nat_lt lm bm) ≡ false → (l == c && nat_lt lm cm) ≡ false → (b == l && nat_lt bm lm) ≡ false → (b == c && nat_lt bm cm) ≡ true → ⊥
apart_exit l b c lm bm cm later earlier level unbeaten beats = grind (arith, nat_tests)

-- ---- all steps

goes-is : (b a : Contender) → goes_before b a
    ≡ (nat_lt a.pref b.pref || a.pref == b.pref && (nat_lt b.hops a.hops || b.hops == a.hops && (nat_lt b.origin a.origin || b.origin == a.origin && has_lower_exit b a)))
goes-is b a = higher_is a.pref b.pref _

stands-is : (b a : Contender) → stands_before b a
    ≡ (nat_lt a.pref b.pref || a.pref == b.pref
    && (nat_lt b.hops a.hops || b.hops == a.hops && (nat_lt b.origin a.origin || b.origin == a.origin && (nat_lt b.neighbour a.neighbour || b.neighbour == a.neighbour && nat_lt b.med a.med))))
stands-is b a = higher_is a.pref b.pref _

pub before_chain : (a b c : Contender) → goes_before a b ≡ true → goes_before b c ≡ true → goes_before a c ≡ true
before_chain a b c h k =
    goes-is a c ∙ chain_step c.pref b.pref a.pref _ _ _
    (λ q p. chain_step a.hops b.hops c.hops _ _ _
    (λ p q. chain_step a.origin b.origin c.origin _ _ _ (λ p q. chain_exit a.neighbour b.neighbour c.neighbour a.med b.med c.med p q) p q) p q)
    (sym (goes-is b c) ∙ k) (sym (goes-is a b) ∙ h)

pub before_stands : (b a : Contender) → goes_before b a ≡ true → stands_before b a ≡ true
before_stands b a h =
    stands-is b a ∙ implied_step a.pref b.pref _ _
    (λ p. implied_step b.hops a.hops _ _ (λ p. implied_step b.origin a.origin _ _ (λ p. implied_exit b.neighbour a.neighbour b.med a.med p) p) p)
    (sym (goes-is b a) ∙ h)

itself_step : (m : ℕ) (p : Bool) → p ≡ false → (nat_lt m m || m == m && p) ≡ false
itself_step m p last = grind (arith, nat_tests)

itself_exit : (a m : ℕ) → (nat_lt a a || a == a && nat_lt m m) ≡ false
itself_exit a m = grind (arith, nat_tests)

pub stands_itself : (a : Contender) → stands_before a a ≡ false
stands_itself a = itself_step a.pref _ (itself_step a.hops _ (itself_step a.origin _ (itself_exit a.neighbour a.med)))

pub before_apart : (l b c : Contender) → stands_before c l ≡ false → stands_before l b ≡ false → goes_before l c ≡ false → goes_before b l ≡ false → goes_before b c ≡ true → ⊥
before_apart l b c later earlier level unbeaten beats =
    apart_step_higher l.pref b.pref c.pref _ _ _ _ _
    (λ p q r s t. apart_step l.hops b.hops c.hops _ _ _ _ _
    (λ p q r s t. apart_step l.origin b.origin c.origin _ _ _ _ _ (λ p q r s t. apart_exit l.neighbour b.neighbour c.neighbour l.med b.med c.med p q r s t) p q r s t) p q r s t)
    (sym (stands-is c l) ∙ later) (sym (stands-is l b) ∙ earlier) (sym (goes-is l c) ∙ level) (sym (goes-is b l) ∙ unbeaten) (sym (goes-is b c) ∙ beats)

-- ---- a list that is sorted by standing

abbrev pub standing_cmp : Standing → Standing → Ordering
standing_cmp x y =
    ordering_then (ordering_then (ordering_then (ordering_then (nat_cmp y.0.0 x.0.0) (nat_cmp x.1 y.1)) (nat_cmp x.2 y.2)) (nat_cmp x.3 y.3)) (nat_cmp x.4 y.4)

total : IsTotalOrder standing_cmp
total =
    then_total (then_total (then_total (then_total (on_total (λ (s : Standing). s.0.0) (back_total nat_cmp_total)) (on_total (λ (s : Standing). s.1) nat_cmp_total)) (on_total (λ (s : Standing). s.2) nat_cmp_total))
    (on_total (λ (s : Standing). s.3) nat_cmp_total)) (on_total (λ (s : Standing). s.4) nat_cmp_total)

then-then : (a b c : Ordering) → ordering_then (ordering_then a b) c ≡ ordering_then a (ordering_then b c)
then-then Less b c = refl
then-then Equal b c = refl
then-then Greater b c = refl

from_front : (a b c d e : Ordering) → ordering_then (ordering_then (ordering_then (ordering_then a b) c) d) e ≡ ordering_then a (ordering_then b (ordering_then c (ordering_then d e)))
from_front a b c d e =
    then-then (ordering_then (ordering_then a b) c) d e
    ∙ then-then (ordering_then a b) c (ordering_then d e)
    ∙ then-then a b (ordering_then c (ordering_then d e))

lt_step : (m n : ℕ) (o : Ordering) → is_lt (ordering_then (nat_cmp m n) o) ≡ (nat_lt m n || m == n && is_lt o)
lt_step m n o = grind (arith, nat_tests)

lt_exit : (a b m n : ℕ) → is_lt (ordering_then (nat_cmp a b) (nat_cmp m n)) ≡ (nat_lt a b || a == b && nat_lt m n)
lt_exit a b m n = grind (arith, nat_tests)

lt_is : (b a : Contender) → is_lt (standing_cmp (standing b) (standing a)) ≡ stands_before b a
lt_is b a =
    ap is_lt (from_front (nat_cmp a.pref b.pref) (nat_cmp b.hops a.hops) (nat_cmp b.origin a.origin) (nat_cmp b.neighbour a.neighbour) (nat_cmp b.med a.med))
    ∙ lt_step a.pref b.pref _
    ∙ ap (λ t. nat_lt a.pref b.pref || a.pref == b.pref && t)
    (lt_step b.hops a.hops _
    ∙ ap (λ t. nat_lt b.hops a.hops || b.hops == a.hops && t)
    (lt_step b.origin a.origin _ ∙ ap (λ t. nat_lt b.origin a.origin || b.origin == a.origin && t) (lt_exit b.neighbour a.neighbour b.med a.med)))
    ∙ sym (stands-is b a)

pub ranked_from_sort : (list : List Contender) → IsSortedBy (λ x y. is_lt (standing_cmp (standing x) (standing y))) list → AreRanked list
ranked_from_sort list sorted = λ i j d less within.
    sym (lt_is (get_or list j d) (get_or list i d)) ∙ sorted_far (λ x y. is_lt (standing_cmp (standing x) (standing y))) (ranks_by total standing) list sorted i j d (omega arith) within
