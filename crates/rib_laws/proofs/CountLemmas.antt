-- The number of prefixes of a set is the sum over the numbers that a rule gives them.
use Rattle.std.proofs.Common.{◌≡◌, ℕ, zero, suc, ◌+◌, ◌-◌, ◌<◌, ◌≤◌, Bool, true, false, cond, not, ◌&&◌, ◌||◌, ◌⊎◌, eqb, List, [], ◌∷◌, refl, sym, ap, ◌∙◌, inl, inr, subst, arith}
use Rattle.std.specs.FinSet as set_of
use Rattle.std.specs.List.{list_any}
use Rattle.std.specs.Ordering.{eq_by_cmp}
use Rattle.std.proofs.lemmas.Bool.{eqb-true, eqb-false, ne_eqb, or_left}
use Rattle.rcp_base.specs.IpPrefix.{IpPrefix, prefix_cmp}
use Rattle.rcp_model.specs.ServerRibs.{Prefixes, Ribs, prefixes_of, part, is_of}
use Rattle.rcp_base.proofs.MapLemmas.{same_prefix-is, same_prefix-itself}
use Rattle.rcp_model.proofs.RibLemmas.{prefix_total, prefix_exact}
use Rattle.rib_laws.specs.Totals.{total_below}
use Rattle.rib_laws.proofs.RibLookups.{prefix_tied}
use Rattle.rib_laws.proofs.PartLemmas.{contains-owned, prefixes-owned}

-- ---- an induction over sets

-- a set is empty, or has a member
some_member : (s : Prefixes) → (s ≡ set_of.empty) ⊎ ((p : IpPrefix) × (set_of.contains s p ≡ true))
some_member s = by_items (set_of.items s) refl where
  by_items : (items : List IpPrefix) → set_of.items s ≡ items → (s ≡ set_of.empty) ⊎ ((p : IpPrefix) × (set_of.contains s p ≡ true))
  by_items [] is = inl (set_of.same_set prefix_total prefix_exact s set_of.empty
      (λ q. set_of.contains-items s q ∙ ap (list_any (eq_by_cmp prefix_cmp q)) is ∙ sym (set_of.contains-empty prefix_cmp q)))
  by_items (p ∷ items) is = inr (
    p,
    set_of.contains-items s p ∙ ap (list_any (eq_by_cmp prefix_cmp p)) is
        ∙ or_left (eq_by_cmp prefix_cmp p p) (list_any (eq_by_cmp prefix_cmp p) items) (prefix_tied p p ∙ same_prefix-itself p),
  )

restored : (s : Prefixes) (p : IpPrefix) → set_of.contains s p ≡ true → set_of.insert (set_of.remove s p) p ≡ s
restored s p inside = set_of.same_set prefix_total prefix_exact (set_of.insert (set_of.remove s p) p) s (λ q.
    set_of.contains-insert prefix_total (set_of.remove s p) p q
    ∙ ap (λ b. eq_by_cmp prefix_cmp q p || b) (set_of.contains-remove prefix_total s p q)
    ∙ at_test (eq_by_cmp prefix_cmp q p) q (λ e. ap (set_of.contains s) (same_prefix-is q p (sym (prefix_tied q p) ∙ e)) ∙ inside)) where
      at_test : (b : Bool) (q : IpPrefix) → (b ≡ true → set_of.contains s q ≡ true) → (b || (not b && set_of.contains s q)) ≡ set_of.contains s q
      at_test true q h = sym (h refl)
      at_test false q h = refl

gone : (s : Prefixes) (p : IpPrefix) → set_of.contains (set_of.remove s p) p ≡ false
gone s p = set_of.contains-remove prefix_total s p p ∙ ap (λ b. not b && set_of.contains s p) (prefix_tied p p ∙ same_prefix-itself p)

one_less : (s : Prefixes) (p : IpPrefix) (n : ℕ) → set_of.contains s p ≡ true → set_of.len s ≡ suc n → set_of.len (set_of.remove s p) ≡ n
one_less s p n inside is =
    set_of.len-remove prefix_total s p ∙ ap (λ b. cond b (set_of.len s - 1) (set_of.len s)) inside ∙ omega (arith, is)

set_induction : (P : Prefixes → Type 0) → P set_of.empty → ((s : Prefixes) (p : IpPrefix) → set_of.contains s p ≡ false → P s → P (set_of.insert s p)) → (s : Prefixes) → P s
set_induction P first next s = by_len (set_of.len s) s refl where
  by_len : (n : ℕ) (s : Prefixes) → set_of.len s ≡ n → P s
  by_len zero s is = subst P (sym (set_of.empty_of_len s is)) first
  by_len (suc n) s is = at_member (some_member s) (by_len n) where
    at_member : (s ≡ set_of.empty) ⊎ ((p : IpPrefix) × (set_of.contains s p ≡ true)) → ((t : Prefixes) → set_of.len t ≡ n → P t) → P s
    at_member (inl empty) rest = subst P (sym empty) first
    at_member (inr found) rest =
        subst P (restored s found.0 found.1) (next (set_of.remove s found.0) found.0 (gone s found.0) (rest (set_of.remove s found.0) (one_less s found.0 n found.1 is)))

-- ---- totals

total-none : (f : ℕ → ℕ) (count : ℕ) → ((n : ℕ) → f n ≡ 0) → total_below f count ≡ 0
total-none f zero none = refl
total-none f (suc count) none = let rest = total-none f count none in let last = none count in omega (arith, rest, last)

total-same : (f g : ℕ → ℕ) (count : ℕ) → ((n : ℕ) → f n ≡ g n) → total_below f count ≡ total_below g count
total-same f g zero same = refl
total-same f g (suc count) same = let rest = total-same f g count same in let last = same count in omega (arith, rest, last)

-- one more at a number that isn't among those, and at one that is
total-past : (f : ℕ → ℕ) (at count : ℕ) → count ≤ at → total_below (λ n. cond (eqb at n) (f n + 1) (f n)) count ≡ total_below f count
total-past f at zero past = refl
total-past f at (suc count) past =
    let rest = total-past f at count (omega arith) in
    let other : eqb at count ≡ false = ne_eqb at count (λ same. omega arith) in
    ap (λ b. total_below (λ n. cond (eqb at n) (f n + 1) (f n)) count + cond b (f count + 1) (f count)) other ∙ ap (λ t. t + f count) rest

total-more : (f : ℕ → ℕ) (at count : ℕ) → at < count → total_below (λ n. cond (eqb at n) (f n + 1) (f n)) count ≡ total_below f count + 1
total-more f at zero within = absurd (omega arith)
total-more f at (suc count) within = at_test (eqb at count) refl (total-more f at count) where
  at_test : (b : Bool) → eqb at count ≡ b → (at < count → total_below (λ n. cond (eqb at n) (f n + 1) (f n)) count ≡ total_below f count + 1)
      → (total_below (λ n. cond (eqb at n) (f n + 1) (f n)) count + cond (eqb at count) (f count + 1) (f count)) ≡ (total_below f count + f count) + 1
  at_test true same rest =
      let here : at ≡ count = eqb-true at count same in
      let before = total-past f at count (omega arith) in
      ap (λ b. total_below (λ n. cond (eqb at n) (f n + 1) (f n)) count + cond b (f count + 1) (f count)) same ∙ omega (arith, before)
  at_test false other rest =
      let differs : at ≡ count → ⊥ = eqb-false at count other in
      let before = rest (omega arith) in
      ap (λ b. total_below (λ n. cond (eqb at n) (f n + 1) (f n)) count + cond b (f count + 1) (f count)) other ∙ omega (arith, before)

-- ---- the count of a set is the sum over the numbers

module _ (rule : IpPrefix → ℕ) (count : ℕ) (below : (p : IpPrefix) → rule p < count) where
  of_number : Prefixes → ℕ → ℕ
  of_number s n = set_of.len (set_of.retain s (is_of rule n))

  retained-empty : (n : ℕ) → of_number set_of.empty n ≡ 0
  unfolding of_number
  retained-empty n =
      ap set_of.len (set_of.same_set prefix_total prefix_exact (set_of.retain set_of.empty (is_of rule n)) set_of.empty
      (λ q. contains-owned (is_of rule n) set_of.empty q ∙ ap (λ b. b && is_of rule n q) (set_of.contains-empty prefix_cmp q) ∙ sym (set_of.contains-empty prefix_cmp q)))
      ∙ set_of.len-empty prefix_cmp

  with_own : (s : Prefixes) (p : IpPrefix) (n : ℕ) → is_of rule n p ≡ true → set_of.retain (set_of.insert s p) (is_of rule n) ≡ set_of.insert (set_of.retain s (is_of rule n)) p
  with_own s p n own = set_of.same_set prefix_total prefix_exact (set_of.retain (set_of.insert s p) (is_of rule n)) (set_of.insert (set_of.retain s (is_of rule n)) p) (λ q.
      contains-owned (is_of rule n) (set_of.insert s p) q
      ∙ ap (λ b. b && is_of rule n q) (set_of.contains-insert prefix_total s p q)
      ∙ at_test (eq_by_cmp prefix_cmp q p) (set_of.contains s q) (is_of rule n q) (λ e. ap (is_of rule n) (same_prefix-is q p (sym (prefix_tied q p) ∙ e)) ∙ own)
      ∙ ap (λ b. eq_by_cmp prefix_cmp q p || b) (sym (contains-owned (is_of rule n) s q))
      ∙ sym (set_of.contains-insert prefix_total (set_of.retain s (is_of rule n)) p q)) where
        at_test : (same b own : Bool) → (same ≡ true → own ≡ true) → ((same || b) && own) ≡ (same || (b && own))
        at_test true b own h = h refl
        at_test false b own h = refl

  with_other : (s : Prefixes) (p : IpPrefix) (n : ℕ) → is_of rule n p ≡ false → set_of.retain (set_of.insert s p) (is_of rule n) ≡ set_of.retain s (is_of rule n)
  with_other s p n other = set_of.same_set prefix_total prefix_exact (set_of.retain (set_of.insert s p) (is_of rule n)) (set_of.retain s (is_of rule n)) (λ q.
      contains-owned (is_of rule n) (set_of.insert s p) q
      ∙ ap (λ b. b && is_of rule n q) (set_of.contains-insert prefix_total s p q)
      ∙ at_test (eq_by_cmp prefix_cmp q p) (set_of.contains s q) (is_of rule n q) (λ e. ap (is_of rule n) (same_prefix-is q p (sym (prefix_tied q p) ∙ e)) ∙ other)
      ∙ sym (contains-owned (is_of rule n) s q)) where
        at_test : (same b own : Bool) → (same ≡ true → own ≡ false) → ((same || b) && own) ≡ (b && own)
        at_test true true own h = refl
        at_test true false own h = h refl
        at_test false b own h = refl

  one_more : (s : Prefixes) (p : IpPrefix) (n : ℕ) → set_of.contains s p ≡ false → of_number (set_of.insert s p) n ≡ cond (eqb (rule p) n) (of_number s n + 1) (of_number s n)
  unfolding of_number
  one_more s p n new = at_test (eqb (rule p) n) refl where
    at_test : (b : Bool) → eqb (rule p) n ≡ b → set_of.len (set_of.retain (set_of.insert s p) (is_of rule n)) ≡ cond b (set_of.len (set_of.retain s (is_of rule n)) + 1) (set_of.len (set_of.retain s (is_of rule n)))
    at_test true own =
        ap set_of.len (with_own s p n own)
        ∙ set_of.len-insert prefix_total (set_of.retain s (is_of rule n)) p
        ∙ ap (λ b. cond b (set_of.len (set_of.retain s (is_of rule n))) (set_of.len (set_of.retain s (is_of rule n)) + 1)) (contains-owned (is_of rule n) s p ∙ ap (λ b. b && is_of rule n p) new)
    at_test false other = ap set_of.len (with_other s p n other)

  pub counted : (s : Prefixes) → set_of.len s ≡ total_below (λ n. set_of.len (set_of.retain s (is_of rule n))) count
  unfolding of_number
  counted s = set_induction (λ s. set_of.len s ≡ total_below (of_number s) count)
      (set_of.len-empty prefix_cmp ∙ sym (total-none (of_number set_of.empty) count retained-empty))
      (λ s p new rest.
      set_of.len-insert prefix_total s p ∙ ap (λ b. cond b (set_of.len s) (set_of.len s + 1)) new
      ∙ ap (λ n. n + 1) rest
      ∙ sym (total-same (of_number (set_of.insert s p)) (λ n. cond (eqb (rule p) n) (of_number s n + 1) (of_number s n)) count (λ n. one_more s p n new)
      ∙ total-more (of_number s) (rule p) count (below p)))
      s

pub pending_counted : {V : Type 0} (rule : IpPrefix → ℕ) (count : ℕ) → ((p : IpPrefix) → rule p < count) → (ribs : Ribs V)
    → set_of.len ribs.pending ≡ total_below (λ n. set_of.len (part (is_of rule n) ribs).pending) count
pending_counted rule count below ribs = counted rule count below ribs.pending

-- the announced prefixes of a part are those of the whole that it owns
announced_of_part : {V : Type 0} (owns : IpPrefix → Bool) (ribs : Ribs V) → set_of.retain (prefixes_of (λ e. true) ribs.announced) owns ≡ prefixes_of (λ e. true) (part owns ribs).announced
announced_of_part owns ribs = set_of.same_set prefix_total prefix_exact (set_of.retain (prefixes_of (λ e. true) ribs.announced) owns) (prefixes_of (λ e. true) (part owns ribs).announced)
    (λ p. contains-owned owns (prefixes_of (λ e. true) ribs.announced) p ∙ sym (prefixes-owned owns (λ e. true) ribs.announced p))

pub announced_counted : {V : Type 0} (rule : IpPrefix → ℕ) (count : ℕ) → ((p : IpPrefix) → rule p < count) → (ribs : Ribs V)
    → set_of.len (prefixes_of (λ e. true) ribs.announced) ≡ total_below (λ n. set_of.len (prefixes_of (λ e. true) (part (is_of rule n) ribs).announced)) count
announced_counted rule count below ribs =
    counted rule count below (prefixes_of (λ e. true) ribs.announced)
    ∙ total-same (λ n. set_of.len (set_of.retain (prefixes_of (λ e. true) ribs.announced) (is_of rule n))) (λ n. set_of.len (prefixes_of (λ e. true) (part (is_of rule n) ribs).announced)) count
    (λ n. ap set_of.len (announced_of_part (is_of rule n) ribs))
