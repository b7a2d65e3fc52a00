-- Rising lists of prefixes: one for each set, and its length.
use Rattle.std.proofs.Common.{◌≡◌, ℕ, ◌+◌, Bool, true, false, cond, ◌&&◌, ◌||◌, ◌⊎◌, eqb, ltb, List, [], ◌∷◌, length, map, is_some, refl, sym, ap, ◌∙◌, inl, inr, subst, arith}
use Rattle.std.specs.Prelude.{filter}
use Rattle.std.specs.FinSet as set_of
use Rattle.std.specs.Ordering.{nat_cmp}
use Rattle.std.proofs.lemmas.Bool.{or_cases, false≢true}
use Rattle.std.proofs.lemmas.Bool.Decides.{nat_tests}
use Rattle.std.proofs.lemmas.Cmp.{nat_cmp_total}
use Rattle.rcp_base.specs.IpPrefix.{IpPrefix, prefix_cmp}
use Rattle.rcp_base.specs.Maps.{same_prefix, is_before, is_among}
use Rattle.rcp_base.proofs.MapLemmas.{same_prefix-is, same_prefix-itself, is_among-include_all}
use Rattle.rcp_model.specs.Rising.{IsBelow, IsRising}
use Rattle.rcp_model.specs.Updates.{Table}
use Rattle.rcp_model.specs.ServerRibs.{Prefixes}
use Rattle.rcp_model.proofs.RibLemmas.{prefix_total, prefix_exact}
use Rattle.rcp_model.proofs.RisingLemmas.{not_among, rising-include_all}
use Rattle.rib_laws.proofs.ListLookups.{among_tied, up_among}
use Rattle.platform_laws.specs.Platforms.{AreOnce}
use Rattle.platform_laws.specs.Asked.{rising_of}

-- ---- a rising list is determined by its members

pub among-below : (p q : IpPrefix) (ps : List IpPrefix) → IsBelow p ps → is_among ps q ≡ true → is_before p q ≡ true
among-below p q [] below among = absurd (false≢true among)
among-below p q (r ∷ ps) below among = by_either (or_cases (same_prefix q r) (is_among ps q) among) (among-below p q ps below.1) where
  by_either : (same_prefix q r ≡ true) ⊎ (is_among ps q ≡ true) → (is_among ps q ≡ true → is_before p q ≡ true) → is_before p q ≡ true
  by_either (inl same) rest = ap (is_before p) (same_prefix-is q r same) ∙ below.0
  by_either (inr later) rest = rest later

crossed : (a b k l : ℕ) → (ltb a b || eqb a b && ltb k l) ≡ true → (ltb b a || eqb b a && ltb l k) ≡ true → ⊥
crossed a b k l h g = grind (arith, nat_tests)

head-among : (p : IpPrefix) (ps : List IpPrefix) → is_among (p ∷ ps) p ≡ true
head-among p ps = ap (λ b. b || is_among ps p) (same_prefix-itself p)

same_head : (p q : IpPrefix) (ps qs : List IpPrefix) → IsBelow p ps → IsBelow q qs → is_among (q ∷ qs) p ≡ true → is_among (p ∷ ps) q ≡ true → p ≡ q
same_head p q ps qs below_p below_q p_in q_in = at_first (or_cases (same_prefix p q) (is_among qs p) p_in) (or_cases (same_prefix q p) (is_among ps q) q_in) where
  at_first : (same_prefix p q ≡ true) ⊎ (is_among qs p ≡ true) → (same_prefix q p ≡ true) ⊎ (is_among ps q ≡ true) → p ≡ q
  at_first (inl same) other = same_prefix-is p q same
  at_first (inr later) (inl same) = sym (same_prefix-is q p same)
  at_first (inr later) (inr later_q) = absurd (crossed p.addr q.addr p.len q.len (among-below p q ps below_p later_q) (among-below q p qs below_q later))

tails : (p : IpPrefix) (ps qs : List IpPrefix) → IsBelow p ps → IsBelow p qs → ((r : IpPrefix) → is_among (p ∷ ps) r ≡ is_among (p ∷ qs) r) → (r : IpPrefix) → is_among ps r ≡ is_among qs r
tails p ps qs below_p below_q same r = at_test (same_prefix r p) refl where
  at_test : (b : Bool) → same_prefix r p ≡ b → is_among ps r ≡ is_among qs r
  at_test true here = let r_is : r ≡ p = same_prefix-is r p here in ap (is_among ps) r_is ∙ not_among p ps below_p ∙ sym (ap (is_among qs) r_is ∙ not_among p qs below_q)
  at_test false other = ap (λ b. b || is_among ps r) (sym other) ∙ same r ∙ ap (λ b. b || is_among qs r) other

pub rising-same : (ps qs : List IpPrefix) → IsRising ps → IsRising qs → ((p : IpPrefix) → is_among ps p ≡ is_among qs p) → ps ≡ qs
rising-same [] [] rising_p rising_q same = refl
rising-same [] (q ∷ qs) rising_p rising_q same = absurd (false≢true (same q ∙ head-among q qs))
rising-same (p ∷ ps) [] rising_p rising_q same = absurd (false≢true (sym (same p) ∙ head-among p ps))
rising-same (p ∷ ps) (q ∷ qs) rising_p rising_q same =
    let p_is : p ≡ q = same_head p q ps qs rising_p.0 rising_q.0 (sym (same p) ∙ head-among p ps) (same q ∙ head-among q qs) in
    let below_q : IsBelow p qs = subst (λ r. IsBelow r qs) (sym p_is) rising_q.0 in
    let rest : ps ≡ qs = rising-same ps qs rising_p.1 rising_q.1
    (tails p ps qs rising_p.0 below_q (λ r. same r ∙ ap (λ s. is_among (s ∷ qs) r) (sym p_is))) in
    λ i. p_is i ∷ rest i

-- ---- filters

pub among-filter : (test : IpPrefix → Bool) (ps : List IpPrefix) (p : IpPrefix) → is_among (filter test ps) p ≡ (is_among ps p && test p)
among-filter test [] p = refl
among-filter test (q ∷ ps) p = at_test (test q) (same_prefix p q) refl refl (among-filter test ps p) where
  at_test : (b here : Bool) → test q ≡ b → same_prefix p q ≡ here → is_among (filter test ps) p ≡ (is_among ps p && test p)
      → is_among (cond (test q) (q ∷ filter test ps) (filter test ps)) p ≡ ((same_prefix p q || is_among ps p) && test p)
  at_test true true passes same rest =
      ap (λ b. is_among (cond b (q ∷ filter test ps) (filter test ps)) p) passes ∙ ap (λ b. b || is_among (filter test ps) p) same
      ∙ sym (ap (λ b. (b || is_among ps p) && test p) same ∙ ap test (same_prefix-is p q same) ∙ passes)
  at_test true false passes other rest =
      ap (λ b. is_among (cond b (q ∷ filter test ps) (filter test ps)) p) passes ∙ ap (λ b. b || is_among (filter test ps) p) other ∙ rest
      ∙ sym (ap (λ b. (b || is_among ps p) && test p) other)
  at_test false true fails same rest =
      ap (λ b. is_among (cond b (q ∷ filter test ps) (filter test ps)) p) fails ∙ rest ∙ ap (λ b. is_among ps p && b) here_fails ∙ and-false (is_among ps p)
      ∙ sym (ap (λ b. (b || is_among ps p) && test p) same ∙ here_fails) where
        here_fails : test p ≡ false
        here_fails = ap test (same_prefix-is p q same) ∙ fails

        and-false : (b : Bool) → (b && false) ≡ false
        and-false true = refl
        and-false false = refl
  at_test false false fails other rest =
      ap (λ b. is_among (cond b (q ∷ filter test ps) (filter test ps)) p) fails ∙ rest ∙ sym (ap (λ b. (b || is_among ps p) && test p) other)

-- ---- the rising list of a set

or-false : (b : Bool) → (b || false) ≡ b
or-false true = refl
or-false false = refl

pub among-items : (s : Prefixes) (p : IpPrefix) → is_among (set_of.items s) p ≡ set_of.contains s p
among-items s p = sym (among_tied (set_of.items s) p) ∙ sym (set_of.contains-items s p)

pub among-rising_of : (s : Prefixes) (p : IpPrefix) → is_among (rising_of s) p ≡ set_of.contains s p
among-rising_of s p = is_among-include_all (set_of.items s) [] p ∙ or-false (is_among (set_of.items s) p) ∙ among-items s p

pub rising-rising_of : (s : Prefixes) → IsRising (rising_of s)
rising-rising_of s = rising-include_all (set_of.items s) [] tt

pub rising_of-is : (s : Prefixes) (ps : List IpPrefix) → IsRising ps → ((p : IpPrefix) → is_among ps p ≡ set_of.contains s p) → ps ≡ rising_of s
rising_of-is s ps rising same = rising-same ps (rising_of s) rising (rising-rising_of s) (λ p. same p ∙ sym (among-rising_of s p))

-- ---- lengths

one_more : (b : Bool) (n : ℕ) → b ≡ false → cond b n (n + 1) ≡ n + 1
one_more true n fresh = absurd (false≢true (sym fresh))
one_more false n fresh = refl

pub len-rising : (ps : List IpPrefix) → IsRising ps → set_of.len (set_of.from_list {R = prefix_cmp} ps) ≡ length ps
len-rising [] rising = set_of.len-empty prefix_cmp
len-rising (p ∷ ps) rising =
    let rest = len-rising ps rising.1 in
    set_of.len-insert prefix_total (set_of.from_list ps) p
    ∙ one_more (set_of.contains (set_of.from_list ps) p) (set_of.len (set_of.from_list {R = prefix_cmp} ps))
    (set_of.contains-from_list prefix_total ps p ∙ among_tied ps p ∙ not_among p ps rising.0)
    ∙ omega (arith, rest)

pub len-set : (s : Prefixes) (ps : List IpPrefix) → IsRising ps → ((p : IpPrefix) → is_among ps p ≡ set_of.contains s p) → set_of.len s ≡ length ps
len-set s ps rising same =
    ap set_of.len (set_of.same_set prefix_total prefix_exact s (set_of.from_list ps) (λ p. sym (same p) ∙ sym (set_of.contains-from_list prefix_total ps p ∙ among_tied ps p)))
    ∙ len-rising ps rising

pub len-tables : (tables : List (ℕ × Table)) → AreOnce tables → set_of.len (set_of.from_list {R = nat_cmp} (map (λ entry. entry.0) tables)) ≡ length tables
len-tables [] once = set_of.len-empty nat_cmp
len-tables (entry ∷ tables) once =
    let rest = len-tables tables once.1 in
    set_of.len-insert nat_cmp_total (set_of.from_list (map (λ (e : ℕ × Table). e.0) tables)) entry.0
    ∙ one_more (set_of.contains (set_of.from_list (map (λ (e : ℕ × Table). e.0) tables)) entry.0) (set_of.len (set_of.from_list {R = nat_cmp} (map (λ (e : ℕ × Table). e.0) tables)))
    (set_of.contains-from_list nat_cmp_total (map (λ (e : ℕ × Table). e.0) tables) entry.0 ∙ up_among tables entry.0 ∙ ap is_some once.0)
    ∙ omega (arith, rest)
