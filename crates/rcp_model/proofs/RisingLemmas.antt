-- What keeps a list of prefixes rising.
use Rattle.std.proofs.Common.{◌≡◌, ℕ, zero, suc, Bool, true, false, ◌&&◌, ◌||◌, eqb, ltb, List, [], ◌∷◌, take, filter, refl, inl, inr, arith}
use Rattle.std.specs.List.{AllByRecursion}
use Rattle.std.proofs.lemmas.Bool.{cases_Bool, or_from}
use Rattle.std.proofs.lemmas.Bool.Decides.{nat_tests}
use Rattle.rcp_base.specs.IpPrefix.{IpPrefix}
use Rattle.rcp_base.specs.Maps.{same_prefix, is_before, include, include_all, is_among}
use Rattle.rcp_model.specs.Rising.{IsBelow, IsRising}
use Rattle.rcp_model.proofs.OfferLemmas.{filter-keeps}

chain : (a b c k l m : ℕ) → (ltb a b || eqb a b && ltb k l) ≡ true → (ltb b c || eqb b c && ltb l m) ≡ true → (ltb a c || eqb a c && ltb k m) ≡ true
chain a b c k l m h g = grind (arith, nat_tests)

pub later_first : (a b k l : ℕ) → (eqb a b && eqb k l) ≡ false → (ltb a b || eqb a b && ltb k l) ≡ false → (ltb b a || eqb b a && ltb l k) ≡ true
later_first a b k l h g = grind (arith, nat_tests)

pub apart : (a b k l : ℕ) → (ltb a b || eqb a b && ltb k l) ≡ true → (eqb a b && eqb k l) ≡ false
apart a b k l h = grind (arith, nat_tests)

below_chain : (p q : IpPrefix) (ps : List IpPrefix) → is_before p q ≡ true → IsBelow q ps → IsBelow p ps
below_chain p q [] h below = tt
below_chain p q (r ∷ ps) h below = (chain p.addr q.addr r.addr p.len q.len r.len h below.0, below_chain p q ps h below.1)

below_include : (p q : IpPrefix) (ps : List IpPrefix) → is_before q p ≡ true → IsBelow q ps → IsBelow q (include p ps)
below_include p q [] h below = (h, tt)
below_include p q (r ∷ ps) h below =
    elim (cases_Bool (same_prefix p r)) [
      | inl same ↦ rw same below
      | inr other ↦ rw other (elim (cases_Bool (is_before p r)) [
        | inl before ↦ rw before (h, below)
        | inr after ↦ rw after (below.0, below_include p q ps h below.1)
      ])
    ]

pub rising-include : (p : IpPrefix) (ps : List IpPrefix) → IsRising ps → IsRising (include p ps)
rising-include p [] rising = (tt, tt)
rising-include p (q ∷ ps) rising =
    elim (cases_Bool (same_prefix p q)) [
      | inl same ↦ rw same rising
      | inr other ↦ rw other (elim (cases_Bool (is_before p q)) [
        | inl before ↦ rw before ((before, below_chain p q ps before rising.0), rising)
        | inr after ↦ rw after (below_include p q ps (later_first p.addr q.addr p.len q.len other after) rising.0, rising-include p ps rising.1)
      ])
    ]

pub rising-include_all : (ps qs : List IpPrefix) → IsRising qs → IsRising (include_all ps qs)
rising-include_all [] qs rising = rising
rising-include_all (p ∷ ps) qs rising = rising-include_all ps (include p qs) (rising-include p qs rising)

pub not_among : (p : IpPrefix) (ps : List IpPrefix) → IsBelow p ps → is_among ps p ≡ false
not_among p [] below = refl
not_among p (q ∷ ps) below = or_from (same_prefix p q) (is_among ps p) (apart p.addr q.addr p.len q.len below.0) (not_among p ps below.1)

pub rising-filter : (test : IpPrefix → Bool) (ps : List IpPrefix) → IsRising ps → IsRising (filter test ps)
rising-filter test [] rising = tt
rising-filter test (p ∷ ps) rising =
    elim (cases_Bool (test p)) [
      | inl e ↦ rw e (filter-keeps (λ q. is_before p q ≡ true) test ps rising.0, rising-filter test ps rising.1)
      | inr e ↦ rw e (rising-filter test ps rising.1)
    ]

-- ---- fronts

pub take-keeps : {X : Type 0} (P : X → Type 0) (n : ℕ) (xs : List X) → AllByRecursion P xs → AllByRecursion P (take n xs)
take-keeps P zero xs h = tt
take-keeps P (suc n) [] h = tt
take-keeps P (suc n) (x ∷ xs) h = (h.0, take-keeps P n xs h.1)

pub rising-take : (n : ℕ) (ps : List IpPrefix) → IsRising ps → IsRising (take n ps)
rising-take zero ps rising = tt
rising-take (suc n) [] rising = tt
rising-take (suc n) (p ∷ ps) rising = (take-keeps (λ q. is_before p q ≡ true) n ps rising.0, rising-take n ps rising.1)
