-- The walk over the LSAs of a packet goes forward.
use Rattle.std.proofs.Common.{◌≡◌, ◌+◌, ◌-◌, ◌<◌, ◌≤◌, ◌∙◌, [], ◌∷◌, ℕ, zero, suc, Bool, true, false, List, Option, Some, None, length, drop, cond, ltb, ap, sym, refl, subst, arith}
use Rattle.std.specs.Option.{option_and_then}
use Rattle.std.proofs.lemmas.Bool.{ltb-false, ltb-true, lt-ltb}
use Rattle.std.proofs.lemmas.Bool.Decides.{nat_tests}
use Rattle.rcp_base.specs.Cut.{cut}
use Rattle.rcp_base.proofs.CutLemmas.{cut-front, cut-stop}
use Rattle.rcp_model.specs.RouterLsas.{lsa_length}
use Rattle.rcp_model.specs.LsaWalk.{lsa_len, lsa_count, Walked, lsas_at}
use Rattle.lsa_reader.specs.Walking.{place_after, IsOnWalk, with_lsa, IsStep}
use Rattle.std.proofs.Common.{take, Ok, Err}
use Rattle.rcp_model.specs.declared.lsa_fault.LsaFault.{LsaFault}

abbrev measured : Bool → Bool → Bool → ℕ → Option ℕ
measured few little over len = cond few None (cond little None (cond over None (Some len)))

measured_some : (few little over : Bool) (n len : ℕ) → measured few little over n ≡ Some len →
    (few ≡ false) × (little ≡ false) × (over ≡ false) × (n ≡ len)
measured_some true little over n len e = cc
measured_some false true over n len e = cc
measured_some false false true n len e = cc
measured_some false false false n len e = (refl, refl, refl, cc)

pub record IsLsaLen (octets : List ℕ) (len : ℕ) : Type 0 where
  pub least : 20 ≤ len
  pub there : len ≤ length octets
  pub is_field : lsa_length octets ≡ len

pub IsLsaLen-from_len : (octets : List ℕ) (len : ℕ) → lsa_len octets ≡ Some len → IsLsaLen octets len
IsLsaLen-from_len octets len e =
    let facts = measured_some (ltb (length octets) 20) (ltb (lsa_length octets) 20) (ltb (length octets) (lsa_length octets)) (lsa_length octets) len e in
    let least : 20 ≤ lsa_length octets = ltb-false _ _ facts.1 in
    let there : lsa_length octets ≤ length octets = ltb-false _ _ facts.2 in
    record { least = omega (arith, facts.3); there = omega (arith, facts.3); is_field = facts.3 }

-- one step of the walk, seen from after it
pub record Step (n : ℕ) (packet : List ℕ) (place : ℕ) : Type 0 where
  pub before : ℕ
  pub len : ℕ
  pub came : place_after n packet ≡ Some before
  pub measure : lsa_len (drop before packet) ≡ Some len
  pub place_is : place ≡ before + len

len_part : (found : Option ℕ) (before place : ℕ) → option_and_then (λ len. Some (before + len)) found ≡ Some place →
    (len : ℕ) × (found ≡ Some len) × (place ≡ before + len)
len_part None before place e = cc
len_part (Some len) before place e = (len, refl, cc)

place_part : (first : Option ℕ) (next : ℕ → Option ℕ) (place : ℕ) →
    option_and_then (λ p. option_and_then (λ len. Some (p + len)) (next p)) first ≡ Some place →
    (before : ℕ) × (first ≡ Some before) × (option_and_then (λ len. Some (before + len)) (next before) ≡ Some place)
place_part None next place e = cc
place_part (Some before) next place e = (before, refl, e)

pub Step-from_place : (n : ℕ) (packet : List ℕ) (place : ℕ) → place_after (suc n) packet ≡ Some place → Step n packet place
Step-from_place n packet place e =
    let parts = place_part (place_after n packet) (λ p. lsa_len (drop p packet)) place e in
    let lens = len_part (lsa_len (drop parts.0 packet)) parts.0 place parts.2 in
    record { before = parts.0; len = lens.0; came = parts.1; measure = lens.1; place_is = lens.2 }

pub place_after-step : (n : ℕ) (packet : List ℕ) (place len : ℕ) → place_after n packet ≡ Some place →
    lsa_len (drop place packet) ≡ Some len → place_after (suc n) packet ≡ Some (place + len)
place_after-step n packet place len e f =
    ap (λ found. option_and_then (λ p. option_and_then (λ len. Some (p + len)) (lsa_len (drop p packet))) found) e
    ∙ ap (λ found. option_and_then (λ len. Some (place + len)) found) f

pub place_after-stop : (n : ℕ) (packet : List ℕ) (place : ℕ) → place_after n packet ≡ Some place →
    lsa_len (drop place packet) ≡ None → place_after (suc n) packet ≡ None
place_after-stop n packet place e f =
    ap (λ found. option_and_then (λ p. option_and_then (λ len. Some (p + len)) (lsa_len (drop p packet))) found) e
    ∙ ap (λ found. option_and_then (λ len. Some (place + len)) found) f

-- the walk comes to no place twice
pub record Came (i n : ℕ) (packet : List ℕ) (place : ℕ) : Type 0 where
  pub at : ℕ
  pub came : place_after i packet ≡ Some at
  pub no_further : at ≤ place
  pub short_of : i < n → at < place

pub Came-from_place : (n i : ℕ) (packet : List ℕ) (place : ℕ) → place_after n packet ≡ Some place → i ≤ n → Came i n packet place
Came-from_place zero i packet place e less =
    let first : i ≡ 0 = omega arith in
    let P : ℕ → Type 0 = λ k. Came k 0 packet place in
    subst P (sym first) (record { at = place; came = e; no_further = omega arith; short_of = λ l. absurd (omega (arith, l)) })
Came-from_place (suc n) i packet place e less =
    by_order (ltb n i) refl (λ before. Came-from_place n i packet step.before step.came before)
  where
    step : Step n packet place
    step = Step-from_place n packet place e

    shorter : step.before < place
    shorter = let l = IsLsaLen-from_len (drop step.before packet) step.len step.measure in omega (arith, l.least, step.place_is)

    by_order : (b : Bool) → ltb n i ≡ b → (i ≤ n → Came i n packet step.before) → Came i (suc n) packet place
    by_order true e' earlier =
        let last : i ≡ suc n = omega (arith, ltb-true n i e') in
        let P : ℕ → Type 0 = λ k. Came k (suc n) packet place in
        subst P (sym last) (record { at = place; came = e; no_further = omega arith; short_of = λ l. absurd (omega (arith, l)) })
    by_order false e' earlier =
        let inner = earlier (ltb-false n i e') in
        record { at = inner.at; came = inner.came; no_further = omega (arith, inner.no_further, shorter); short_of = λ l. omega (arith, inner.no_further, shorter) }

same_place : (n : ℕ) (packet : List ℕ) (p q : ℕ) → place_after n packet ≡ Some p → place_after n packet ≡ Some q → p ≡ q
same_place n packet p q e f = cc

pub not_again : (i n : ℕ) (packet : List ℕ) (at place : ℕ) → place_after i packet ≡ Some at → at ≡ place → i < n →
    place_after n packet ≡ Some place → ⊥
not_again i n packet at place e same less f =
    let before = Came-from_place n i packet place f (omega arith) in
    let is_at = same_place i packet before.at at before.came e in
    omega (arith, before.short_of less)

pub not_stuck : (i n : ℕ) (packet : List ℕ) (at place : ℕ) → place_after i packet ≡ Some at → place_after n packet ≡ Some place →
    i ≤ n → (at ≡ place → ⊥) → lsa_len (drop at packet) ≡ None → ⊥
not_stuck i n packet at place e f less differ stop = by_order (ltb i n) refl
  where
    stuck : i < n → ⊥
    stuck l =
        let next = Came-from_place n (suc i) packet place f (omega arith) in
        let none = place_after-stop i packet at e stop in
        absurd (cc (next.came, none))

    by_order : (b : Bool) → ltb i n ≡ b → ⊥
    by_order true e' = stuck (ltb-true i n e')
    by_order false e' =
        let last : i ≡ n = omega (arith, ltb-false i n e') in
        differ (same_place n packet at place (ap (λ k. place_after k packet) (sym last) ∙ e) f)

-- ---- the walk over the list of LSAs

abbrev walked : ℕ → List (List ℕ) → Walked
walked count found = record { lsas = take count found; short = ltb (length found) count }

lsas_at-one : (left : ℕ) (octets : List ℕ) (len : ℕ) → 0 < left → lsa_len octets ≡ Some len →
    lsas_at left octets ≡ with_lsa (take len octets) (lsas_at (left - 1) (drop len octets))
lsas_at-one zero octets len less e = absurd (omega arith)
lsas_at-one (suc n) octets len less e =
    let one : suc n - 1 ≡ n = omega arith in
    let is = IsLsaLen-from_len octets len e in
    let front = cut-front lsa_len len octets e (omega (arith, is.least)) is.there in
    let behind = (cut lsa_len (drop len octets)).0 in
    ap (λ (c : List (List ℕ) × List ℕ). walked (suc n) c.0) front
    ∙ ap (λ (short : Bool). let w : Walked = record { lsas = take len octets ∷ take n behind; short = short } in w) (fewer (length behind) n)
    ∙ ap (λ (k : ℕ). with_lsa (take len octets) (walked k behind)) (sym one)
  where
    fewer : (m n : ℕ) → ltb (suc m) (suc n) ≡ ltb m n
    fewer m n = grind (arith, nat_tests)

lsas_at-short : (left : ℕ) (octets : List ℕ) → 0 < left → lsa_len octets ≡ None →
    (let short : Walked = record { lsas = []; short = true } in lsas_at left octets ≡ short)
lsas_at-short zero octets less e = absurd (omega arith)
lsas_at-short (suc n) octets less e =
    let none_found : ltb 0 (suc n) ≡ true = lt-ltb 0 (suc n) less in
    ap (λ (c : List (List ℕ) × List ℕ). walked (suc n) c.0) (cut-stop lsa_len octets e)
    ∙ ap (λ (short : Bool). let w : Walked = record { lsas = []; short = short } in w) none_found

-- no place is come to twice, so a place gives how many LSAs end before it
pub done_at_count : (n count : ℕ) (packet : List ℕ) (place : ℕ) → n ≤ count → place_after n packet ≡ Some place →
    place_after count packet ≡ Some place → count - n ≡ 0
done_at_count n count packet place less e f = by_order (ltb n count) refl
  where
    by_order : (b : Bool) → ltb n count ≡ b → count - n ≡ 0
    by_order true e' = absurd (not_again n count packet place place e refl (ltb-true n count e') f)
    by_order false e' = omega (arith, ltb-false n count e')

pub left_before_count : (n count : ℕ) (packet : List ℕ) (place : ℕ) → n ≤ count → place_after n packet ≡ Some place →
    (place_after count packet ≡ Some place → ⊥) → 0 < count - n
left_before_count n count packet place less e f = by_order (ltb n count) refl
  where
    by_order : (b : Bool) → ltb n count ≡ b → 0 < count - n
    by_order true e' = omega (arith, ltb-true n count e')
    by_order false e' =
        let last : n ≡ count = omega (arith, ltb-false n count e') in
        absurd (f (ap (λ k. place_after k packet) (sym last) ∙ e))

pub IsStep-lsa : (n : ℕ) (packet : List ℕ) (place len kind : ℕ) → n ≤ lsa_count packet → place_after n packet ≡ Some place →
    (place_after (lsa_count packet) packet ≡ Some place → ⊥) → lsa_len (drop place packet) ≡ Some len →
    IsStep (lsa_count packet - n) (drop place packet) (Some (Ok (len, kind)))
IsStep-lsa n packet place len kind less e more f =
    let some = left_before_count n (lsa_count packet) packet place less e more in
    (some, lsas_at-one (lsa_count packet - n) (drop place packet) len some f)

pub IsStep-short : (n : ℕ) (packet : List ℕ) (place : ℕ) (fault : LsaFault) → n ≤ lsa_count packet → place_after n packet ≡ Some place →
    (place_after (lsa_count packet) packet ≡ Some place → ⊥) → lsa_len (drop place packet) ≡ None →
    IsStep (lsa_count packet - n) (drop place packet) (Some (Err fault))
IsStep-short n packet place fault less e more f =
    let some = left_before_count n (lsa_count packet) packet place less e more in
    (some, lsas_at-short (lsa_count packet - n) (drop place packet) some f)

pub IsOnWalk-next : (packet : List ℕ) (place len : ℕ) → IsOnWalk packet place →
    (place_after (lsa_count packet) packet ≡ Some place → ⊥) → lsa_len (drop place packet) ≡ Some len → IsOnWalk packet (place + len)
IsOnWalk-next packet place len on more f =
    let some = left_before_count on.0 (lsa_count packet) packet place on.1 on.2 more in
    (suc on.0, omega (arith, some, on.1), place_after-step on.0 packet place len on.2 f)
