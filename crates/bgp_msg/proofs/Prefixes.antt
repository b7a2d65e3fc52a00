-- A section of prefixes, walked from its front.
use Rattle.std.proofs.Common.{◌≡◌, ℕ, suc, ◌+◌, cond, eqb, leb, ◌&&◌, Bool, true, false, List, [], ◌∷◌, length, take, drop, Option, Some, None, refl, sym, ap, ◌∙◌, arith, leb-true, length-take-le}
use Rattle.std.specs.Prelude.{option_map, filter_map, is_none}
use Rattle.std.specs.List.{cons_option}
use Rattle.std.proofs.Math.Seq.{take-length}
use Rattle.std.proofs.lemmas.Bool.{and_parts}
use Rattle.std.proofs.lemmas.Option.{none-some, cond_some}
use Rattle.rcp_base.specs.IpPrefix.{IpPrefix, masked, octets_for, address_of_octets, prefix_at}
use Rattle.rcp_base.proofs.PrefixLemmas.{prefix_at-cons}
use Rattle.rcp_model.specs.Messages.{FaultOf, fault}
use Rattle.rcp_model.specs.Updates.{prefix_size, prefixes_in, prefixes_fault}
use Rattle.rcp_base.proofs.CutLemmas.{cut-front, cut-stop}
use Rattle.rcp_model.proofs.SectionLemmas.{HasPrefix-from}

abbrev found_at : ℕ → List ℕ → Option (IpPrefix × ℕ)
found_at len front = Some (record { addr = masked (address_of_octets front) len; len = len }, 1 + octets_for len)

-- a prefix is read from its own octets alone
prefix_at-take : (octets : List ℕ) (p : IpPrefix) (n : ℕ) → prefix_at octets ≡ Some (p, n) → prefix_at (take n octets) ≡ Some (p, n)
prefix_at-take [] p n e = absurd (none-some (p, n) e)
prefix_at-take (len ∷ rest) p n e =
    let front = take (octets_for len) rest in
    let chosen = cond_some (leb len 32 && leb (octets_for len) (length rest)) (record { addr = masked (address_of_octets front) len; len = len }, 1 + octets_for len) (p, n) e in
    let tests = and_parts (leb len 32) (leb (octets_for len) (length rest)) chosen.0 in
    let there : length front ≡ octets_for len = length-take-le (octets_for len) rest (leb-true _ _ tests.1) in
    let again : take (octets_for len) front ≡ front = ap (λ (k : ℕ). take k front) (sym there) ∙ take-length front in
    let count : 1 + octets_for len ≡ n = ap (λ (r : IpPrefix × ℕ). r.1) chosen.1 in
    let more : n ≡ suc (octets_for len) = omega (arith, count) in
    ap (λ (k : ℕ). prefix_at (take k (len ∷ rest))) more
    ∙ prefix_at-cons len front (leb-true _ _ tests.0) (omega (arith, there))
    ∙ ap (found_at len) again
    ∙ ap Some chosen.1

abbrev first_of : List (List ℕ) → List IpPrefix
first_of pieces = filter_map (λ piece. option_map (λ (r : IpPrefix × ℕ). r.0) (prefix_at piece)) pieces

abbrev pub fault_of : List ℕ → Option FaultOf
fault_of rest = cond (eqb (length rest) 0) None (Some (fault 3 10 []))

-- the prefix at the front comes first, and then those of what follows it
pub prefixes_in-front : (section : List ℕ) (p : IpPrefix) (n : ℕ) → prefix_at section ≡ Some (p, n)
    → (prefixes_in section ≡ p ∷ prefixes_in (drop n section)) × (prefixes_fault section ≡ prefixes_fault (drop n section))
unfolding prefix_size
prefixes_in-front section p n e =
    let has = HasPrefix-from section p n e in
    let size : prefix_size section ≡ Some n = ap (option_map (λ (r : IpPrefix × ℕ). r.1)) e in
    let front = cut-front prefix_size n section size has.positive has.within in
    let own = prefix_at-take section p n e in (
      ap (λ (r : List (List ℕ) × List ℕ). first_of r.0) front
          ∙ ap (λ (o : Option (IpPrefix × ℕ)). cons_option (option_map (λ (r : IpPrefix × ℕ). r.0) o) (prefixes_in (drop n section))) own,
      ap (λ (r : List (List ℕ) × List ℕ). fault_of r.1) front,
    )

-- where no prefix stands in front, there is none, and that is a fault but at the end
pub prefixes_in-none : (section : List ℕ) → prefix_at section ≡ None
    → (prefixes_in section ≡ []) × (prefixes_fault section ≡ fault_of section)
unfolding prefix_size
prefixes_in-none section e =
    let stop : prefix_size section ≡ None = ap (option_map (λ (r : IpPrefix × ℕ). r.1)) e in
    let all = cut-stop prefix_size section stop in
    (ap (λ (r : List (List ℕ) × List ℕ). first_of r.0) all, ap (λ (r : List (List ℕ) × List ℕ). fault_of r.1) all)

no_fault_at : (b : Bool) (f : FaultOf) → is_none (cond b None (Some f)) ≡ b
no_fault_at true f = refl
no_fault_at false f = refl

pub no_fault : (section : List ℕ) → is_none (fault_of section) ≡ eqb (length section) 0
no_fault section = no_fault_at (eqb (length section) 0) (fault 3 10 [])
