-- Sections of an UPDATE: that prefixes that are written one after another are read again.
use Rattle.std.proofs.Common.{◌≡◌, ℕ, ◌+◌, ◌<◌, ◌≤◌, ◌&&◌, List, [], ◌∷◌, length, map, take, Option, Some, None, refl, sym, ap, ◌∙◌, arith, subst, replicate, ◌++◌, ◌^◌, leb, append-nil, leb-true}
use Rattle.std.specs.Prelude.{option_map, filter_map}
use Rattle.std.specs.List.{cons_option, flat_map, All, AllByRecursion}
use Rattle.std.proofs.lemmas.List.Elements.{All-take, All-append, All-replicate, All-tail}
use Rattle.std.proofs.lemmas.Bool.{and_parts}
use Rattle.std.proofs.lemmas.Option.{none-some, same_Some, cond_some}
use Rattle.rcp_base.specs.IpPrefix.{IpPrefix, IsPrefix, masked, octets_for, address_of_octets, prefix_at, prefix_octets}
use Rattle.rcp_base.specs.Cut.{cut}
use Rattle.rcp_model.specs.Updates.{prefix_size, prefixes_in, prefixes_fault}
use Rattle.rcp_base.proofs.CutLemmas.{IsSize, IsFront, cut-flat_map_all, cut-All}
use Rattle.rcp_base.proofs.PrefixLemmas.{read_again, IsPrefix-masked}
use Rattle.rcp_base.proofs.OctetLemmas.{four_octets-fit}

-- where a prefix stands at the front, its octets do
pub record HasPrefix (octets : List ℕ) (p : IpPrefix) (n : ℕ) : Type 0 where
  pub positive : 0 < n
  pub within : n ≤ length octets

pub HasPrefix-from : (octets : List ℕ) (p : IpPrefix) (n : ℕ) → prefix_at octets ≡ Some (p, n) → HasPrefix octets p n
HasPrefix-from [] p n e = absurd (none-some (p, n) e)
HasPrefix-from (len ∷ rest) p n e =
    let chosen = cond_some (leb len 32 && leb (octets_for len) (length rest)) (record { addr = masked (address_of_octets (take (octets_for len) rest)) len; len = len }, 1 + octets_for len) (p, n) e in
    let tests = and_parts (leb len 32) (leb (octets_for len) (length rest)) chosen.0 in
    let count : 1 + octets_for len ≡ n = ap (λ (found : IpPrefix × ℕ). found.1) chosen.1 in
    record { positive = omega arith; within = omega (arith, leb-true _ _ tests.1) }

size_of : (o : Option (IpPrefix × ℕ)) (n : ℕ) → option_map (λ (found : IpPrefix × ℕ). found.1) o ≡ Some n → (p : IpPrefix) × (o ≡ Some (p, n))
size_of None n e = absurd (none-some n e)
size_of (Some found) n e = (found.0, ap (λ (k : ℕ). Some (found.0, k)) (same_Some found.1 n e))

pub prefix_size-Some : (octets : List ℕ) (n : ℕ) → prefix_size octets ≡ Some n → (p : IpPrefix) × (prefix_at octets ≡ Some (p, n))
unfolding prefix_size
prefix_size-Some octets n e = size_of (prefix_at octets) n e

pub IsSize-prefix_size : IsSize prefix_size
IsSize-prefix_size = record {
  positive = λ octets n e. let found = prefix_size-Some octets n e in (HasPrefix-from octets found.0 n found.1).positive;
  within = λ octets n e. let found = prefix_size-Some octets n e in (HasPrefix-from octets found.0 n found.1).within;
}

-- ---- what is written is read again

pub IsFront-prefix : (p : IpPrefix) → IsPrefix p → IsFront prefix_size (prefix_octets p)
unfolding prefix_size
IsFront-prefix p form = record { seen = λ more. ap (option_map (λ (found : IpPrefix × ℕ). found.1)) (read_again p more form) }

all_in_front : (ps : List IpPrefix) → AllByRecursion IsPrefix ps → AllByRecursion (λ p. IsFront prefix_size (prefix_octets p)) ps
all_in_front [] each = tt
all_in_front (p ∷ ps) each = (IsFront-prefix p each.0, all_in_front ps each.1)

pub cut-prefixes : (ps : List IpPrefix) → AllByRecursion IsPrefix ps → cut prefix_size (flat_map prefix_octets ps) ≡ (map prefix_octets ps, [])
cut-prefixes ps each = cut-flat_map_all prefix_size IsSize-prefix_size prefix_octets ps (all_in_front ps each)

alone : (p : IpPrefix) → IsPrefix p → prefix_at (prefix_octets p) ≡ Some (p, length (prefix_octets p))
alone p form = ap prefix_at (sym (append-nil (prefix_octets p))) ∙ read_again p [] form

each_again : (ps : List IpPrefix) → AllByRecursion IsPrefix ps → filter_map (λ piece. option_map (λ (found : IpPrefix × ℕ). found.0) (prefix_at piece)) (map prefix_octets ps) ≡ ps
each_again [] each = refl
each_again (p ∷ ps) each = rw (alone p each.0) (ap (λ (l : List IpPrefix). p ∷ l) (each_again ps each.1))

-- the prefixes of a section that they were written to
pub prefixes_in-written : (ps : List IpPrefix) → AllByRecursion IsPrefix ps → prefixes_in (flat_map prefix_octets ps) ≡ ps
prefixes_in-written ps each =
    ap (λ (r : List (List ℕ) × List ℕ). filter_map (λ piece. option_map (λ (found : IpPrefix × ℕ). found.0) (prefix_at piece)) r.0) (cut-prefixes ps each) ∙ each_again ps each

pub prefixes_fault-written : (ps : List IpPrefix) → AllByRecursion IsPrefix ps → prefixes_fault (flat_map prefix_octets ps) ≡ None
prefixes_fault-written ps each = rw (cut-prefixes ps each) refl

-- ---- of octets, each prefix that is read is in form

address-fits : (octets : List ℕ) → All (λ o. o < 256) octets → address_of_octets octets < 2 ^ 32
address-fits octets all =
    four_octets-fit (take 4 (octets ++ replicate 4 0)) (All-take (λ o. o < 256) 4 (octets ++ replicate 4 0) (All-append (λ o. o < 256) octets (replicate 4 0) all (All-replicate (λ o. o < 256) 4 0 (omega arith))))

pub IsPrefix-prefix_at : (octets : List ℕ) (p : IpPrefix) (n : ℕ) → All (λ o. o < 256) octets → prefix_at octets ≡ Some (p, n) → IsPrefix p
IsPrefix-prefix_at [] p n all e = absurd (none-some (p, n) e)
IsPrefix-prefix_at (len ∷ rest) p n all e =
    let front = take (octets_for len) rest in
    let chosen = cond_some (leb len 32 && leb (octets_for len) (length rest)) (record { addr = masked (address_of_octets front) len; len = len }, 1 + octets_for len) (p, n) e in
    let tests = and_parts (leb len 32) (leb (octets_for len) (length rest)) chosen.0 in
    let octets = All-take (λ o. o < 256) (octets_for len) rest (All-tail (λ o. o < 256) len rest all) in
    let same : record { addr = masked (address_of_octets front) len; len = len } ≡ p = ap (λ (found : IpPrefix × ℕ). found.0) chosen.1 in
    subst IsPrefix same (IsPrefix-masked (address_of_octets front) len (address-fits front octets) (leb-true len 32 tests.0))

first_in_form : (piece : List ℕ) (others : List IpPrefix) (o : Option (IpPrefix × ℕ)) → All (λ o. o < 256) piece → prefix_at piece ≡ o → AllByRecursion IsPrefix others → AllByRecursion IsPrefix (cons_option (option_map (λ (found : IpPrefix × ℕ). found.0) o) others)
first_in_form piece others None all e each = each
first_in_form piece others (Some found) all e each = (IsPrefix-prefix_at piece found.0 found.1 all e, each)

each_in_form : (pieces : List (List ℕ)) → AllByRecursion (All (λ o. o < 256)) pieces → AllByRecursion IsPrefix (filter_map (λ piece. option_map (λ (found : IpPrefix × ℕ). found.0) (prefix_at piece)) pieces)
each_in_form [] each = tt
each_in_form (piece ∷ pieces) each = first_in_form piece _ (prefix_at piece) each.0 refl (each_in_form pieces each.1)

pub prefixes_in-in_form : (octets : List ℕ) → All (λ o. o < 256) octets → AllByRecursion IsPrefix (prefixes_in octets)
prefixes_in-in_form octets all = each_in_form (cut prefix_size octets).0 (cut-All prefix_size IsSize-prefix_size (λ o. o < 256) octets all)
