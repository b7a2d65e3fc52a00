-- Octets with 0 in the place of the checksum, and the checksum put there.
use Rattle.std.proofs.Common.{◌≡◌, ◌++◌, ◌+◌, ◌-◌, ◌*◌, ◌%◌, ◌<◌, ◌≤◌, ◌∙◌, ◌∷◌, [], ℕ, true, List, length, take, drop, sum, ap, sym, refl, subst, length-append, get_or, arith}
use Rattle.std.proofs.Math.ListN.{set}
use Rattle.std.proofs.Math.Seq.{take-length}
use Rattle.std.proofs.lemmas.List.{take_more, flat_map_more}
use Rattle.std.proofs.lemmas.Bool.{eq-eqb, and_from}
use Rattle.std.specs.List.{flat_map}
use Rattle.std.specs.Int.{w16, w32, to_be_bytes, cast_unsigned}
use Rattle.rcp_model.specs.LinkState.{RouterLink, RouterLsa}
use Rattle.rcp_model.specs.RouterLsas.{weighted, has_zero_sums, summed}
use Rattle.lsa_reader.specs.Writing.{link_octets, written_len, octets_with, Spells}
use Rattle.lsa_reader.proofs.Sums.{sum-append, sum-cons, weighted-append}

-- the summed octets before the checksum, and those after it
abbrev before_checksum : RouterLsa → List ℕ
before_checksum lsa =
    (2 ∷ 1 ∷ []) ++ to_be_bytes w32 lsa.key ++ to_be_bytes w32 lsa.key ++ to_be_bytes w32 (cast_unsigned w32 lsa.header.sequence)

abbrev behind_checksum : RouterLsa → List ℕ
behind_checksum lsa =
    to_be_bytes w16 (written_len lsa) ++ (0 ∷ 0 ∷ []) ++ to_be_bytes w16 (length lsa.content) ++ flat_map link_octets lsa.content

summed_parts : (high low : ℕ) (lsa : RouterLsa) → summed (octets_with high low lsa) ≡ before_checksum lsa ++ (high ∷ low ∷ behind_checksum lsa)
summed_parts high low lsa = refl

set_checksum : (high low : ℕ) (lsa : RouterLsa) → set (set (octets_with 0 0 lsa) 16 high) 17 low ≡ octets_with high low lsa
set_checksum high low lsa = refl

sum-parts : (before behind : List ℕ) (high low : ℕ) →
    sum (before ++ (high ∷ low ∷ behind)) ≡ sum (before ++ (0 ∷ 0 ∷ behind)) + (high + low)
sum-parts before behind high low =
    omega (
      arith,
      sum-append before (high ∷ low ∷ behind),
      sum-append before (0 ∷ 0 ∷ behind),
      sum-cons high (low ∷ behind),
      sum-cons low behind,
      sum-cons 0 (0 ∷ behind),
      sum-cons 0 behind,
    )

weighted-parts : (before behind : List ℕ) (high low : ℕ) →
    weighted (before ++ (high ∷ low ∷ behind))
    ≡ weighted (before ++ (0 ∷ 0 ∷ behind)) + ((length behind + 2) * high + (length behind + 1) * low)
weighted-parts before behind high low =
    let a = weighted-append before (high ∷ low ∷ behind) in
    let b = weighted-append before (0 ∷ 0 ∷ behind) in
    let two : length (high ∷ low ∷ behind) * high ≡ (length behind + 2) * high = ap (λ n. n * high) (omega arith) in
    let one : length (low ∷ behind) * low ≡ (length behind + 1) * low = ap (λ n. n * low) (omega arith) in
    omega (arith, a, b, two, one)

zero_sums : (before behind : List ℕ) (high low : ℕ) → length before ≡ 14 →
    (sum (before ++ (0 ∷ 0 ∷ behind)) + (high + low)) % 255 ≡ 0 →
    (weighted (before ++ (0 ∷ 0 ∷ behind)) + ((length (before ++ (0 ∷ 0 ∷ behind)) - 14) * high + (length (before ++ (0 ∷ 0 ∷ behind)) - 15) * low)) % 255 ≡ 0 →
    has_zero_sums (before ++ (high ∷ low ∷ behind)) ≡ true
zero_sums before behind high low long first second =
    let all = length-append before (0 ∷ 0 ∷ behind) in
    let two : length (before ++ (0 ∷ 0 ∷ behind)) - 14 ≡ length behind + 2 = omega (arith, all) in
    let one : length (before ++ (0 ∷ 0 ∷ behind)) - 15 ≡ length behind + 1 = omega (arith, all) in
    let w = weighted (before ++ (0 ∷ 0 ∷ behind)) in
    let s' : sum (before ++ (high ∷ low ∷ behind)) % 255 ≡ 0 = ap (λ n. n % 255) (sum-parts before behind high low) ∙ first in
    let w' : weighted (before ++ (high ∷ low ∷ behind)) % 255 ≡ 0 =
    ap (λ n. n % 255) (weighted-parts before behind high low)
    ∙ ap (λ n. (w + (n * high + (length behind + 1) * low)) % 255) (sym two)
    ∙ ap (λ n. (w + ((length (before ++ (0 ∷ 0 ∷ behind)) - 14) * high + n * low)) % 255) (sym one)
    ∙ second in
    and_from _ _ (eq-eqb _ _ s') (eq-eqb _ _ w')

pub Spells-from_zero : (lsa : RouterLsa) (out rest : List ℕ) (high low : ℕ) → out ≡ octets_with 0 0 lsa → rest ≡ drop 2 out →
    (0 < high) × (high < 256) → (0 < low) × (low < 256) →
    (sum rest + (high + low)) % 255 ≡ 0 →
    (weighted rest + ((length rest - 14) * high + (length rest - 15) * low)) % 255 ≡ 0 →
    Spells lsa (set (set out 16 high) 17 low)
Spells-from_zero lsa out rest high low is_out is_rest high_range low_range first second =
    let spelled : set (set out 16 high) 17 low ≡ octets_with high low lsa =
    ap (λ xs. set (set xs 16 high) 17 low) is_out ∙ set_checksum high low lsa in
    let parts : rest ≡ before_checksum lsa ++ (0 ∷ 0 ∷ behind_checksum lsa) = is_rest ∙ ap (drop 2) is_out ∙ summed_parts 0 0 lsa in
    let First : List ℕ → Type 0 = λ xs. (sum xs + (high + low)) % 255 ≡ 0 in
    let Second : List ℕ → Type 0 = λ xs. (weighted xs + ((length xs - 14) * high + (length xs - 15) * low)) % 255 ≡ 0 in
    record {
      high = high;
      low = low;
      high_range = high_range;
      low_range = low_range;
      spelled = spelled;
      sums = ap (λ xs. has_zero_sums (summed xs)) spelled ∙ ap has_zero_sums (summed_parts high low lsa)
          ∙ zero_sums (before_checksum lsa) (behind_checksum lsa) high low refl (subst First parts first) (subst Second parts second);
    }

-- ---- links that are written one after another

link_octets_len : (link : RouterLink) → length (link_octets link) ≡ 12
link_octets_len link = refl

pub links_more : (header old new octets : List ℕ) (links : List RouterLink) (i : ℕ) (link : RouterLink) → i < length links →
    link ≡ get_or links i link → octets ≡ link_octets link →
    take (24 + 12 * i) old ≡ header ++ flat_map link_octets (take i links) →
    take (24 + 12 * i + length octets) new ≡ take (24 + 12 * i) old ++ octets →
    take (24 + 12 * (i + 1)) new ≡ header ++ flat_map link_octets (take (i + 1) links)
links_more header old new octets links i link less is_link is_octets so_far put =
    let twelve : length octets ≡ 12 = ap length is_octets ∙ link_octets_len link in
    let place : 24 + 12 * (i + 1) ≡ 24 + 12 * i + length octets = omega arith in
    let more : take (i + 1) links ≡ take i links ++ link ∷ [] = take_more links i link less ∙ ap (λ l. take i links ++ l ∷ []) (sym is_link) in
    ap (λ n. take n new) place ∙ put
    ∙ ap (λ xs. xs ++ octets) so_far
    ∙ ap (λ xs. (header ++ flat_map link_octets (take i links)) ++ xs) is_octets
    ∙ flat_map_more link_octets header (take i links) link
    ∙ ap (λ ls. header ++ flat_map link_octets ls) (sym more)

-- after the last link the octets are all
pub all_written : (header out : List ℕ) (links : List RouterLink) (i : ℕ) → length out ≡ 24 + 12 * length links → i ≤ length links → length links ≤ i →
    take (24 + 12 * i) out ≡ header ++ flat_map link_octets (take i links) → out ≡ header ++ flat_map link_octets links
all_written header out links i exact most least e =
    let all : i ≡ length links = omega arith in
    let whole : 24 + 12 * i ≡ length out = omega arith in
    sym (take-length out) ∙ ap (λ n. take n out) (sym whole) ∙ e
    ∙ ap (λ n. header ++ flat_map link_octets (take n links)) all
    ∙ ap (λ ls. header ++ flat_map link_octets ls) (take-length links)
