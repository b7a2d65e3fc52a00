-- What was written is read again.
use Rattle.std.proofs.Common.{◌≡◌, false, true, ◌++◌, ◌<◌, ◌^◌, ◌∙◌, ◌∷◌, [], ℕ, List, Option, Some, None, Ok, length, drop, cond, ltb, ap, sym, refl, subst, arith, ℤ, FitsSigned}
use Rattle.std.proofs.lemmas.Bool.{le-ltb}
use Rattle.std.proofs.lemmas.Nat.{from_be_bytes-to_be_bytes_2, from_be_bytes-to_be_bytes_4}
use Rattle.std.proofs.lemmas.Int.{to_z-of_z}
use Rattle.std.proofs.Math.Facts.{Fits-of_z, Fits-lt-pow}
use Rattle.std.specs.Option.{option_map, option_and_then}
use Rattle.std.specs.List.{flat_map, AllByRecursion}
use Rattle.std.specs.Int.{w16, w32, to_be_bytes, from_be_bytes, cast_signed, cast_unsigned}
use Rattle.rcp_model.specs.LinkState.{RouterLink, RouterLsa}
use Rattle.rcp_model.specs.RouterLsas.{has_zero_sums, summed, age_field, sequence_field, checksum_field, link_count, link_len, link_of, link_at, links_in, lsa_at}
use Rattle.lsa_reader.specs.Writing.{link_octets, octets_with, Spells, FitsLink, FitsLsa, with_checksum}
use Rattle.lsa_reader.proofs.FirstFault.{IsSummed, lsa_at-ok}

-- ---- links

link_of-again : (link : RouterLink) (rest : List ℕ) → FitsLink link → link_of (link_octets link ++ rest) ≡ link
link_of-again link rest fits =
    ap (λ n. let l : RouterLink = record { id = n; kind = link.kind; metric = from_be_bytes w16 (to_be_bytes w16 link.metric) } in l) (from_be_bytes-to_be_bytes_4 link.id fits.id)
    ∙ ap (λ n. let l : RouterLink = record { id = link.id; kind = link.kind; metric = n } in l) (from_be_bytes-to_be_bytes_2 link.metric fits.metric)

link_at-again : (link : RouterLink) (rest : List ℕ) → FitsLink link → link_at (link_octets link ++ rest) ≡ Some (link, rest)
link_at-again link rest fits =
    let octets = link_octets link ++ rest in
    let there : ltb (length octets) 12 ≡ false = le-ltb _ _ (omega arith) in
    let whole : ltb (length octets) (link_len octets) ≡ false = le-ltb _ _ (omega arith) in
    let found = λ (l : RouterLink). let o : Option (RouterLink × List ℕ) = Some (l, rest) in o in
    ap (λ b. cond b None (cond (ltb (length octets) (link_len octets)) None (found (link_of octets)))) there
    ∙ ap (λ b. cond b None (found (link_of octets))) whole
    ∙ ap found (link_of-again link rest fits)

links_in-again : (links : List RouterLink) → AllByRecursion FitsLink links → links_in (length links) (flat_map link_octets links) ≡ Some links
links_in-again [] fits = refl
links_in-again (link ∷ links) fits =
    ap (λ found. option_and_then (λ (front : RouterLink × List ℕ). option_map (λ others. front.0 ∷ others) (links_in (length links) front.1)) found)
    (link_at-again link (flat_map link_octets links) fits.0)
    ∙ ap (λ found. option_map (λ others. link ∷ others) found) (links_in-again links fits.1)

-- ---- the whole LSA

IsSummed-octets : (high low : ℕ) (lsa : RouterLsa) → 0 < high → has_zero_sums (summed (octets_with high low lsa)) ≡ true → IsSummed (octets_with high low lsa)
IsSummed-octets high low lsa some sums = record { long = omega arith; sums = sums; checksum = λ zero. omega arith }

sequence-again : (z : ℤ) → FitsSigned w32 z → cast_signed w32 (from_be_bytes w32 (to_be_bytes w32 (cast_unsigned w32 z))) ≡ z
sequence-again z fits =
    let small : cast_unsigned w32 z < 2 ^ 32 = Fits-lt-pow {w = w32} {n = cast_unsigned w32 z} (Fits-of_z {w = w32} {z = z} fits) in
    ap (cast_signed w32) (from_be_bytes-to_be_bytes_4 (cast_unsigned w32 z) small) ∙ to_z-of_z w32 z fits

lsa_at-octets : (high low : ℕ) (lsa : RouterLsa) → FitsLsa lsa → 0 < high → has_zero_sums (summed (octets_with high low lsa)) ≡ true →
    lsa_at (octets_with high low lsa) ≡ Ok (with_checksum (checksum_field (octets_with high low lsa)) lsa)
lsa_at-octets high low lsa fits some sums =
    let octets = octets_with high low lsa in
    let few : length lsa.content < 2 ^ 16 = omega (arith, fits.few) in
    let links : links_in (link_count octets) (drop 24 octets) ≡ Some lsa.content =
    ap (λ n. links_in n (flat_map link_octets lsa.content)) (from_be_bytes-to_be_bytes_2 (length lsa.content) few) ∙ links_in-again lsa.content fits.content in
    let checksum = checksum_field octets in
    lsa_at-ok octets lsa.content (IsSummed-octets high low lsa some sums) links refl
    ∙ ap (λ n. let l : RouterLsa = record { key = n; header = record { sequence = sequence_field octets; checksum = checksum; age = age_field octets }; content = lsa.content } in Ok l)
    (from_be_bytes-to_be_bytes_4 lsa.key fits.key)
    ∙ ap (λ z. let l : RouterLsa = record { key = lsa.key; header = record { sequence = z; checksum = checksum; age = age_field octets }; content = lsa.content } in Ok l)
    (sequence-again lsa.header.sequence fits.sequence)
    ∙ ap (λ n. let l : RouterLsa = record { key = lsa.key; header = record { sequence = lsa.header.sequence; checksum = checksum; age = n }; content = lsa.content } in Ok l)
    (from_be_bytes-to_be_bytes_2 lsa.header.age fits.age)

pub lsa_at-spelled : (lsa : RouterLsa) (octets : List ℕ) → FitsLsa lsa → Spells lsa octets →
    lsa_at octets ≡ Ok (with_checksum (checksum_field octets) lsa)
lsa_at-spelled lsa octets fits spells =
    let Again : List ℕ → Type 0 = λ xs. lsa_at xs ≡ Ok (with_checksum (checksum_field xs) lsa) in
    subst Again (sym spells.spelled)
    (lsa_at-octets spells.high spells.low lsa fits spells.high_range.0
    (ap (λ xs. has_zero_sums (summed xs)) (sym spells.spelled) ∙ spells.sums))
