-- The front of a group's prefixes that one UPDATE holds.
use Rattle.std.proofs.Common.{◌≡◌, ℕ, zero, suc, ◌+◌, ◌<◌, ◌≤◌, true, false, List, [], ◌∷◌, ◌++◌, length, map, take, drop, get_or, Option, Some, None, refl, sym, ap, ◌∙◌, arith, length-take, length-append, append_assoc}
use Rattle.std.specs.Prelude.{flat_map}
use Rattle.std.specs.Int.{w32, to_be_bytes}
use Rattle.std.proofs.lemmas.Bool.{le-leb, lt-leb}
use Rattle.std.proofs.lemmas.List.{append-nil, drop_more, drop_all, take_more}
use Rattle.rcp_base.specs.IpPrefix.{IpPrefix, prefix_octets, octets_for}
use Rattle.rcp_model.specs.Packing.{update_of, fits, filled, fill}
use Rattle.rcp_model.proofs.UpdateLemmas.{length-update_octets}
use Rattle.update_pack.specs.Values.{octet_count}

pub length-update_of : (v : Option (List ℕ)) (ps : List IpPrefix) → length (update_of v ps) ≡ 23 + octet_count v + length (flat_map prefix_octets ps)
unfolding update_of
length-update_of None ps = omega (arith, length-update_octets ps [] [])
length-update_of (Some octets) ps = omega (arith, length-update_octets [] octets ps)

flat_map-append : (ps qs : List IpPrefix) → flat_map prefix_octets (ps ++ qs) ≡ flat_map prefix_octets ps ++ flat_map prefix_octets qs
flat_map-append [] qs = refl
flat_map-append (p ∷ ps) qs = simp (flat_map-append ps qs, append_assoc)

-- the octets of the prefixes and one more
length-more : (ps : List IpPrefix) (p : IpPrefix) → length (flat_map prefix_octets (ps ++ p ∷ [])) ≡ length (flat_map prefix_octets ps) + length (prefix_octets p)
length-more ps p =
    ap length (flat_map-append ps (p ∷ []))
    ∙ omega (arith, length-append (flat_map prefix_octets ps) (flat_map prefix_octets (p ∷ [])), ap length (append-nil (prefix_octets p)))

prefix-short : (p : IpPrefix) → length (prefix_octets p) ≤ 5
prefix-short p = omega (arith, length-take (octets_for p.len) (to_be_bytes w32 p.addr))

pub length-one : (p : IpPrefix) → length (flat_map prefix_octets (p ∷ [])) ≤ 5
length-one p = omega (arith, length-more [] p, prefix-short p)

-- what is known of the first i prefixes: they are the front of one piece
pub record IsFront (v : Option (List ℕ)) (ps : List IpPrefix) (i octets : ℕ) : Type 0 where
  pub counted : octets ≡ length (flat_map prefix_octets (take i ps))
  pub short : 23 + octet_count v + octets ≤ 4096
  pub filled_on : filled v (take i ps) (drop i ps) ≡ fill v ps

begin : (v : Option (List ℕ)) (ps : List IpPrefix) → 0 < length ps → octet_count v ≤ 4068 → filled v [] ps ≡ fill v ps
begin v [] some short = absurd (omega arith)
begin v (p ∷ ps) some short =
    let one : fits v (p ∷ []) ≡ true = le-leb _ _ (omega (arith, length-update_of v (p ∷ []), length-more [] p, prefix-short p)) in
    rw one refl

pub front-none : (v : Option (List ℕ)) (ps : List IpPrefix) → 0 < length ps → octet_count v ≤ 4068 → IsFront v ps 0 0
front-none v ps some short = record { counted = refl; short = omega arith; filled_on = begin v ps some short }

-- a front with octets has prefixes
pub front-some : (v : Option (List ℕ)) (ps : List IpPrefix) (i octets : ℕ) → IsFront v ps i octets → 0 < octets → 0 < i
front-some v ps zero octets front some = absurd (omega (arith, front.counted))
front-some v ps (suc i) octets front some = omega arith

-- a piece with one prefix more
one_more : (v : Option (List ℕ)) (taken : List IpPrefix) (p : IpPrefix) (ps : List IpPrefix)
    → 23 + octet_count v + (length (flat_map prefix_octets taken) + length (prefix_octets p)) ≤ 4096 → filled v (taken ++ p ∷ []) ps ≡ filled v taken (p ∷ ps)
one_more v taken p ps short =
    let one : fits v (taken ++ p ∷ []) ≡ true = le-leb _ _ (omega (arith, length-update_of v (taken ++ p ∷ []), length-more taken p)) in
    rw one refl

no_more : (v : Option (List ℕ)) (taken : List IpPrefix) (p : IpPrefix) (ps : List IpPrefix)
    → 4096 < 23 + octet_count v + (length (flat_map prefix_octets taken) + length (prefix_octets p)) → filled v taken (p ∷ ps) ≡ taken ∷ fill v (p ∷ ps)
no_more v taken p ps long =
    let one : fits v (taken ++ p ∷ []) ≡ false = lt-leb _ _ (omega (arith, length-update_of v (taken ++ p ∷ []), length-more taken p)) in
    rw one refl

module _ (v : Option (List ℕ)) (ps : List IpPrefix) (i octets : ℕ) (front : IsFront v ps i octets) where
  pub front-more : (p : IpPrefix) → i < length ps → p ≡ get_or ps i p → 23 + octet_count v + (octets + length (prefix_octets p)) ≤ 4096
      → IsFront v ps (i + 1) (octets + length (prefix_octets p))
  front-more p within is short =
      let taken : take (i + 1) ps ≡ take i ps ++ p ∷ [] = take_more ps i p within ∙ ap (λ (q : IpPrefix). take i ps ++ q ∷ []) (sym is) in
      let rest : drop i ps ≡ p ∷ drop (i + 1) ps = drop_more ps i p within ∙ ap (λ (q : IpPrefix). q ∷ drop (i + 1) ps) (sym is) in
      let counted : octets + length (prefix_octets p) ≡ length (flat_map prefix_octets (take (i + 1) ps)) =
      omega (arith, front.counted, length-more (take i ps) p, ap (λ (l : List IpPrefix). length (flat_map prefix_octets l)) taken) in
      record {
        counted = counted;
        short = short;
        filled_on = ap (λ (l : List IpPrefix). filled v l (drop (i + 1) ps)) taken
            ∙ one_more v (take i ps) p (drop (i + 1) ps) (omega (arith, front.counted))
            ∙ ap (filled v (take i ps)) (sym rest)
            ∙ front.filled_on;
      }

  pub front-stop : (p : IpPrefix) → i < length ps → p ≡ get_or ps i p → 4096 < 23 + octet_count v + (octets + length (prefix_octets p))
      → fill v ps ≡ take i ps ∷ fill v (drop i ps)
  front-stop p within is long =
      let rest : drop i ps ≡ p ∷ drop (i + 1) ps = drop_more ps i p within ∙ ap (λ (q : IpPrefix). q ∷ drop (i + 1) ps) (sym is) in
      sym front.filled_on
      ∙ ap (filled v (take i ps)) rest
      ∙ no_more v (take i ps) p (drop (i + 1) ps) (omega (arith, front.counted))
      ∙ ap (λ (l : List IpPrefix). take i ps ∷ fill v l) (sym rest)

  pub front-end : length ps ≤ i → fill v ps ≡ take i ps ∷ fill v (drop i ps)
  front-end all =
      let rest : drop i ps ≡ [] = drop_all i ps all in
      sym front.filled_on ∙ ap (filled v (take i ps)) rest ∙ ap (λ (l : List IpPrefix). take i ps ∷ fill v l) (sym rest)

  pub front-fits : length (update_of v (take i ps)) ≤ 4096
  front-fits = omega (arith, length-update_of v (take i ps), front.counted, front.short)

-- ---- the pieces of a group

-- messages, and those of what is left
pub pieces-more : (v : Option (List ℕ)) (ps rest piece : List IpPrefix) (before : List (List ℕ)) → fill v ps ≡ piece ∷ fill v rest
    → (before ++ update_of v piece ∷ []) ++ map (update_of v) (fill v rest) ≡ before ++ map (update_of v) (fill v ps)
pieces-more v ps rest piece before e =
    append_assoc before (update_of v piece ∷ []) (map (update_of v) (fill v rest)) ∙ ap (λ (l : List (List IpPrefix)). before ++ map (update_of v) l) (sym e)

pub pieces-end : (v : Option (List ℕ)) (ps : List IpPrefix) (before : List (List ℕ)) → length ps ≡ 0 → before ++ map (update_of v) (fill v ps) ≡ before
pieces-end v [] before none = append-nil before
pieces-end v (p ∷ ps) before none = absurd (omega arith)
