-- Links that are read one after another.
use Rattle.std.proofs.Common.{IsSome, subst, zero, ◌≡◌, ◌++◌, ◌+◌, ◌-◌, ◌<◌, ◌∙◌, ◌∷◌, [], ℕ, suc, List, Option, Some, None, length, ap, sym, refl, append_assoc, append-nil, arith}
use Rattle.std.specs.Option.{option_map, option_and_then}
use Rattle.rcp_model.specs.LinkState.{RouterLink}
use Rattle.rcp_model.specs.RouterLsas.{link_at, links_in}

-- links that were read, in front of those that are still to be read
abbrev pub with_front : List RouterLink → Option (List RouterLink) → Option (List RouterLink)
with_front front links = option_map (λ others. front ++ others) links

with_front-link : (front : List RouterLink) (link : RouterLink) (links : Option (List RouterLink)) →
    with_front front (option_map (λ others. link ∷ others) links) ≡ with_front (front ++ link ∷ []) links
with_front-link front link None = refl
with_front-link front link (Some others) = ap Some (sym (append_assoc front (link ∷ []) others))

pub links_in-one : (front : List RouterLink) (count i : ℕ) (rest behind : List ℕ) (link : RouterLink) → i < count →
    link_at rest ≡ Some (link, behind) →
    with_front front (links_in (count - i) rest) ≡ with_front (front ++ link ∷ []) (links_in (count - (i + 1)) behind)
links_in-one front count i rest behind link less e =
    let more : count - i ≡ suc (count - (i + 1)) = omega arith in
    ap (λ n. with_front front (links_in n rest)) more
    ∙ ap (λ found. with_front front (option_and_then (λ (f : RouterLink × List ℕ). option_map (λ links. f.0 ∷ links) (links_in (count - (i + 1)) f.1)) found)) e
    ∙ with_front-link front link (links_in (count - (i + 1)) behind)

pub links_in-none : (front : List RouterLink) (count i : ℕ) (rest : List ℕ) → i < count → link_at rest ≡ None →
    with_front front (links_in (count - i) rest) ≡ None
links_in-none front count i rest less e =
    let more : count - i ≡ suc (count - (i + 1)) = omega arith in
    ap (λ n. with_front front (links_in n rest)) more
    ∙ ap (λ found. with_front front (option_and_then (λ (f : RouterLink × List ℕ). option_map (λ links. f.0 ∷ links) (links_in (count - (i + 1)) f.1)) found)) e

pub links_in-end : (front : List RouterLink) (count i : ℕ) (rest : List ℕ) → i ≡ count → length rest ≡ 0 →
    with_front front (links_in (count - i) rest) ≡ Some front
links_in-end front count i [] e none =
    let n : count - i ≡ 0 = omega arith in
    ap (λ n. with_front front (links_in n [])) n ∙ ap Some (append-nil front)
links_in-end front count i (x ∷ xs) e none = absurd (omega arith)

pub links_in-more : (front : List RouterLink) (count i : ℕ) (rest : List ℕ) → i ≡ count → 0 < length rest →
    with_front front (links_in (count - i) rest) ≡ None
links_in-more front count i [] e some = absurd (omega arith)
links_in-more front count i (x ∷ xs) e some =
    let n : count - i ≡ 0 = omega arith in
    ap (λ n. with_front front (links_in n (x ∷ xs))) n

-- where some link was read, the first one is whole
pub first_whole : (i : ℕ) (rest octets : List ℕ) (front : RouterLink × List ℕ) → (i ≡ 0 → rest ≡ octets) → (0 < i → IsSome (link_at octets)) → link_at rest ≡ Some front → IsSome (link_at octets)
first_whole zero rest octets front at_first later found = subst (λ (xs : List ℕ). IsSome (link_at xs)) (at_first refl) (subst IsSome (sym found) refl)
first_whole (suc i) rest octets front at_first later found = later (omega arith)
