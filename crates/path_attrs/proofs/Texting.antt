-- What stands in front of octets that are attributes or numbers, and texts that are added one after another.
use Rattle.std.proofs.Common.{◌≡◌, ℕ, ◌<◌, false, leb, List, [], ◌∷◌, ◌++◌, length, take, drop, map, Some, None, refl, sym, ap, ◌∙◌, append_assoc}
use Rattle.std.specs.Int.{from_be_bytes}
use Rattle.std.specs.List.{flat_map, join_with_byte}
use Rattle.std.proofs.lemmas.Bool.{lt-leb}
use Rattle.rcp_model.specs.Attributes.{attribute_size, attribute_of, attributes_in, number_size, numbers_in, number_width}
use Rattle.path_attrs.proofs.Cutting.{cut-more, cut-none}

-- ---- attributes

pub attributes-none : (octets : List ℕ) → attribute_size octets ≡ None → attributes_in octets ≡ []
attributes-none octets none = ap (λ (parts : List (List ℕ) × List ℕ). map attribute_of parts.0) (cut-none attribute_size octets none)

pub attributes-front : (octets : List ℕ) (n : ℕ) (front back : List ℕ) → attribute_size octets ≡ Some n → 0 < n → 0 < length octets → front ≡ take n octets → back ≡ drop n octets
    → attributes_in octets ≡ attribute_of front ∷ attributes_in back
attributes-front octets n front back size some long is_front is_back =
    ap (λ (parts : List (List ℕ) × List ℕ). map attribute_of parts.0) (cut-more attribute_size octets n size some long)
    ∙ (λ i. attribute_of (sym is_front i) ∷ attributes_in (sym is_back i))

-- ---- numbers

no_number : (octets : List ℕ) → length octets < 2 → number_size number_width octets ≡ None
unfolding number_size
no_number octets few =
    let head : leb 2 (length octets) ≡ false = lt-leb _ _ few in
    rw head refl

pub numbers-few : (octets : List ℕ) → length octets < 2 → numbers_in number_width octets ≡ []
numbers-few octets few = ap (λ (parts : List (List ℕ) × List ℕ). map (from_be_bytes number_width) parts.0) (cut-none (number_size number_width) octets (no_number octets few))

-- ---- texts

pub append-nil : (text : List ℕ) → text ≡ text ++ []
append-nil [] = refl
append-nil (x ∷ text) = ap (λ (t : List ℕ). x ∷ t) (append-nil text)

-- texts that are joined: the first, and the octet before each other
pub joined : (between : ℕ) (text : List ℕ) (texts : List (List ℕ)) → join_with_byte between (text ∷ texts) ≡ text ++ flat_map (λ (t : List ℕ). between ∷ t) texts
joined between text [] = append-nil text
joined between text (next ∷ texts) = ap (λ (t : List ℕ). text ++ (between ∷ t)) (joined between next texts)

-- a text that is added, and what follows it
pub added : (text new one tail : List ℕ) → new ≡ text ++ one → new ++ tail ≡ text ++ (one ++ tail)
added text new one tail is = ap (λ (t : List ℕ). t ++ tail) is ∙ append_assoc text one tail

-- the same with an octet before it
pub added_after : (text pushed new one tail : List ℕ) (between : ℕ) → pushed ≡ text ++ between ∷ [] → new ≡ pushed ++ one → new ++ tail ≡ text ++ ((between ∷ one) ++ tail)
added_after text pushed new one tail between push is =
    added pushed new one tail is ∙ added text pushed (between ∷ []) (one ++ tail) push
