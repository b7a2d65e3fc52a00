-- Texts that a loop puts together piece by piece.
use Rattle.std.proofs.Common.{◌≡◌, ℕ, ◌+◌, ◌/◌, ◌%◌, ◌<◌, ◌≤◌, List, [], ◌∷◌, ◌++◌, length, get_or, take, refl, sym, ap, ◌∙◌, append_assoc, append-nil}
use Rattle.std.specs.List.{flat_map}
use Rattle.std.proofs.lemmas.List.{take_more, take_all}
use Rattle.replica_law.specs.Texts.{hex_digit, hex_of}

flat_map-push : {X : Type 0} (f : X → List ℕ) (xs : List X) (x : X) → flat_map f (xs ++ x ∷ []) ≡ flat_map f xs ++ f x
flat_map-push f [] x = append-nil (f x)
flat_map-push f (y ∷ xs) x = ap (λ (l : List ℕ). f y ++ l) (flat_map-push f xs x) ∙ sym (append_assoc (f y) (flat_map f xs) (f x))

-- one item more
pub pieces_more : {X : Type 0} (f : X → List ℕ) (before text more : List ℕ) (xs : List X) (n : ℕ) (x : X) → text ≡ before ++ flat_map f (take n xs) → n < length xs → x ≡ get_or xs n x → more ≡ text ++ f x
    → more ≡ before ++ flat_map f (take (n + 1) xs)
pieces_more {X} f before text more xs n x so_far within is more_is =
    let taken = take_more xs n x within ∙ ap (λ (y : X). take n xs ++ y ∷ []) (sym is) in
    more_is ∙ ap (λ (l : List ℕ). l ++ f x) so_far ∙ append_assoc before (flat_map f (take n xs)) (f x)
    ∙ ap (λ (l : List ℕ). before ++ l) (sym (ap (flat_map f) taken ∙ flat_map-push f (take n xs) x))

-- all items
pub pieces_all : {X : Type 0} (f : X → List ℕ) (before text : List ℕ) (xs : List X) (n : ℕ) → text ≡ before ++ flat_map f (take n xs) → length xs ≤ n → text ≡ before ++ flat_map f xs
pieces_all {X} f before text xs n so_far all = so_far ∙ ap (λ (l : List X). before ++ flat_map f l) (take_all n xs all)

-- the two digits of an octet
pub hex_more : (text first second : List ℕ) (x d e : ℕ) → first ≡ text ++ d ∷ [] → second ≡ first ++ e ∷ [] → d ≡ hex_digit (x / 16) → e ≡ hex_digit (x % 16) → second ≡ text ++ hex_of x
hex_more text first second x d e first_is second_is high low =
    second_is ∙ ap (λ (l : List ℕ). l ++ e ∷ []) first_is ∙ append_assoc text (d ∷ []) (e ∷ []) ∙ ap (λ (n : ℕ). text ++ n ∷ e ∷ []) high ∙ ap (λ (n : ℕ). text ++ hex_digit (x / 16) ∷ n ∷ []) low
