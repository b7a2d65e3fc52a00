-- Lists that agree place by place.
use Rattle.std.proofs.Common.{◌≡◌, ℕ, suc, ◌<◌, List, [], ◌∷◌, length, map, get_or, refl, ap, ◌∙◌, arith}

pub same_map : {A B : Type 0} (f : A → B) (xs ys : List A) → length ys ≡ length xs → ((i : ℕ) (d : A) → i < length xs → f (get_or ys i d) ≡ f (get_or xs i d)) → map f ys ≡ map f xs
same_map f [] [] long each = refl
same_map f [] (y ∷ ys) long each = absurd (omega (arith, long))
same_map f (x ∷ xs) [] long each = absurd (omega (arith, long))
same_map {A} {B} f (x ∷ xs) (y ∷ ys) long each =
    ap (λ (b : B). b ∷ map f ys) (each 0 x (omega arith))
    ∙ ap (λ (bs : List B). f x ∷ bs) (same_map f xs ys (omega (arith, long)) (λ i d within. each (suc i) d (omega (arith, within))))
