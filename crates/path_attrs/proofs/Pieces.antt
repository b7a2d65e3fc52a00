-- Lists that are made of pieces, one after another.
use Rattle.std.proofs.Common.{◌≡◌, ℕ, ◌*◌, List, [], ◌∷◌, length, arith, length-append}
use Rattle.std.specs.List.{flat_map}

-- how long pieces of one length are
pub length-flat_map_even : {X : Type 0} (f : X → List ℕ) (n : ℕ) → ((x : X) → length (f x) ≡ n) → (xs : List X) → length (flat_map f xs) ≡ length xs * n
length-flat_map_even f n each [] = omega arith
length-flat_map_even f n each (x ∷ xs) =
    let one : length (f x) ≡ n = each x in
    omega (arith, length-flat_map_even f n each xs, length-append (f x) (flat_map f xs))
