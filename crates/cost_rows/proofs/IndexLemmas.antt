-- The places of a graph's edges: where each ends, and the edges of a run.
use Rattle.std.proofs.Common.{◌≡◌, ℕ, zero, suc, ◌+◌, ◌<◌, ◌≤◌, List, [], ◌∷◌, ◌++◌, length, get_or, take, drop, slice_get, slice_index, Some, refl, sym, ap, subst, ◌∙◌, arith, get_or-drop}
use Rattle.std.specs.List.{AllZip}
use Rattle.std.proofs.lemmas.List.{take_more}
use Rattle.rcp_base.specs.declared.names.Edge.{Edge}
use Rattle.rcp_model.specs.Graphs.{edges_from}
use Rattle.cost_rows.specs.Search.{IsRunOf, AreIndexed}

all_zip-push : {A B : Type 0} (R : A → B → Type 0) (xs : List A) (ys : List B) (x : A) (y : B) → AllZip R xs ys → R x y → AllZip R (xs ++ x ∷ []) (ys ++ y ∷ [])
all_zip-push R [] [] x y all one = (one, tt)
all_zip-push R [] (z ∷ ys) x y all one = absurd all
all_zip-push R (w ∷ xs) [] x y all one = absurd all
all_zip-push R (w ∷ xs) (z ∷ ys) x y all one = (all.0, all_zip-push R xs ys x y all.1 one)

pub zip_more : {A B : Type 0} (R : A → B → Type 0) (xs : List A) (ys : List B) (i : ℕ) (x : A) (y : B) → i < length xs → x ≡ get_or xs i x → AllZip R (take i xs) ys → R x y → AllZip R (take (i + 1) xs) (ys ++ y ∷ [])
zip_more R xs ys i x y within read all one =
    rw (take_more xs i x within) (all_zip-push R (take i xs) ys (get_or xs i x) y all (subst (λ x. R x y) read one))

pub zip_length : {A B : Type 0} (R : A → B → Type 0) (xs : List A) (ys : List B) → AllZip R xs ys → length ys ≡ length xs
zip_length R [] [] all = refl
zip_length R [] (y ∷ ys) all = absurd all
zip_length R (x ∷ xs) [] all = absurd all
zip_length R (x ∷ xs) (y ∷ ys) all = ap suc (zip_length R xs ys all.1)

pub zip_at : {A B : Type 0} (R : A → B → Type 0) (xs : List A) (ys : List B) (i : ℕ) (d : A) (e : B) → AllZip R xs ys → i < length xs → R (get_or xs i d) (get_or ys i e)
zip_at R [] [] i d e all within = absurd (omega arith)
zip_at R [] (y ∷ ys) i d e all within = absurd all
zip_at R (x ∷ xs) [] i d e all within = absurd all
zip_at R (x ∷ xs) (y ∷ ys) zero d e all within = all.0
zip_at R (x ∷ xs) (y ∷ ys) (suc i) d e all within = zip_at R xs ys i d e all.1 (omega arith)

-- the run at the place of a name, as it is read
pub run_there : (edges : List Edge) (names ends : List ℕ) (runs seen : List (ℕ × ℕ)) (place : ℕ) → AreIndexed edges names ends runs → seen ≡ runs → place < length names → IsRunOf edges (slice_index names place) (get_or seen place (0, 0))
run_there edges names ends runs seen place indexed same within = rw same (zip_at (IsRunOf edges) names runs place 0 (0, 0) indexed.beginning within)

pub runs_reach : (edges : List Edge) (names ends : List ℕ) (runs seen : List (ℕ × ℕ)) (place : ℕ) → AreIndexed edges names ends runs → seen ≡ runs → place < length names → place < length seen
runs_reach edges names ends runs seen place indexed same within = let n = zip_length (IsRunOf edges) names runs indexed.beginning in let m = ap length same in omega arith

pub run_items : (edges es back front : List Edge) (router : ℕ) (run : ℕ × ℕ) → IsRunOf edges router run → es ≡ edges → back ≡ drop run.0 es → front ≡ take run.1 back → front ≡ edges_from router edges
run_items edges es back front router run is same is_back is_front = is_front ∙ ap (take run.1) (is_back ∙ ap (drop run.0) same) ∙ is.1

get_or-take : {X : Type 0} (n k : ℕ) (xs : List X) (d : X) → k < n → get_or (take n xs) k d ≡ get_or xs k d
get_or-take zero k xs d less = absurd (omega arith)
get_or-take (suc n) k [] d less = refl
get_or-take (suc n) zero (x ∷ xs) d less = refl
get_or-take (suc n) (suc k) (x ∷ xs) d less = get_or-take n k xs d (omega arith)

-- where an edge of a run ends
pub end_at : (edges : List Edge) (names ends : List ℕ) (runs : List (ℕ × ℕ)) (run : ℕ × ℕ) (items : List Edge) (k : ℕ) (edge : Edge) → AreIndexed edges names ends runs → run.0 + run.1 ≤ length edges → items ≡ take run.1 (drop run.0 edges)
    → length items ≡ run.1 → k < length items → edge ≡ get_or items k edge → (run.0 + k < length ends) × (slice_get names (slice_index ends (run.0 + k)) ≡ Some edge.to)
end_at edges names ends runs run items k edge indexed within is count inside read =
    let same = zip_length (λ (edge : Edge) place. slice_get names place ≡ Some edge.to) edges ends indexed.ending in
    let there : get_or edges (run.0 + k) edge ≡ edge =
    sym (get_or-drop run.0 edges k edge) ∙ sym (get_or-take run.1 k (drop run.0 edges) edge (omega arith)) ∙ ap (λ xs. get_or xs k edge) (sym is) ∙ sym read in
    (omega arith, subst (λ (e : Edge). slice_get names (slice_index ends (run.0 + k)) ≡ Some e.to) there (zip_at (λ (edge : Edge) place. slice_get names place ≡ Some edge.to) edges ends (run.0 + k) edge 0 indexed.ending (omega arith)))
