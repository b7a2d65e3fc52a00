-- Two prefixes that are announced with the same attributes, and then withdrawn.
use Rattle.std.specs.Prelude.{ℕ, List, [], ◌∷◌, ◌++◌, replicate, Option}
use Rattle.rcp_model.specs.Cells.{Cell}

-- ORIGIN IGP, the path 65001, NEXT_HOP 10.0.0.1 and LOCAL_PREF 100
abbrev pub sample_attributes : List ℕ
sample_attributes =
    64 ∷ 1 ∷ 1 ∷ 0 ∷ 64 ∷ 2 ∷ 4 ∷ 2 ∷ 1 ∷ 253 ∷ 233 ∷ 64 ∷ 3 ∷ 4 ∷ 10 ∷ 0 ∷ 0 ∷ 1 ∷ 64 ∷ 5 ∷ 4 ∷ 0 ∷ 0 ∷ 0 ∷ 100 ∷ []

-- 198.51.100.0/24 and 203.0.113.0/24 with this value
abbrev pub sample_cells : Option (List ℕ) → List Cell
sample_cells value = (record { addr = 3325256704; len = 24 }, value) ∷ (record { addr = 3405803776; len = 24 }, value) ∷ []

abbrev pub sample_announcement : List ℕ
sample_announcement = replicate 16 255 ++ (0 ∷ 56 ∷ 2 ∷ 0 ∷ 0 ∷ 0 ∷ 25 ∷ []) ++ sample_attributes ++ (24 ∷ 198 ∷ 51 ∷ 100 ∷ 24 ∷ 203 ∷ 0 ∷ 113 ∷ [])

abbrev pub sample_withdrawal : List ℕ
sample_withdrawal = replicate 16 255 ++ (0 ∷ 31 ∷ 2 ∷ 0 ∷ 8 ∷ 24 ∷ 198 ∷ 51 ∷ 100 ∷ 24 ∷ 203 ∷ 0 ∷ 113 ∷ 0 ∷ 0 ∷ [])
