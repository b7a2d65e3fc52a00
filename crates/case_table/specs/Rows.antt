-- What the rows of a table say of a code.
use Rattle.std.specs.Prelude.{ℕ, ◌+◌, Bool, true, ◌&&◌, ◌==◌, nat_le, List, [], ◌∷◌, Option, find}
use Rattle.case_table.specs.declared.Row.{Row}

-- whether the codes rise strictly, the first of them from low on
abbrev pub rises_from : ℕ → List Row → Bool
rises_from low [] = true
rises_from low (row ∷ rows) = nat_le low row.code && rises_from (row.code + 1) rows

-- whether the codes rise strictly
abbrev pub codes_rise : List Row → Bool
codes_rise rows = rises_from 0 rows

-- the row of a code, where there is one
abbrev pub row_of : List Row → ℕ → Option Row
row_of rows code = find (λ row. row.code == code) rows
