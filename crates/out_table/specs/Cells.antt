-- The cells of one slot by place, as four octets hold them.
use Rattle.std.specs.Prelude.{◌≡◌, ℕ, ◌-◌, ◌^◌, ◌≤◌, Bool, true, false, ◌==◌, List, [], ◌∷◌, length, slice_index_or, Option, Some, None}
use Rattle.rcp_model.specs.Ribs.{route_no_of}

-- what a cell without a route holds
abbrev pub no_number : ℕ
no_number = 2 ^ 32 - 1

-- the number in each cell, and the places of the dirty ones by rising prefix
pub record Cells : Type 0 where
  pub numbers : List ℕ
  pub dirty : List ℕ

abbrev pub no_cells : Cells
no_cells = record { numbers = []; dirty = [] }

-- what is held for the number of a route, or for none
abbrev pub held_for : Option ℕ → ℕ
held_for None = no_number
held_for (Some number) = number

-- the number of a route at a place: none where there is no cell
abbrev pub number_at : ℕ → List ℕ → Option ℕ
number_at place numbers = route_no_of (slice_index_or numbers place no_number)

abbrev pub is_same : Option ℕ → Option ℕ → Bool
is_same None None = true
is_same None (Some n) = false
is_same (Some m) None = false
is_same (Some m) (Some n) = m == n

abbrev pub first_of : List ℕ → Option ℕ
first_of [] = None
first_of (place ∷ places) = Some place

-- The cells before and after: each place has the number that it had, and the same are dirty. There may be more.
pub record Keeps (old new : Cells) : Type 0 where
  pub numbers : (place : ℕ) → slice_index_or new.numbers place no_number ≡ slice_index_or old.numbers place no_number
  pub more : length old.numbers ≤ length new.numbers
  pub dirty : new.dirty ≡ old.dirty
