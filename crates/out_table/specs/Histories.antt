-- What a table is after any run of changes, in words of the run alone.
use Rattle.std.specs.Prelude.{ℕ, Bool, false, not, ◌&&◌, ◌||◌, ◌==◌, List, [], ◌∷◌, Option, Some, None, if◌then◌else◌}
use Rattle.std.specs.Ordering.{eq_by_cmp}
use Rattle.rcp_base.specs.IpPrefix.{IpPrefix, prefix_cmp}
use Rattle.out_table.specs.Cells.{is_same}
use Rattle.out_table.specs.Tables.{Table, new_table, opened, after_set, cleaned, cleared}

-- a prefix is opened; a slot's cell at a prefix is set to a value; a slot's dirty cell at a prefix is taken; a slot is cleared
pub data Change : Type 0 where
  Open : IpPrefix → Change
  Set : ℕ → IpPrefix → Option ℕ → Change
  Take : ℕ → IpPrefix → Change
  Clear : ℕ → Change

-- the table after some changes, the last one first
abbrev pub table_after : ℕ → List Change → Table
table_after members [] = new_table members
table_after members (Open p ∷ before) = opened p (table_after members before)
table_after members (Set slot p value ∷ before) = after_set slot p value (table_after members before)
table_after members (Take slot p ∷ before) = cleaned slot (Some p) (table_after members before)
table_after members (Clear slot ∷ before) = cleared slot (table_after members before)

abbrev pub is_cell : IpPrefix → ℕ → IpPrefix → ℕ → Bool
is_cell q s p slot = eq_by_cmp prefix_cmp q p && s == slot

-- the value that the cell of a slot at a prefix was last set to: none where it never was, or was cleared since
abbrev pub last_value : ℕ → IpPrefix → List Change → Option ℕ
last_value s q [] = None
last_value s q (Open p ∷ before) = last_value s q before
last_value s q (Set slot p value ∷ before) = if is_cell q s p slot then value else last_value s q before
last_value s q (Take slot p ∷ before) = last_value s q before
last_value s q (Clear slot ∷ before) = if not (s == slot) then last_value s q before else None

-- whether that cell was set to another value since it was last taken or cleared
abbrev pub was_changed : ℕ → IpPrefix → List Change → Bool
was_changed s q [] = false
was_changed s q (Open p ∷ before) = was_changed s q before
was_changed s q (Set slot p value ∷ before) = not (is_same (last_value slot p before) value) && is_cell q s p slot || was_changed s q before
was_changed s q (Take slot p ∷ before) = not (is_cell q s p slot) && was_changed s q before
was_changed s q (Clear slot ∷ before) = was_changed s q before && not (s == slot)
