-- A table after any run of changes has the values last set, and what changed since is dirty.
use Rattle.std.proofs.Common.{◌≡◌, ℕ, Bool, not, ◌&&◌, ◌||◌, eqb, cond, List, [], ◌∷◌, Option, None, ap, ◌∙◌}
use Rattle.std.specs.FinMap as map_of
use Rattle.std.specs.FinSet as set_of
use Rattle.std.specs.Ordering.{eq_by_cmp}
use Rattle.rcp_base.specs.IpPrefix.{IpPrefix}
use Rattle.rcp_model.specs.Ribs.{rib_cmp}
use Rattle.rcp_model.proofs.RibLemmas.{rib_total, rib_tied}
use Rattle.out_table.specs.Cells.{is_same}
use Rattle.out_table.specs.Tables.{cell, is_dirty}
use Rattle.out_table.specs.Histories.{Change, Open, Set, Take, Clear, table_after, is_cell, last_value, was_changed}
use Rattle.out_table.proofs.TableLemmas.{get-with_number, contains-marked, cell-cleared, dirty-cleared}

pub last_values : (members : ℕ) (changes : List Change) (s : ℕ) (q : IpPrefix) → cell (table_after members changes) s q ≡ last_value s q changes
last_values members [] s q = map_of.get-empty rib_cmp (q, s)
last_values members (Open p ∷ before) s q = last_values members before s q
last_values members (Set slot p value ∷ before) s q =
    get-with_number (p, slot) (q, s) value (table_after members before).cells
    ∙ ap (λ (t : Bool). cond t value (cell (table_after members before) s q)) (rib_tied (q, s) (p, slot))
    ∙ ap (cond (is_cell q s p slot) value) (last_values members before s q)
last_values members (Take slot p ∷ before) s q = last_values members before s q
last_values members (Clear slot ∷ before) s q =
    cell-cleared slot s q (table_after members before) ∙ ap (λ (o : Option ℕ). cond (not (eqb s slot)) o None) (last_values members before s q)

pub changed_cells : (members : ℕ) (changes : List Change) (s : ℕ) (q : IpPrefix) → is_dirty (table_after members changes) s q ≡ was_changed s q changes
changed_cells members [] s q = set_of.contains-empty rib_cmp (q, s)
changed_cells members (Open p ∷ before) s q = changed_cells members before s q
changed_cells members (Set slot p value ∷ before) s q =
    contains-marked (is_same (cell (table_after members before) slot p) value) (p, slot) (q, s) (table_after members before).dirty
    ∙ ap (λ (o : Option ℕ). (not (is_same o value) && eq_by_cmp rib_cmp (q, s) (p, slot)) || is_dirty (table_after members before) s q) (last_values members before slot p)
    ∙ ap (λ (t : Bool). (not (is_same (last_value slot p before) value) && t) || is_dirty (table_after members before) s q) (rib_tied (q, s) (p, slot))
    ∙ ap (λ (t : Bool). (not (is_same (last_value slot p before) value) && is_cell q s p slot) || t) (changed_cells members before s q)
changed_cells members (Take slot p ∷ before) s q =
    set_of.contains-remove rib_total (table_after members before).dirty (p, slot) (q, s)
    ∙ ap (λ (t : Bool). not t && is_dirty (table_after members before) s q) (rib_tied (q, s) (p, slot))
    ∙ ap (λ (t : Bool). not (is_cell q s p slot) && t) (changed_cells members before s q)
changed_cells members (Clear slot ∷ before) s q =
    dirty-cleared slot s q (table_after members before) ∙ ap (λ (t : Bool). t && not (eqb s slot)) (changed_cells members before s q)
