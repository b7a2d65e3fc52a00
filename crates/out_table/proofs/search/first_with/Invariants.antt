use Rattle.std.proofs.Common.{◌≡◌, find, is_some}
use Rattle.out_table.specs.Cells.{number_at}
use Rattle.out_table.specs.Places.{Place, cells_at}
use Rattle.out_table.proofs.search.first_with.Given as goal

-- none of those before passes
abbrev pub invariant-loop-p : goal.invariant-loop-p
invariant-loop-p l = find (λ (e : Place). is_some (number_at e.1 (cells_at l.slot l.columns.items).numbers)) l.places.entries ≡ find (λ (e : Place). is_some (number_at e.1 (cells_at l.slot l.columns.items).numbers)) l.p-iterator
