use Rattle.std.proofs.Common.{◌≡◌, find, is_some}
use Rattle.out_table.specs.Cells.{number_at}
use Rattle.out_table.specs.Places.{Place, cells_at, places_after}
use Rattle.out_table.proofs.search.first_after_with.Given as goal

-- none of those before passes
abbrev pub invariant-loop-q : goal.invariant-loop-q
invariant-loop-q l =
    find (λ (e : Place). is_some (number_at e.1 (cells_at l.slot l.columns.items).numbers)) (places_after l.fn.p l.places.entries) ≡ find (λ (e : Place). is_some (number_at e.1 (cells_at l.slot l.columns.items).numbers)) l.q-iterator
