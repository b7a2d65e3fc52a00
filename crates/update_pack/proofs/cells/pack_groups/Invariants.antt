-- The groups are those of the cells so far, the map has their places, and the last cell's group is known.
use Rattle.update_pack.specs.Shown.{offered_cell, groups_in}
use Rattle.update_pack.specs.Places.{ArePlaces, IsAPlace}
use Rattle.update_pack.proofs.PackLemmas.{AreGrouped}
use Rattle.update_pack.proofs.cells.pack_groups.Given as goal

abbrev pub invariant-loop-cell : goal.invariant-loop-cell
invariant-loop-cell l =
    AreGrouped offered_cell l.cells l.cell-index (groups_in l.groups.items)
    × ArePlaces l.places (groups_in l.groups.items)
    × IsAPlace l.last (groups_in l.groups.items)
