-- The groups are those of the cells so far, and each number has its place.
use Rattle.update_pack.specs.Shown.{numbered_cell, groups_in}
use Rattle.update_pack.specs.Places.{AreNumbered}
use Rattle.update_pack.proofs.PackLemmas.{AreGrouped}
use Rattle.update_pack.proofs.numbered.pack_numbered.Given as goal

abbrev pub invariant-loop-cell : goal.invariant-loop-cell
invariant-loop-cell l =
    AreGrouped (numbered_cell l.attrs) l.cells l.cell-index (groups_in l.groups.items)
    × AreNumbered l.places.items l.attrs (groups_in l.groups.items)
