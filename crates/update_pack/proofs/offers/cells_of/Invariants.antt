-- The cells so far are those of the offers so far.
use Rattle.std.proofs.Common.{map}
use Rattle.update_pack.specs.Shown.{cell_of, offered_cell}
use Rattle.update_pack.proofs.PackLemmas.{AreListed}
use Rattle.update_pack.proofs.offers.cells_of.Given as goal

abbrev pub invariant-loop-offer : goal.invariant-loop-offer
invariant-loop-offer l = AreListed cell_of l.offers l.offer-index (map offered_cell l.cells.items)
