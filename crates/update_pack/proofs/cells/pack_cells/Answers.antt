-- A list of one cell needs no groups.
use Rattle.std.proofs.Common.{rules}
use Rattle.update_pack.specs.Shown.{offered_cell}
use Rattle.update_pack.proofs.PackLemmas.{sendable-at}
use Rattle.update_pack.proofs.cells.pack_cells.Goals as goal

pub pack_one-requires : goal.pack_one-requires
pack_one-requires c = sendable-at offered_cell c.args.cells.now 0 c.index-cells-0.result c.requires (search rules) c.index-cells-0.is
