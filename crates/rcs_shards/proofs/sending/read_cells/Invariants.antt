-- The cells so far are listed, and each shard's next cell is after them. Each turn lists one more, and a vector has at most 2^64 - 1.
use Rattle.std.proofs.Common.{◌≡◌, ◌-◌, ◌^◌, length, map}
use Rattle.update_pack.specs.Shown.{offered_cell}
use Rattle.rcs_shards.specs.Fronts.{AreFronts}
use Rattle.rcs_shards.proofs.ReadLemmas.{AreListed}
use Rattle.rcs_shards.proofs.sending.read_cells.Given as goal

abbrev pub invariant-loop-cell : goal.invariant-loop-cell
invariant-loop-cell l = record {
  listed : AreListed l.roster l.shards l.slot (map offered_cell l.cells.items) l.cursors.last;
  fronts : AreFronts l.shards l.busy l.slot l.cursors.last l.cursors.prefixes.items l.cursors.routes.items;
  passed : length l.cursors.passed.items ≡ length l.shards;
}

abbrev pub decreases-loop-cell : goal.decreases-loop-cell
decreases-loop-cell l = 2 ^ 64 - l.cells.len
