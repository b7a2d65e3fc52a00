use Rattle.std.proofs.Common.{◌≡◌}
use Rattle.std.specs.FinMap as map_of
use Rattle.adj_ribs.proofs.DropLemmas.{IsReleasing, left}
use Rattle.adj_ribs.proofs.ribs.AdjRibs.clear.Given as goal

abbrev pub invariant-loop-p : goal.invariant-loop-p
invariant-loop-p l =
    let before = l.initial.self-inside in
    (l.self-inside.announcements ≡ before.announcements) × (l.self-inside.table ≡ before.table)
    × IsReleasing before.routes l.self-inside.routes before.announcements before.table.cells l.slot l.after

abbrev pub decreases-loop-p : goal.decreases-loop-p
decreases-loop-p l = map_of.len (left l.slot l.after l.initial.self-inside.table.cells)
