use Rattle.std.proofs.Common.{◌≡◌}
use Rattle.std.specs.FinMap as map_of
use Rattle.adj_ribs.specs.Bases.{after_drop}
use Rattle.adj_ribs.proofs.ribs.AdjRibs.drop_all.Given as goal

abbrev pub invariant-loop-p : goal.invariant-loop-p
invariant-loop-p l = after_drop l.slot l.self ≡ after_drop l.slot l.initial.self

abbrev pub decreases-loop-p : goal.decreases-loop-p
decreases-loop-p l = map_of.len l.self.announced
