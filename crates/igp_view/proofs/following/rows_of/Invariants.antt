use Rattle.std.proofs.Common.{take}
use Rattle.spf_incr.specs.Tables.{engine_costs}
use Rattle.igp_view.specs.Following.{AreRowsOf}
use Rattle.igp_view.proofs.following.rows_of.Given as goal

abbrev pub invariant-loop-slot : goal.invariant-loop-slot
invariant-loop-slot l = AreRowsOf (engine_costs l.engine) (take l.slot-index l.pairs) l.rows.items
