use Rattle.spf_incr.specs.Tables.{engine_costs}
use Rattle.igp_view.specs.Following.{AreAllRows}
use Rattle.igp_view.proofs.following.all_rows.Given as goal

abbrev pub invariant-loop-place : goal.invariant-loop-place
invariant-loop-place l = AreAllRows (engine_costs l.engine) l.place l.rows.items
