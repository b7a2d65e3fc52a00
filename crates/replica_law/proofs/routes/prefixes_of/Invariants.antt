use Rattle.std.proofs.Common.{IfSome}
use Rattle.rcp_base.specs.IpPrefix.{IsPrefix}
use Rattle.replica_law.proofs.PrefixLemmas.{ArePrefixesTo, left_after}
use Rattle.replica_law.proofs.routes.prefixes_of.Given as goal

abbrev pub invariant-loop-next : goal.invariant-loop-next
invariant-loop-next g l = ArePrefixesTo (g.X.Assigned.announced l.first) (g.Y.Assigned.announced l.second) l.last l.prefixes.items × IfSome l.last IsPrefix

abbrev pub decreases-loop-next : goal.decreases-loop-next
decreases-loop-next g l = left_after l.last
