use Rattle.std.proofs.Common.{◌≡◌, take}
use Rattle.shard_cases.proofs.tests.members_of.Given as goal

abbrev pub invariant-loop-slot : goal.invariant-loop-slot
invariant-loop-slot l = l.members.items ≡ take l.slot l.roster.members
