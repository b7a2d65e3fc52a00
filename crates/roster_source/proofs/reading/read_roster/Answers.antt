use Rattle.std.proofs.Common.{ℕ, List, Option, Some, None}
use Rattle.std.specs.Prelude.{IfSome}
use Rattle.roster_source.proofs.reading.read_roster.Goals as goal

-- want of memory may come for any octets
any_octets : (left : Option (List ℕ)) → IfSome left (λ octets. Unit {0})
any_octets None = tt
any_octets (Some octets) = tt

pub returns-clause-exact : goal.returns-clause-exact
returns-clause-exact g c = any_octets (g.S.Source.left c.args.source.now)
