-- The tables of the slots so far were put, and those of the others are to come.
use Rattle.std.proofs.Common.{◌≡◌, ◌++◌, drop}
use Rattle.feed_meaning.specs.Platform.{Platform}
use Rattle.platform_laws.specs.Platforms.{IsSeen}
use Rattle.rcp_run.specs.Tables.{tables_from}
use Rattle.rcp_run.proofs.tables.tables_of.Given as goal

abbrev pub invariant-loop-number : goal.invariant-loop-number
invariant-loop-number l = (platform : Platform) → IsSeen platform l.platform.seen
    → l.text.items ++ tables_from platform l.number (drop l.number platform.roster.members) ≡ tables_from platform 0 platform.roster.members
