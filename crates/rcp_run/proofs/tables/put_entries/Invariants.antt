-- The entries up to the last one were put, and those after it are to come.
use Rattle.std.proofs.Common.{◌≡◌, ◌++◌, IfSome}
use Rattle.std.specs.List.{flat_map}
use Rattle.rcp_base.specs.IpPrefix.{IsPrefix}
use Rattle.rcp_model.specs.RouteServer.{table_of}
use Rattle.feed_meaning.specs.Platform.{Platform}
use Rattle.platform_laws.specs.Platforms.{IsSeen}
use Rattle.replica_law.proofs.PrefixLemmas.{left_after}
use Rattle.rcp_run.specs.Tables.{prefixes_in, entries_text}
use Rattle.rcp_run.proofs.TableLemmas.{from, line_at}
use Rattle.rcp_run.proofs.tables.put_entries.Given as goal

abbrev pub invariant-loop-prefix : goal.invariant-loop-prefix
invariant-loop-prefix l = record {
  in_form : IfSome l.last IsPrefix;
  text : (platform : Platform) → IsSeen platform l.platform.seen
      → l.text.items ++ flat_map (line_at platform.roster.as_number (table_of platform.server l.slot)) (from l.last (prefixes_in (table_of platform.server l.slot)))
      ≡ l.fn.text.items ++ entries_text platform.roster.as_number (table_of platform.server l.slot);
}

abbrev pub decreases-loop-prefix : goal.decreases-loop-prefix
decreases-loop-prefix l = left_after l.last
