-- What is added to the text of the tables: that of a table, and that of its entries.
use Rattle.std.specs.Prelude.{◌≡◌, ℕ, List, ◌++◌, Some, slice_get}
use Rattle.rcp_base.specs.IpPrefix.{IpPrefix}
use Rattle.rcp_base.specs.declared.names.Member.{Member}
use Rattle.rcp_model.specs.RouteServer.{table_of}
use Rattle.feed_meaning.specs.Platform.{Platform}
use Rattle.feed_meaning.specs.Work.{cell_of}
use Rattle.platform_laws.specs.Platforms.{PlatformOf, IsSeen}
use Rattle.rcp_run.specs.Tables.{entry_line, entries_text, table_text}

abbrev pub AddsEntry : PlatformOf → ℕ → IpPrefix → (before after : List ℕ) → Type 0
AddsEntry seen slot p before after =
    (platform : Platform) → IsSeen platform seen → after ≡ before ++ entry_line platform.roster.as_number p (cell_of (table_of platform.server slot) p)

abbrev pub AddsEntries : PlatformOf → ℕ → (before after : List ℕ) → Type 0
AddsEntries seen slot before after =
    (platform : Platform) → IsSeen platform seen → after ≡ before ++ entries_text platform.roster.as_number (table_of platform.server slot)

abbrev pub AddsTable : PlatformOf → ℕ → (before after : List ℕ) → Type 0
AddsTable seen slot before after =
    (platform : Platform) (member : Member) → IsSeen platform seen → slice_get platform.roster.members slot ≡ Some member
    → after ≡ before ++ table_text platform.roster.as_number member.router (table_of platform.server slot)
