-- What the commands that report on feeds write, of the platforms to which the feeds lead.
use Rattle.std.specs.Prelude.{◌≡◌, ℕ, List, [], ◌∷◌, ◌++◌, map, Option, Some}
use Rattle.std.specs.List.{join_with_byte}
use Rattle.outside.specs.Told.{Rose, behind}
use Rattle.rcp_base.specs.IpPrefix.{IpPrefix}
use Rattle.rcp_base.specs.Roster.{RosterOf}
use Rattle.rcp_base.specs.Text.{address_text}
use Rattle.rcp_model.specs.RouteServer.{announced_at, is_connected, is_pending, table_of}
use Rattle.feed_meaning.specs.Platform.{Platform, domain_of, fresh}
use Rattle.feed_meaning.specs.Runs.{platform_after}
use Rattle.feed_meaning.specs.WholeFeeds.{FeedMeaning, FeedEnd, Finished, feed_meaning}
use Rattle.feed_meaning.specs.Work.{cell_of}
use Rattle.feed_format.specs.declared.status.Status.{Status}
use Rattle.feed_format.specs.declared.status.Status.TheVariants.{Done, Usage, Read, Write, NoPath, NetFault}
use Rattle.feed_format.specs.declared.status.WalkRefusal.{WalkRefusal}
use Rattle.feed_format.specs.Writing.{WritesLess}
use Rattle.feed_run.specs.Statuses.{HasCause, status_at}
use Rattle.hop_walk.specs.Hops.{Network, network_at, IsCause}
use Rattle.hop_walk.specs.Hops as hops
use Rattle.replica_law.specs.declared.difference.PartitionAnswer.{PartitionAnswer}
use Rattle.replica_law.specs.Replicas.{Replica, replica_of, AreAnswers}
use Rattle.replica_law.specs.Texts.{answers_text}
use Rattle.rcp_run.specs.Commands.{second_meaning}
use Rattle.rcp_run.specs.Tables.{tables_text}
use Rattle.rcp_run.specs.Generated.{WritesCause}
use Rattle.rcp_words.specs.declared.command.Command.{Command}
use Rattle.rcp_words.specs.declared.command.Command.TheVariants as command
use Rattle.rcp_words.specs.declared.command.Report.{Report}
use Rattle.rcp_words.specs.declared.command.Report.TheVariants as report

-- ---- what is asked of a platform

-- the attribute octets that a slot was given for a prefix
abbrev pub given_on : Platform → IpPrefix → ℕ → Option (List ℕ)
given_on platform p slot = cell_of (table_of platform.server slot) p

abbrev pub network_on : Platform → IpPrefix → Network
network_on platform p =
    network_at (domain_of platform.roster) platform.server.edges (is_connected platform.server) (announced_at platform.server.announcements) (given_on platform)
    (is_pending platform.server) p

abbrev pub replica_on : Platform → Replica
replica_on platform =
    replica_of platform.roster.as_number platform.roster.members platform.server.edges (is_connected platform.server) (announced_at platform.server.announcements)
    (given_on platform) (is_pending platform.server)

-- the platform to which a feed leads
pub record LeadsTo (feed : FeedMeaning) (platform : Platform) : Type 0 where
  pub roster : RosterOf
  pub given : feed.roster ≡ Some roster
  pub reached : platform ≡ platform_after (fresh roster) feed.items

-- ---- texts

-- the routers with spaces between them, and the end of the line
abbrev pub path_line : List ℕ → List ℕ
path_line routers = join_with_byte 32 (map address_text routers) ++ 10 ∷ []

-- the path on the platform to which the feed leads
pub record IsPathText (octets : List ℕ) (router : ℕ) (prefix : IpPrefix) (text : List ℕ) : Type 0 where
  pub platform : Platform
  pub leads : LeadsTo (feed_meaning octets) platform
  pub path : List ℕ
  pub answer : hops.IsAnswer (network_on platform prefix) router path
  pub line : text ≡ path_line path

-- the cause for which there is none
pub record IsRefused (octets : List ℕ) (router : ℕ) (prefix : IpPrefix) (refused : WalkRefusal) : Type 0 where
  pub platform : Platform
  pub leads : LeadsTo (feed_meaning octets) platform
  pub cause : IsCause (network_on platform prefix) router prefix refused.why

-- the comparison of the platforms to which the two feeds lead
pub record IsAgreement (octets : List ℕ) (text : List ℕ) : Type 0 where
  pub first : Platform
  pub first_leads : LeadsTo (feed_meaning octets) first
  pub second : Platform
  pub second_leads : LeadsTo (second_meaning octets) second
  pub answers : List PartitionAnswer
  pub are_answers : AreAnswers (replica_on first) (replica_on second) answers
  pub lines : text ≡ answers_text answers

-- the tables of the platform to which the feed leads
pub record IsTables (octets : List ℕ) (text : List ℕ) : Type 0 where
  pub platform : Platform
  pub leads : LeadsTo (feed_meaning octets) platform
  pub tables : text ≡ tables_text platform

abbrev pub IsReportText : Report → List ℕ → List ℕ → Type 0
IsReportText report.Tables octets text = IsTables octets text
IsReportText report.Agree octets text = IsAgreement octets text
IsReportText (report.Path router prefix) octets text = IsPathText octets router prefix text

-- `path` alone is refused
abbrev pub IsRefusedReport : Report → List ℕ → WalkRefusal → Type 0
IsRefusedReport (report.Path router prefix) octets refused = IsRefused octets router prefix refused
IsRefusedReport report octets refused = ⊥

-- ---- what was written

-- the whole text
pub record WritesText (report : Report) (octets : List ℕ) (before after : Option (List ℕ)) : Type 0 where
  pub text : List ℕ
  pub is : IsReportText report octets text
  pub wrote : after ≡ behind before text

-- a front of it, and not all
pub record WritesFront (report : Report) (octets : List ℕ) (before after : Option (List ℕ)) : Type 0 where
  pub text : List ℕ
  pub is : IsReportText report octets text
  pub less : WritesLess text before after

-- On Done the whole text, on Write a front of it, and else nothing.
abbrev pub WroteReport : Report → List ℕ → Status → Option (List ℕ) → Option (List ℕ) → Type 0
WroteReport report octets Done before after = WritesText report octets before after
WroteReport report octets Write before after = WritesFront report octets before after
WroteReport report octets (NoPath refused) before after = IsRefusedReport report octets refused × (after ≡ before)
WroteReport report octets status before after = after ≡ before

-- ---- statuses

-- the counts of faults of the source and of the sink before and after allow the status of a report
abbrev pub ReportCause : Report → Status → (source_before source_now sink_before sink_now : ℕ) → Type 0
ReportCause report Usage a b c d = ⊥
ReportCause report Read a b c d = Rose a b
ReportCause report Write a b c d = Rose c d
ReportCause (report.Path router prefix) (NoPath refused) a b c d = Unit {0}
ReportCause report (NoPath refused) a b c d = ⊥
ReportCause report NetFault a b c d = ⊥
ReportCause report status a b c d = Unit {0}

-- those of any command
abbrev pub CommandCause : Command → Status → (source_before source_now sink_before sink_now : ℕ) → Type 0
CommandCause command.Replay status a b c d = HasCause status a b c d
CommandCause (command.Report report) status a b c d = ReportCause report status a b c d
CommandCause (command.Make number) status a b c d = WritesCause status c d
CommandCause (command.Trial number threads) status a b c d = WritesCause status c d

-- The status that the end of the input asks for. Where `path` has read all of it, there may be no path.
pub data IsStatusFor : Command → FeedEnd → Status → Type 0 where
  ended : (command : Command) (end : FeedEnd) → IsStatusFor command end (status_at end)
  refused : (router : ℕ) (prefix : IpPrefix) (why : WalkRefusal) → IsStatusFor (command.Report (report.Path router prefix)) Finished (NoPath why)
