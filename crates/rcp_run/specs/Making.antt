-- The text of a report before it is written: how it is made from the feeds that were read.
use Rattle.std.specs.Prelude.{◌≡◌, ℕ, List, Option, Some}
use Rattle.outside.specs.Told.{Rose}
use Rattle.rcp_base.specs.IpPrefix.{IpPrefix}
use Rattle.feed_meaning.specs.Platform.{domain_of}
use Rattle.feed_meaning.specs.WholeFeeds.{Finished}
use Rattle.feed_format.specs.declared.status.Status.{Status}
use Rattle.feed_format.specs.declared.status.Status.TheVariants.{Done, Usage, Read, Write, NoMemory, NoPath, NetFault}
use Rattle.rcp_base.specs.Feed.{FeedState, before_feeds}
use Rattle.platform_core.specs.States.{StateOf}
use Rattle.feed_run.specs.Whole.{IsWhole}
use Rattle.feed_run.specs.Going.{ReadsSo}
use Rattle.hop_walk.specs.Hops.{Network, network_at, IsCause}
use Rattle.hop_walk.specs.Hops as hops
use Rattle.platform_laws.specs.Asked.{is_connected, is_pending, announced_route, given_route, octets_of}
use Rattle.platform_laws.specs.Platforms.{PlatformOf}
use Rattle.rcs_shards.specs.Servers.{edges_in}
use Rattle.replica_law.specs.declared.difference.PartitionAnswer.{PartitionAnswer}
use Rattle.replica_law.specs.Replicas.{Replica, replica_of, AreAnswers}
use Rattle.replica_law.specs.Texts.{answers_text}
use Rattle.rcp_run.specs.Commands.{report_end, report_left}
use Rattle.rcp_run.specs.Reports.{IsReportText, IsRefusedReport, path_line}
use Rattle.rcp_words.specs.declared.command.Report.{Report}
use Rattle.rcp_words.specs.declared.command.Report.TheVariants as report

-- ---- the texts of platforms by what is asked of them

abbrev pub seen_network : PlatformOf → IpPrefix → Network
seen_network seen p =
    network_at (domain_of seen.roster) (edges_in seen.shards) (is_connected seen.shards) (λ q slot. octets_of (announced_route seen.roster seen.shards q slot))
    (λ q slot. octets_of (given_route seen.roster seen.shards q slot)) (is_pending seen.roster seen.shards) p

abbrev pub seen_replica : PlatformOf → Replica
seen_replica seen =
    replica_of seen.roster.as_number seen.roster.members (edges_in seen.shards) (is_connected seen.shards) (λ q slot. octets_of (announced_route seen.roster seen.shards q slot))
    (λ q slot. octets_of (given_route seen.roster seen.shards q slot)) (is_pending seen.roster seen.shards)

pub record IsPathOn (seen : PlatformOf) (router : ℕ) (prefix : IpPrefix) (text : List ℕ) : Type 0 where
  pub path : List ℕ
  pub answer : hops.IsAnswer (seen_network seen prefix) router path
  pub line : text ≡ path_line path

-- why there is no path: its cause, or want of memory
abbrev pub IsRefusedOn : PlatformOf → ℕ → IpPrefix → Status → Type 0
IsRefusedOn seen router prefix (NoPath refused) = IsCause (seen_network seen prefix) router prefix refused.why
IsRefusedOn seen router prefix status = status ≡ NoMemory

pub record IsAgreementOf (first second : PlatformOf) (text : List ℕ) : Type 0 where
  pub answers : List PartitionAnswer
  pub are_answers : AreAnswers (seen_replica first) (seen_replica second) answers
  pub lines : text ≡ answers_text answers

-- ---- a report

-- the text was made of input that ended, all of which was read
pub record IsMade (report : Report) (octets text : List ℕ) (now : Option (List ℕ)) : Type 0 where
  pub ended : report_end report octets ≡ Finished
  pub left : now ≡ Some (report_left report octets)
  pub is : IsReportText report octets text

abbrev pub RefusesFor : Report → List ℕ → Status → Type 0
RefusesFor report octets (NoPath refused) = IsRefusedReport report octets refused
RefusesFor report octets status = Unit {0}

-- there is none
pub record IsUnmade (report : Report) (octets : List ℕ) (status : Status) (now : Option (List ℕ)) : Type 0 where
  pub reads : ReadsSo (report_end report) (report_left report) 0 status octets now
  pub refused : RefusesFor report octets status

-- a status that comes before anything is written has its cause
abbrev pub MadeCause : Report → Status → (before now : ℕ) → Type 0
MadeCause report Done before now = ⊥
MadeCause report Usage before now = ⊥
MadeCause report Write before now = ⊥
MadeCause report NetFault before now = ⊥
MadeCause report Read before now = Rose before now
MadeCause (report.Path router prefix) (NoPath refused) before now = Unit {0}
MadeCause report (NoPath refused) before now = ⊥
MadeCause report status before now = Unit {0}

-- ---- the second feed

-- These octets began with the first feed, which led to this platform and left the reader here.
pub record FollowsFeed (octets : List ℕ) (platform : StateOf) (reader : FeedState) (number : ℕ) (now : Option (List ℕ)) : Type 0 where
  pub earlier : FeedState
  pub none : earlier ≡ before_feeds
  pub whole : IsWhole earlier (record { platform = platform; reader = reader; number = number }) (Some octets) now
