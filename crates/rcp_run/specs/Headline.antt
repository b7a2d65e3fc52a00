-- THE HEADLINE over the octets that a sink took: read as output records, and the messages to a router replayed, they give exactly what
-- the router is offered.
use Rattle.std.specs.Prelude.{◌≡◌, ℕ, false, List, ◌++◌, take, Option, Some}
use Rattle.rcp_base.specs.IpPrefix.{IpPrefix}
use Rattle.rcp_base.specs.Feed.{FeedRecord}
use Rattle.rcp_base.specs.Roster.{RosterOf}
use Rattle.rcp_model.specs.Updates.{replay}
use Rattle.rcp_model.specs.RouteServer.{is_pending, announced_at, offer}
use Rattle.feed_meaning.specs.OutRecords.{sent_to}
use Rattle.feed_meaning.specs.Platform.{domain_of, fresh, slot_on}
use Rattle.feed_meaning.specs.Runs.{platform_after}
use Rattle.feed_meaning.specs.WholeFeeds.{outputs}
use Rattle.feed_meaning.specs.Work.{cell_of}
use Rattle.feed_format.specs.declared.status.Status.{Status}
use Rattle.feed_run.specs.Frames.{outs_in}
use Rattle.feed_run.specs.Written.{Takes, Answered, records_in}

-- These octets were written when the records were answered: for each router that is connected then, and each prefix that isn't pending, the
-- messages to its connection, replayed, give at the prefix exactly what the router is offered.
abbrev pub Gives : RosterOf → List FeedRecord → List ℕ → Type 0
Gives roster items written =
    let platform = platform_after (fresh roster) items in
    (number slot : ℕ) (p : IpPrefix) → slot_on platform.connections number ≡ Some slot
    → is_pending platform.server p ≡ false
    → cell_of (Some (replay (sent_to number (outs_in written)))) p
    ≡ offer (domain_of roster) (announced_at platform.server.announcements p) platform.server.edges slot

-- the front of the octets that is the output of these records does
pub record GivesBy (roster : RosterOf) (items : List FeedRecord) (written : List ℕ) : Type 0 where
  pub front : List ℕ
  pub output : front ≡ outputs roster items
  pub later : List ℕ
  pub parts : written ≡ front ++ later
  pub gives : Gives roster items front

-- So it is after each of the records whose output a status says was written whole.
pub record HeadlineWritten (status : Status) (roster : RosterOf) (octets : List ℕ) (now : Option (List ℕ)) (written : List ℕ) : Type 0 where
  pub taken : List ℕ
  pub takes : Takes octets taken now
  pub items : List FeedRecord
  pub answered : Answered records_in status octets taken items
  pub each : (count : ℕ) → GivesBy roster (take count items) written
