-- What a record does, and runs of records: the platform after them, and what is put out.
use Rattle.std.specs.Prelude.{◌≡◌, ℕ, ◌<◌, true, false, List, [], ◌∷◌, ◌++◌, Some, if◌then◌else◌}
use Rattle.rcp_base.specs.IpPrefix.{IpPrefix}
use Rattle.rcp_base.specs.Feed.{FeedRecord, OutRecord, begins}
use Rattle.rcp_base.specs.Roster.{RosterOf}
use Rattle.rcp_model.specs.Updates.{replay}
use Rattle.rcp_model.specs.RouteServer.{is_pending, announced_at, offer}
use Rattle.feed_meaning.specs.Platform.{Platform, domain_of, fresh, slot_on, Acted}
use Rattle.feed_meaning.specs.OutRecords.{sent_to}
use Rattle.feed_meaning.specs.SessionTurns.{turns_act}
use Rattle.feed_meaning.specs.LinkRecords.{links_act}
use Rattle.feed_meaning.specs.Work.{cell_of, work_act}

-- What a record does, in three stages: the turns of the sessions, the link state, and the work. What is put out stands in this order.
unfoldable pub act : Platform → FeedRecord → Acted
act platform item =
    let turned = turns_act platform item in
    let linked = links_act turned.after item.body item.kind in
    let worked = work_act linked.after item.body item.kind in
    record { after = worked.after; out = turned.out ++ linked.out ++ worked.out }

-- the platform after a list of records, and all that is put out for them
unfoldable pub platform_after : Platform → List FeedRecord → Platform
platform_after platform [] = platform
platform_after platform (item ∷ items) = platform_after (act platform item).after items

unfoldable pub all_output : Platform → List FeedRecord → List OutRecord
all_output platform [] = []
all_output platform (item ∷ items) = (act platform item).out ++ all_output (act platform item).after items

-- each connection's number is above those before, of which the greatest is this one
abbrev pub NumbersRise : ℕ → List FeedRecord → Type 0
NumbersRise last [] = Unit {0}
NumbersRise last (item ∷ items) =
    (begins item.kind ≡ true → last < item.source) × NumbersRise (if begins item.kind then item.source else last) items

-- THE HEADLINE, for one run from its beginning: where the router of a slot is connected, and a prefix isn't pending, the octets
-- sent to it, replayed, give for the prefix exactly what the slot is offered.
abbrev pub Headline : RosterOf → List FeedRecord → Type 0
Headline roster items =
    let platform = platform_after (fresh roster) items in
    let outs = all_output (fresh roster) items in
    (number slot : ℕ) (p : IpPrefix) → slot_on platform.connections number ≡ Some slot
    → is_pending platform.server p ≡ false
    → cell_of (Some (replay (sent_to number outs))) p
    ≡ offer (domain_of roster) (announced_at platform.server.announcements p) platform.server.edges slot
