use Rattle.std.proofs.Common.{◌≡◌, refl, ap, ◌∙◌}
use Rattle.rcp_base.specs.Feed.{FeedRecord}
use Rattle.rcp_base.specs.Roster.{RosterOf}
use Rattle.feed_meaning.specs.WholeFeeds.{kind_fault, roster_fault}
use Rattle.platform_core.specs.States.{StateOf}
use Rattle.platform_core.proofs.platform.Platform.check.Goals as goal

fault_is : (roster : RosterOf) (item : FeedRecord) → kind_fault roster item.body item.kind ≡ roster_fault roster item
unfolding roster_fault
fault_is roster item = refl

pub returns : goal.returns
returns c =
    let roster = c.roster.ensures.value ∙ ap (λ (p : StateOf). p.seen.roster) c.self.view_is in
    let body = c.deref.ensures.value ∙ ap (λ (r : FeedRecord). r.body) c.item.view_is in
    let kind = ap (λ (r : FeedRecord). r.kind) c.item.view_is in
    c.fault_for.ensures ∙ (λ i. kind_fault (roster i) (body i) (kind i)) ∙ fault_is c.args.self.now.seen.roster c.args.item.now
