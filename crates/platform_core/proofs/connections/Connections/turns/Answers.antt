use Rattle.std.proofs.Common.{List, ℕ, sym, subst}
use Rattle.rcp_base.specs.declared.kinds.Kind.{Kind}
use Rattle.rcp_base.specs.declared.kinds.Kind.TheVariants as kind
use Rattle.rcp_base.specs.Feed.{FeedRecord}
use Rattle.platform_core.specs.Turns.{Take, turns_at}
use Rattle.platform_core.proofs.OpenLemmas.{if_ok}
use Rattle.platform_core.proofs.connections.Connections.turns.Goals as goal

pub returns-in-Ready : goal.returns-in-Ready
returns-in-Ready c =
    if_ok _ _ c.open_established.result (λ taken is.
    let P : FeedRecord → Type 0 = λ item. Take c.args.roster.now (turns_at c.args.roster.now c.args.time c.args.self.now.sessions item) c.args.self.now c.open_established.new.self taken.items in
    subst P c.item.view_is
    (subst (λ (k : Kind). P (record { kind = k; source = c.item.inside.source; body = c.item.inside.body.items })) (sym c.in-Ready.is)
    (subst (λ (b : List ℕ). P (record { kind = kind.Ready; source = c.item.inside.source; body = b })) c.deref.ensures.value (is c.args.time)))) c.open_established.ensures
