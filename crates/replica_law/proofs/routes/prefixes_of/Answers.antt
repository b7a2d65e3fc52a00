use Rattle.replica_law.proofs.PrefixLemmas.{prefixes_none, prefixes_more, prefixes_all, fewer_after}
use Rattle.replica_law.proofs.routes.prefixes_of.Goals as goal

pub loop-next-init : goal.loop-next-init
loop-next-init g c = (prefixes_none (g.X.Assigned.announced c.args.first.now) (g.Y.Assigned.announced c.args.second.now) c.new-prefixes.result.items c.new-prefixes.ensures.items, tt)

pub loop-next-preserved : goal.loop-next-preserved
loop-next-preserved g c = (
  prefixes_more (g.X.Assigned.announced c.args.first.now) (g.Y.Assigned.announced c.args.second.now) c.loop-next.last c.in-Some.next c.loop-next.prefixes.items c.push.new.self.items c.loop-next.invariant.0
      c.in-Some.ensures.least c.in_ok-push.ensures.items,
  c.in-Some.ensures.in_form,
)

pub loop-next-smaller : goal.loop-next-smaller
loop-next-smaller g c = fewer_after c.loop-next.last c.in-Some.next c.loop-next.invariant.1 c.in-Some.ensures.in_form c.in-Some.ensures.least.0.0

pub returns : goal.returns
returns g c =
    prefixes_all (g.X.Assigned.announced c.args.first.now) (g.Y.Assigned.announced c.args.second.now) c.loop-next.last c.loop-next.prefixes.items c.loop-next.invariant.0 c.in_default.ensures.least
