use Rattle.std.specs.FinMap as map_of
use Rattle.route_store.proofs.StoreLemmas.{differs}
use Rattle.route_store.proofs.store.RouteStore.set.Goals as goal

pub returns-clause-changed : goal.returns-clause-changed
returns-clause-changed c =
    differs c.in_ok-old.old c.args.route c.ne.result c.ne.ensures (map_of.get c.args.self.now (c.args.p, c.args.slot)) c.in_ok-old.ensures.before
