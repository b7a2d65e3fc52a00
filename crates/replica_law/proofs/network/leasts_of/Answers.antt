use Rattle.replica_law.proofs.NetworkLemmas.{leasts_sorted}
use Rattle.replica_law.proofs.network.leasts_of.Goals as goal

pub returns-clause-exact : goal.returns-clause-exact
returns-clause-exact c =
    leasts_sorted c.args.network.now.partitions c.args.network.now.seats c.in_ok-leasts.leasts.items c.sort.new.routers.items c.in_ok-leasts.ensures c.sort.ensures.kept c.sort.ensures.no_other
