-- The LSAs of the routers so far.
use Rattle.std.proofs.Common.{◌≡◌, take}
use Rattle.std.specs.List.{concat}
use Rattle.feed_make.specs.Feeds.{lsas}
use Rattle.feed_make.proofs.lsas.packet_of.Given as goal

abbrev pub invariant-loop-router : goal.invariant-loop-router
invariant-loop-router l = l.lsas.items ≡ concat (lsas l.network.number l.network.changes (take l.router-index l.routers))
