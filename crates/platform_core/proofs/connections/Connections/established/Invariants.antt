-- The connected routers of the connections so far are found.
use Rattle.std.proofs.Common.{◌≡◌, take}
use Rattle.platform_core.specs.Open.{sessions_in}
use Rattle.platform_core.proofs.EstablishedLemmas.{numbers_established, slots_established}
use Rattle.platform_core.proofs.connections.Connections.established.Given as goal

abbrev pub invariant-loop-connection : goal.invariant-loop-connection
invariant-loop-connection l = record {
  numbers : l.numbers.items ≡ numbers_established (sessions_in (take l.connection-index l.connection-items));
  slots : l.slots.items ≡ slots_established (sessions_in (take l.connection-index l.connection-items));
}
