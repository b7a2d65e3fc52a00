use Rattle.std.proofs.Common.{◌≡◌, ◌==◌, not}
use Rattle.std.specs.FinMap as map_of
use Rattle.route_store.proofs.store.RouteStore.drop_all.Given as goal

abbrev pub invariant-loop-taken : goal.invariant-loop-taken
invariant-loop-taken l = map_of.retain_keys l.self (λ key. not (key.1 == l.slot)) ≡ map_of.retain_keys l.initial.self (λ key. not (key.1 == l.slot))

abbrev pub decreases-loop-taken : goal.decreases-loop-taken
decreases-loop-taken l = map_of.len l.self
