use Rattle.std.proofs.Common.{take}
use Rattle.cost_rows.specs.Search.{ArePlaces}
use Rattle.cost_rows.proofs.reaches.places_of.Given as goal

abbrev pub invariant-loop-router : goal.invariant-loop-router
invariant-loop-router l = ArePlaces l.names (take l.router-index l.routers) l.places.items
