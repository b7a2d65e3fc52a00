-- How the routes that are kept and the index of their numbers belong together.
use Rattle.std.specs.Prelude.{◌≡◌, ℕ, ◌-◌, ◌^◌, ◌<◌, Option, Some}
use Rattle.std.specs.FinMap as map_of
use Rattle.std.specs.HashMap as hash
use Rattle.std.specs.HashMap.{HashMap}
use Rattle.slab.specs.Slab as slab
use Rattle.slab.specs.Slab.{Slab}
use Rattle.rcp_model.specs.Routes.{RouteFields}
use Rattle.attr_store.specs.declared.kept.KeptRoute.{KeptRoute}
use Rattle.attr_store.specs.SameRoutes.{same_route}
use Rattle.attr_store.specs.Kept.{KeptRoutes}

-- the routes of a slab as a finite map
abbrev pub kept_routes : Slab KeptRoute → KeptRoutes
kept_routes kept = map_of.from_entries (slab.entries kept)

-- what holds of a number that is live
pub record IsIndexed (number : ℕ) (kept : KeptRoute) (found : Option ℕ) : Type 0 where
  pub small : number < 2 ^ 32 - 1
  pub in_use : 0 < kept.uses
  pub here : found ≡ Some number

-- The index has each live number under its route, and no other.
pub record IsJoined {S : Type 0} (kept : Slab KeptRoute) (numbers : HashMap RouteFields ℕ S) : Type 0 where
  pub indexed : (number : ℕ) (k : KeptRoute) → slab.get kept number ≡ Some k → IsIndexed number k (hash.get same_route numbers k.route)
  pub live : (route : RouteFields) (number : ℕ) → hash.get same_route numbers route ≡ Some number → (k : KeptRoute) × (slab.get kept number ≡ Some k) × (k.route ≡ route)
