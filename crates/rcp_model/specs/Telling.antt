-- What a session reports of its router: routes that are those of their octets, and prefixes in form.
use Rattle.std.specs.Prelude.{◌≡◌, ℕ}
use Rattle.rcp_base.specs.IpPrefix.{IsPrefix}
use Rattle.rcp_base.specs.Octets.{AreOctets}
use Rattle.rcp_model.specs.Attributes.{attributes_in, canonical_octets, number_width}
use Rattle.rcp_model.specs.Routes.{RouteFields, route_in}
use Rattle.rcp_model.specs.Sessions.{SessionEvent, Up, Announce, Withdraw, Input, Octets}

-- a route with the fields of its octets, which are canonical
pub record IsRouteOf (as_number : ℕ) (route : RouteFields) : Type 0 where
  pub fields : route ≡ route_in number_width as_number route.attrs
  pub canonical : canonical_octets (attributes_in route.attrs) ≡ route.attrs

abbrev pub IsTold : ℕ → SessionEvent → Type 0
IsTold as_number Up = Unit {0}
IsTold as_number (Announce p route) = IsPrefix p × IsRouteOf as_number route
IsTold as_number (Withdraw p) = IsPrefix p

abbrev pub BringsOctets : Input → Type 0
BringsOctets (Octets piece now) = AreOctets piece
BringsOctets input = Unit {0}
