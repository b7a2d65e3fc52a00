-- Routes (RFC 4271 sections 1.1 and 9.1): what the decision reads of path attributes.
use Rattle.std.specs.Prelude.{◌≡◌, ℕ, Bool, true, false, not, ◌&&◌, ◌==◌, List, [], ◌∷◌, length, sum_by, Option, Some, None, unwrap_or, IfSome, nat_lt, if◌then◌else◌}
use Rattle.std.specs.List.{list_any}
use Rattle.std.specs.Int.{Width, w8, w32, from_be_bytes}
use Rattle.rcp_base.specs.IpPrefix.{IpPrefix}
use Rattle.rcp_model.specs.Attributes.{Attribute, Segment, ORIGIN, AS_PATH, NEXT_HOP, MULTI_EXIT_DISC, LOCAL_PREF, AS_SEQUENCE, value_of, segments_in, attributes_in, canonical_octets, has_route}

-- the fields of a route; `attrs` are the canonical octets of its path attributes
pub record RouteFields : Type 0 where
  pub pref : ℕ
  pub hops : ℕ
  pub origin : ℕ
  pub neighbour : ℕ
  pub med : ℕ
  pub looped : Bool
  pub long : Bool
  pub next_hop : ℕ
  pub attrs : List ℕ

-- the number in a value of four octets, or another where the attribute is absent
abbrev pub number_or : ℕ → Option (List ℕ) → ℕ
number_or absent None = absent
number_or absent (Some value) = from_be_bytes w32 value

abbrev pub path_of : Width → List Attribute → List Segment
path_of width attributes = segments_in width (unwrap_or (value_of AS_PATH attributes) [])

-- each number of an AS_SEQUENCE counts one, each AS_SET one (section 9.1.2.2)
abbrev pub hops_of : Segment → ℕ
hops_of segment = if segment.kind == AS_SEQUENCE then length segment.numbers else 1

-- the first number of a path that begins with an AS_SEQUENCE, else the local AS
abbrev pub neighbour_of : ℕ → List Segment → ℕ
neighbour_of as_number [] = as_number
neighbour_of as_number (segment ∷ segments) = if segment.kind == AS_SEQUENCE then first_or as_number segment.numbers else as_number where
  first_or : ℕ → List ℕ → ℕ
  first_or other [] = other
  first_or other (n ∷ numbers) = n

-- octets that leave no room for the longest prefix in an UPDATE of 4,096 octets
abbrev pub is_long : List ℕ → Bool
is_long octets = nat_lt 4068 (length octets)

-- the route of an attribute list in an AS
unfoldable pub route_of : Width → ℕ → List Attribute → RouteFields
route_of width as_number attributes = record {
  pref = number_or 100 (value_of LOCAL_PREF attributes);
  hops = sum_by hops_of (path_of width attributes);
  origin = from_be_bytes w8 (unwrap_or (value_of ORIGIN attributes) []);
  neighbour = neighbour_of as_number (path_of width attributes);
  med = number_or 0 (value_of MULTI_EXIT_DISC attributes);
  looped = list_any (λ segment. list_any (λ n. n == as_number) segment.numbers) (path_of width attributes);
  long = is_long (canonical_octets attributes);
  next_hop = number_or 0 (value_of NEXT_HOP attributes);
  attrs = canonical_octets attributes;
}

-- the route of canonical octets in an AS
abbrev pub route_in : Width → ℕ → List ℕ → RouteFields
route_in width as_number octets = route_of width as_number (attributes_in octets)

-- what takes part in the decision (section 9.1.2): a route without a loop that an UPDATE can carry
abbrev pub is_usable : RouteFields → Bool
is_usable route = not route.looped && not route.long

-- What every route keeps: its octets are the canonical ones of an attribute list with ORIGIN, AS_PATH and NEXT_HOP, and `long` says whether they are.
pub record IsRoute (route : RouteFields) : Type 0 where
  pub canonical_attrs : canonical_octets (attributes_in route.attrs) ≡ route.attrs
  pub complete : has_route (attributes_in route.attrs) ≡ true
  pub long_is : route.long ≡ is_long route.attrs

-- ---- offers

-- what a router is given at a prefix; the generation counts the claims of its seat
pub record OfferFields : Type 0 where
  pub generation : ℕ
  pub prefix : IpPrefix
  pub attrs : Option (List ℕ)

-- the octets are the canonical ones of a route that isn't long
pub record IsOffered (octets : List ℕ) : Type 0 where
  pub canonical_attrs : canonical_octets (attributes_in octets) ≡ octets
  pub complete : has_route (attributes_in octets) ≡ true
  pub short : is_long octets ≡ false

-- What every offer keeps: its octets, where there are any, can be sent.
abbrev pub IsOffer : Option (List ℕ) → Type 0
IsOffer attrs = IfSome attrs IsOffered
