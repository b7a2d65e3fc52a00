-- The routing information bases (RFC 4271 section 3.2) as finite maps, and the numbers of routes.
use Rattle.std.specs.Prelude.{ℕ, ◌-◌, ◌^◌, Option, Some, None, nat_lt, if◌then◌else◌, refl}
use Rattle.std.specs.Coded.{Coded, code_by, coded×, coded_ℕ}
use Rattle.std.specs.FinMap as map_of
use Rattle.std.specs.Ordering.{nat_cmp, ordering_then}
use Rattle.std.specs.declared.cmp.Ordering.{Ordering}
use Rattle.rcp_base.specs.IpPrefix.{IpPrefix, prefix_cmp}

-- a route's number: none where it is 2^32 - 1 or more
abbrev pub route_no_of : ℕ → Option ℕ
route_no_of number = if nat_lt number (2 ^ 32 - 1) then Some number else None

-- where a route stands in a base: its prefix, and the slot of the router that announced it or is given it
abbrev pub RibKey : Type 0
RibKey = IpPrefix × ℕ

-- by prefix, then by slot
abbrev pub rib_cmp : RibKey → RibKey → Ordering
rib_cmp a b = ordering_then (prefix_cmp a.0 b.0) (nat_cmp a.1 b.1)

-- a number for each router and prefix with a route: what the stores of announcements and of cells are
abbrev pub RouteNumbers : Type 0
RouteNumbers = map_of.FinMap rib_cmp ℕ

-- ---- how these are stored, as a value of a type needs

-- a prefix as the pair of its numbers
abbrev pub prefix_code : Coded IpPrefix
prefix_code = code_by (ℕ × ℕ) (coded× coded_ℕ coded_ℕ) (λ p. (p.addr, p.len)) (λ n. record { addr = n.0; len = n.1 }) (λ _. refl)

abbrev pub route_numbers_code : Coded RouteNumbers
route_numbers_code = map_of.code (coded× prefix_code coded_ℕ) coded_ℕ
