-- What contracts see of a store of routes: the routes that are kept, by number, each with the count of its uses.
use Rattle.std.specs.Prelude.{◌≡◌, ℕ, ◌+◌, ◌-◌, ◌^◌, ◌<◌, ◌≢◌, ◌==◌, ◌||◌, Option, Some, None, option_map, unwrap_or, IfSome, IsSome, min, if◌then◌else◌, refl, List, Bool}
use Rattle.std.specs.Coded.{Coded, code_by, coded×, coded_ℕ, coded_bool, coded_list}
use Rattle.std.specs.FinMap as map_of
use Rattle.std.specs.Ordering.{nat_cmp}
use Rattle.rcp_model.specs.Routes.{RouteFields}
use Rattle.attr_store.specs.declared.kept.KeptRoute.{KeptRoute}

abbrev pub KeptRoutes : Type 0
KeptRoutes = map_of.FinMap nat_cmp KeptRoute

-- the route of a number, and how many use it: 0 where the number isn't live
abbrev pub route_at : KeptRoutes → ℕ → Option RouteFields
route_at routes number = option_map (λ kept. kept.route) (map_of.get routes number)

abbrev pub uses_at : KeptRoutes → ℕ → ℕ
uses_at routes number = unwrap_or (option_map (λ kept. kept.uses) (map_of.get routes number)) 0

-- a number is live while it has a use
abbrev pub IsLive : KeptRoutes → ℕ → Type 0
IsLive routes number = IsSome (map_of.get routes number)

-- no route has two numbers
abbrev pub HasEachOnce : KeptRoutes → Type 0
HasEachOnce routes = (m n : ℕ) (route : RouteFields) → route_at routes m ≡ Some route → route_at routes n ≡ Some route → m ≡ n

-- ---- what becomes of the uses

-- the count stays at this value once it is there
abbrev pub MOST_USES : ℕ
MOST_USES = 2 ^ 32 - 1

abbrev pub one_more : ℕ → ℕ
one_more uses = min (uses + 1) MOST_USES

-- a last use, and a count at its greatest value, are left
abbrev pub one_less : ℕ → ℕ
one_less uses = if uses == 1 || uses == MOST_USES then uses else uses - 1

-- one use more of the route, under this number
abbrev pub used : KeptRoutes → ℕ → RouteFields → KeptRoutes
used routes number route = map_of.insert routes number (record { route = route; uses = one_more (uses_at routes number) })

-- one use more of a number
abbrev pub retained_at : KeptRoutes → ℕ → Option KeptRoute → KeptRoutes
retained_at routes number None = routes
retained_at routes number (Some kept) = map_of.insert routes number (record kept { uses = one_more kept.uses })

abbrev pub retained : KeptRoutes → ℕ → KeptRoutes
retained routes number = retained_at routes number (map_of.get routes number)

-- One use less of a number: its route goes with the last use. A count at its greatest value stays.
abbrev pub released_at : KeptRoutes → ℕ → Option KeptRoute → KeptRoutes
released_at routes number None = routes
released_at routes number (Some kept) =
    if kept.uses == MOST_USES then routes
    else (if kept.uses == 1 then map_of.remove routes number else map_of.insert routes number (record kept { uses = kept.uses - 1 }))

abbrev pub released : KeptRoutes → ℕ → KeptRoutes
released routes number = released_at routes number (map_of.get routes number)

-- ---- how they are stored, as a value of a type needs

abbrev pub FieldsData : Type 0
FieldsData = ℕ × (ℕ × (ℕ × (ℕ × (ℕ × (Bool × (Bool × (ℕ × List ℕ)))))))

abbrev pub fields_data : RouteFields → FieldsData
fields_data r = (r.pref, (r.hops, (r.origin, (r.neighbour, (r.med, (r.looped, (r.long, (r.next_hop, r.attrs))))))))

abbrev pub fields_of_data : FieldsData → RouteFields
fields_of_data d = record {
  pref = d.0;
  hops = d.1.0;
  origin = d.1.1.0;
  neighbour = d.1.1.1.0;
  med = d.1.1.1.1.0;
  looped = d.1.1.1.1.1.0;
  long = d.1.1.1.1.1.1.0;
  next_hop = d.1.1.1.1.1.1.1.0;
  attrs = d.1.1.1.1.1.1.1.1;
}

abbrev pub fields_code : Coded RouteFields
fields_code =
    code_by FieldsData
    (coded× coded_ℕ (coded× coded_ℕ (coded× coded_ℕ (coded× coded_ℕ (coded× coded_ℕ (coded× coded_bool (coded× coded_bool (coded× coded_ℕ (coded_list coded_ℕ)))))))))
    fields_data fields_of_data (λ _. refl)

abbrev pub kept_code : Coded KeptRoute
kept_code = code_by (RouteFields × ℕ) (coded× fields_code coded_ℕ) (λ k. (k.route, k.uses)) (λ d. record { route = d.0; uses = d.1 }) (λ _. refl)

abbrev pub kept_routes_code : Coded KeptRoutes
kept_routes_code = map_of.code coded_ℕ kept_code
