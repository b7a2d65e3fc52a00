-- Small contests between routes in which a wrong reading of the decision would give another outcome.
use Rattle.std.specs.Prelude.{ℕ, List, [], ◌∷◌, ◌++◌}
use Rattle.rcp_base.specs.IpPrefix.{IpPrefix}
use Rattle.rcp_base.specs.declared.names.Member.{Member}
use Rattle.rcp_base.specs.declared.names.Edge.{Edge}
use Rattle.rcp_model.specs.Decision.{Contender}
use Rattle.rcp_model.specs.RouteServer.{Domain, Announcements}
use Rattle.meaning_cases.specs.Examples.{A, B, C, member, link}

-- the routers A, B and C, in the slots 0, 1 and 2
abbrev pub chain : List Member
chain = member A ∷ member B ∷ member C ∷ []

abbrev pub chain_domain : Domain
chain_domain = record { as_number = 65000; members = chain }

-- a further router, 10.0.0.4
abbrev pub F : ℕ
F = 167772164

-- A and C are neighbours of B, and C is the nearer one
abbrev pub C_is_nearer : List Edge
C_is_nearer = link A B 20 ++ link B C 10

-- C has no neighbour
abbrev pub C_is_alone : List Edge
C_is_alone = link A B 10

-- a route by one AS of this number with this MULTI_EXIT_DISC
abbrev pub route_by : ℕ → ℕ → ℕ → ℕ → Contender
route_by slot id neighbour med = record { slot = slot; id = id; pref = 100; hops = 1; origin = 0; neighbour = neighbour; med = med }

abbrev pub prefix : IpPrefix
prefix = record { addr = 3405803776; len = 24 }

-- the attributes of a route by AS 65001 with the next hop 10.0.0.N
abbrev pub attributes_by : ℕ → List ℕ
attributes_by n = 64 ∷ 1 ∷ 1 ∷ 0 ∷ 64 ∷ 2 ∷ 4 ∷ 2 ∷ 1 ∷ 253 ∷ 233 ∷ 64 ∷ 3 ∷ 4 ∷ 10 ∷ 0 ∷ 0 ∷ n ∷ 64 ∷ 5 ∷ 4 ∷ 0 ∷ 0 ∷ 0 ∷ 100 ∷ []

abbrev pub by_A : Announcements
by_A = ((0, prefix), attributes_by 1) ∷ []

abbrev pub by_A_and_C : Announcements
by_A_and_C = ((0, prefix), attributes_by 1) ∷ ((2, prefix), attributes_by 3) ∷ []
