-- Rosters in form: the ranges of the settings, names that are named once, and links of named routers in both directions.
use Rattle.std.specs.Prelude.{◌≡◌, ◌≢◌, ℕ, ◌≤◌, false, true, List, length, All, AllPairs, IfSome}
use Rattle.rcp_base.specs.declared.names.Member.{Member}
use Rattle.rcp_base.specs.declared.names.Edge.{Edge}
use Rattle.rcp_base.specs.Roster.{Named, RosterOf, has_router, has_identifier}
use Rattle.rcp_model.specs.Costs.{IsTwoWay}

-- 23456 stands for the AS numbers that two octets don't hold (RFC 6793)
pub record IsAsNumber (n : ℕ) : Type 0 where
  pub least : 1 ≤ n
  pub most : n ≤ 65535
  pub own : n ≢ 23456

pub record IsShardCount (n : ℕ) : Type 0 where
  pub least : 1 ≤ n
  pub most : n ≤ 64

-- 0, or at least 3 seconds (RFC 4271 section 4.2)
pub record IsHoldTime (n : ℕ) : Type 0 where
  pub one : n ≢ 1
  pub two : n ≢ 2
  pub most : n ≤ 65535

-- 0.0.0.0 is no router's name
pub record IsNamed (member : Member) : Type 0 where
  pub router : member.router ≢ 0
  pub identifier : member.bgp_id ≢ 0

-- at most 512 routers, no two of one router ID or of one BGP Identifier
pub record AreMembers (members : List Member) : Type 0 where
  pub few : length members ≤ 512
  pub names : All IsNamed members
  pub routers : AllPairs (λ a b. a.router ≢ b.router) members
  pub identifiers : AllPairs (λ a b. a.bgp_id ≢ b.bgp_id) members

-- a link of two routers that are named
pub record IsLinkOf (members : List Member) (link : Edge) : Type 0 where
  pub from : has_router members link.from ≡ true
  pub to : has_router members link.to ≡ true
  pub apart : link.from ≢ link.to
  pub least : 1 ≤ link.cost
  pub most : link.cost ≤ 65535

-- the platform's own BGP Identifier is no router's
pub record InForm (roster : RosterOf) : Type 0 where
  pub as_number : IsAsNumber roster.as_number
  pub shards : IsShardCount roster.shards
  pub hold : IsHoldTime roster.hold
  pub members : AreMembers roster.members
  pub own : has_identifier roster.members roster.id ≡ false
  pub links : All (IsLinkOf roster.members) roster.links
  pub two_way : IsTwoWay roster.links

-- the same of what is named before the last line
pub record NamedInForm (named : Named) : Type 0 where
  pub as_number : IfSome named.as_number IsAsNumber
  pub shards : IfSome named.shards IsShardCount
  pub hold : IfSome named.hold IsHoldTime
  pub members : AreMembers named.members
  pub own : IfSome named.id (λ id. has_identifier named.members id ≡ false)
  pub links : All (IsLinkOf named.members) named.links
  pub two_way : IsTwoWay named.links
