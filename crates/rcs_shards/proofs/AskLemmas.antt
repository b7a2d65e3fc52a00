-- What all shards answer, from what each does.
use Rattle.std.proofs.Common.{◌≡◌, ℕ, List, Option, Some, None, is_some, refl, sym, ap, ◌∙◌, subst}
use Rattle.std.specs.Prelude.{slice_get, option_map, IfSome, IsSome, ◌↔◌}
use Rattle.rcp_base.specs.IpPrefix.{IpPrefix}
use Rattle.rcp_base.specs.Roster.{RosterOf}
use Rattle.cost_rows.specs.Views.{ViewOf}
use Rattle.rcp_model.specs.Assigned.{IsLeast, IsAfter, IsNextAnnounced}
use Rattle.rcp_model.specs.Costs.{IsTwoWay}
use Rattle.rcp_model.specs.Graphs.{IsGraph, AreMembers}
use Rattle.rcp_model.specs.Routes.{RouteFields}
use Rattle.rcp_model.specs.Telling.{IsRouteOf}
use Rattle.rcp_model.specs.ServerRibs.{Ribs, at_prefix}
use Rattle.platform_laws.specs.Asked.{announced_route, given_route, octets_of}
use Rattle.platform_laws.proofs.AnswerLemmas.{assignment, fields-sound, announced-somewhere, given-somewhere}
use Rattle.rcs_shard.specs.Shards.{ShardOf, announced_at, given_at}
use Rattle.rcs_shards.specs.Servers.{ServerOf, IsSoundServer, edges_in, connected_in, announced_octets, IsNextGiven, IsAssigned}
use Rattle.rcs_shards.specs.Dirty.{ribs_in}
use Rattle.rcs_shards.specs.Joins.{server_of, AreTogether}
use Rattle.rcs_shards.specs.Least.{HasSome}
use Rattle.rcs_shards.proofs.PlaceLemmas.{found-map, map-found}
use Rattle.rcs_shards.proofs.LeastLemmas.{least-same}

-- what holds of a value holds of what it is read from
pub if-mapped : {A B : Type 0} (f : A → B) (P : B → Type 0) (o : Option A) (x : Option B) → option_map f o ≡ x → IfSome x P → IfSome o (λ a. P (f a))
if-mapped f P None x is h = tt
if-mapped f P (Some a) None is h = absurd cc
if-mapped f P (Some a) (Some b) is h = let same : f a ≡ b = cc in subst P (sym same) h

octets-some : (o : Option RouteFields) → is_some (octets_of o) ≡ is_some o
octets-some None = refl
octets-some (Some route) = refl

module _ (roster : RosterOf) (view : ViewOf) (count : ℕ) (shards : List ShardOf) (h : AreTogether roster view count shards) (server : ServerOf) (is : server_of roster shards ≡ server) where
  pub sound-server : IsSoundServer server
  sound-server = subst IsSoundServer is h.sound

  pub fields-announced : (slot : ℕ) (p : IpPrefix) → IfSome (announced_route server.roster server.shards p slot) (IsRouteOf server.roster.as_number)
  fields-announced slot p = (fields-sound server.roster (edges_in server.shards) (connected_in server.shards) server.shards sound-server p slot).0

  pub fields-given : (slot : ℕ) (p : IpPrefix) → IfSome (given_route server.roster server.shards p slot) (IsRouteOf server.roster.as_number)
  fields-given slot p = (fields-sound server.roster (edges_in server.shards) (connected_in server.shards) server.shards sound-server p slot).1

  pub assigned : AreMembers view.members → IsGraph view.edges → IsTwoWay (edges_in server.shards) → IsAssigned server
  assigned members graph two_way =
      let same : view.edges ≡ edges_in server.shards = h.edges ∙ ap (λ (s : ServerOf). edges_in s.shards) is in
      assignment server.roster (edges_in server.shards) (connected_in server.shards) server.shards sound-server
      (subst AreMembers (h.members ∙ ap (λ (s : ServerOf). s.roster.members) is) members) (subst IsGraph same graph) two_way

  shards_are : ribs_in shards ≡ server.shards
  shards_are = ap (λ (s : ServerOf). s.shards) is

  pub next-announced : (after next : Option IpPrefix) → IsLeast (HasSome (λ (s : ShardOf) p. IsAfter after p × ((slot : ℕ) × IsSome (announced_at s slot p))) shards) next → IsNextAnnounced (announced_octets server) after next
  next-announced after next least =
      least-same (HasSome (λ (s : ShardOf) p. IsAfter after p × ((slot : ℕ) × IsSome (announced_at s slot p))) shards) (λ p. IsAfter after p × ((slot : ℕ) × IsSome (announced_octets server p slot))) next to from least where
        somewhere : (p : IpPrefix) (slot : ℕ) → IsSome (announced_route server.roster server.shards p slot) ↔ ((n : ℕ) × (ribs : Ribs RouteFields) × (slice_get server.shards n ≡ Some ribs) × IsSome (at_prefix ribs.announced p slot))
        somewhere p slot = announced-somewhere server.roster (edges_in server.shards) (connected_in server.shards) server.shards sound-server p slot

        to : (p : IpPrefix) → HasSome (λ (s : ShardOf) q. IsAfter after q × ((slot : ℕ) × IsSome (announced_at s slot q))) shards p → IsAfter after p × ((slot : ℕ) × IsSome (announced_octets server p slot))
        to p has =
            let slot = has.3.1.0 in
            let here = ap (λ rs. slice_get rs has.0) (sym shards_are) ∙ map-found (λ (s : ShardOf). s.ribs) shards has.0 has.1 has.2 in
            (has.3.0, (slot, octets-some (announced_route server.roster server.shards p slot) ∙ (somewhere p slot).1 (has.0, has.1.ribs, here, has.3.1.1)))

        from : (p : IpPrefix) → IsAfter after p × ((slot : ℕ) × IsSome (announced_octets server p slot)) → HasSome (λ (s : ShardOf) q. IsAfter after q × ((slot : ℕ) × IsSome (announced_at s slot q))) shards p
        from p has =
            let slot = has.1.0 in
            let found = (somewhere p slot).0 (sym (octets-some (announced_route server.roster server.shards p slot)) ∙ has.1.1) in
            let at = found-map (λ (s : ShardOf). s.ribs) shards found.0 found.1 (ap (λ rs. slice_get rs found.0) shards_are ∙ found.2) in
            (found.0, at.0, at.1, (has.0, (slot, subst (λ (r : Ribs RouteFields). IsSome (at_prefix r.announced p slot)) (sym at.2) found.3)))

  pub next-given : (slot : ℕ) (after next : Option IpPrefix) → IsLeast (HasSome (λ (s : ShardOf) p. IsAfter after p × IsSome (given_at s slot p)) shards) next → IsNextGiven server slot after next
  next-given slot after next least =
      least-same (HasSome (λ (s : ShardOf) p. IsAfter after p × IsSome (given_at s slot p)) shards) (λ p. IsAfter after p × IsSome (given_route server.roster server.shards p slot)) next to from least where
        somewhere : (p : IpPrefix) → IsSome (given_route server.roster server.shards p slot) ↔ ((n : ℕ) × (ribs : Ribs RouteFields) × (slice_get server.shards n ≡ Some ribs) × IsSome (at_prefix ribs.given p slot))
        somewhere p = given-somewhere server.roster (edges_in server.shards) (connected_in server.shards) server.shards sound-server p slot

        to : (p : IpPrefix) → HasSome (λ (s : ShardOf) q. IsAfter after q × IsSome (given_at s slot q)) shards p → IsAfter after p × IsSome (given_route server.roster server.shards p slot)
        to p has =
            let here = ap (λ rs. slice_get rs has.0) (sym shards_are) ∙ map-found (λ (s : ShardOf). s.ribs) shards has.0 has.1 has.2 in
            (has.3.0, (somewhere p).1 (has.0, has.1.ribs, here, has.3.1))

        from : (p : IpPrefix) → IsAfter after p × IsSome (given_route server.roster server.shards p slot) → HasSome (λ (s : ShardOf) q. IsAfter after q × IsSome (given_at s slot q)) shards p
        from p has =
            let found = (somewhere p).0 has.1 in
            let at = found-map (λ (s : ShardOf). s.ribs) shards found.0 found.1 (ap (λ rs. slice_get rs found.0) shards_are ∙ found.2) in
            (found.0, at.0, at.1, (has.0, subst (λ (r : Ribs RouteFields). IsSome (at_prefix r.given p slot)) (sym at.2) found.3))
