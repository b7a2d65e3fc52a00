use Rattle.std.proofs.Common.{subst}
use Rattle.rcp_model.specs.Assigned.{IsAssignment}
use Rattle.feed_meaning.specs.Platform.{domain_of}
use Rattle.platform_laws.specs.Asked.{is_connected, is_pending, announced_route, given_route, octets_of}
use Rattle.rcs_shards.specs.Servers.{edges_in}
use Rattle.platform_core.specs.States.{StateOf}
use Rattle.platform_core.proofs.assigned.PlatformAssigned.members.Goals as goal

pub returns-clause-law : goal.returns-clause-law
returns-clause-law c = subst (λ (p : StateOf). IsAssignment (domain_of p.seen.roster) (edges_in p.seen.shards) (is_connected p.seen.shards)
    (λ q slot. octets_of (announced_route p.seen.roster p.seen.shards q slot)) (λ q slot. octets_of (given_route p.seen.roster p.seen.shards q slot)) (is_pending p.seen.roster p.seen.shards))
    c.self.view_is (c.members.ensures.law c.self.invariant.two_way)
