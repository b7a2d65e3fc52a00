-- The edges that a link state gives (RFC 2328 sections 12.4.1.1 and 16.1).
use Rattle.std.specs.Prelude.{◌≡◌, ℕ, ◌≤◌, List, Contains}
use Rattle.rcp_base.specs.declared.names.Edge.{Edge}
use Rattle.rcp_model.specs.LinkState.{RouterLink, Kept, LinkState}
use Rattle.rcp_model.specs.Edges.{POINT_TO_POINT}

-- a point-to-point link to this router
pub record IsLinkTo (router : ℕ) (link : RouterLink) : Type 0 where
  pub kind : link.kind ≡ POINT_TO_POINT
  pub id : link.id ≡ router

-- some link to the router has this metric, and none a lesser one
pub record IsLeastMetric (router : ℕ) (links : List RouterLink) (metric : ℕ) : Type 0 where
  pub link : RouterLink
  pub listed : Contains links link
  pub to : IsLinkTo router link
  pub has : link.metric ≡ metric
  pub least : (other : RouterLink) → Contains links other → IsLinkTo router other → metric ≤ other.metric

-- An LSA is kept for each of the edge's routers. The first one's lists the second router, at the edge's cost and no
-- lesser one, and the second one's lists the first router.
pub record IsLearned (state : LinkState) (edge : Edge) : Type 0 where
  pub first : ℕ × Kept
  pub second : ℕ × Kept
  pub first_kept : Contains state.routers first
  pub second_kept : Contains state.routers second
  pub from : first.1.lsa.key ≡ edge.from
  pub to : second.1.lsa.key ≡ edge.to
  pub there : IsLeastMetric edge.to first.1.lsa.content edge.cost
  pub back : (link : RouterLink) × Contains second.1.lsa.content link × IsLinkTo edge.from link
