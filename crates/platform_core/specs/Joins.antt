-- How the parts of a platform belong together.
use Rattle.std.specs.Prelude.{◌≡◌, ℕ, Bool, false, length}
use Rattle.rcp_model.specs.Costs.{IsTwoWay}
use Rattle.igp_view.specs.Igp.{IgpOf}
use Rattle.rcs_shards.specs.Servers.{ServerOf, edges_in}
use Rattle.platform_core.specs.Following.{IsFollowed}
use Rattle.platform_core.specs.Open.{OpenOf}

-- The edges of the shards come in both directions. Unless the platform is spent, the connections are those of the roster, and the shards follow
-- the view.
pub record IsJoined (spent : Bool) (server : ServerOf) (opened : OpenOf) (time : ℕ) (igp : IgpOf) : Type 0 where
  pub two_way : IsTwoWay (edges_in server.shards)
  pub links : IsTwoWay server.roster.links
  pub whole : spent ≡ false → opened.spent ≡ false
  pub seats : spent ≡ false → opened.members ≡ length server.roster.members
  pub followed : spent ≡ false → IsFollowed igp server time
