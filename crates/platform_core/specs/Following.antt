-- The link state that the shards follow, and what a record does to both.
use Rattle.std.specs.Prelude.{◌≡◌, ℕ, false, List, Some, None}
use Rattle.rcp_base.specs.declared.kinds.Kind.{Kind}
use Rattle.rcp_base.specs.Feed.{OutRecord}
use Rattle.rcp_base.specs.declared.names.Edge.{Edge}
use Rattle.rcp_model.specs.LinkState.{LinkState, aged}
use Rattle.lsdb.specs.Databases.{Holds}
use Rattle.std.specs.List.{AllByRecursion}
use Rattle.rcp_model.specs.Routes.{RouteFields}
use Rattle.rcp_model.specs.ServerRibs.{Ribs}
use Rattle.igp_view.specs.Igp.{IgpOf, AreEdgesOf}
use Rattle.igp_view.specs.Streams.{Stream}
use Rattle.feed_meaning.specs.LinkStream.{LinkStream, Reading, Lost}
use Rattle.feed_meaning.specs.Platform.{Connections}
use Rattle.platform_laws.specs.Links.{IsLinkedBy, seen_after_links, output_of_links}
use Rattle.platform_laws.specs.Platforms.{PlatformOf}
use Rattle.rcs_shards.specs.Servers.{ServerOf, edges_in}

-- the stream of link state: a framer holds the octets that belong to no whole packet yet
abbrev pub stream_in : Stream → LinkStream
stream_in None = Lost
stream_in (Some framing) = Reading framing.held framing.place

-- a time changes nothing of a link state: each instance is younger than MaxAge then
abbrev pub IsYoung : ℕ → LinkState → Type 0
IsYoung time held = (state : LinkState) → Holds held state → aged time state ≡ state

-- each shard has these edges
abbrev pub AllHave : List Edge → List (Ribs RouteFields) → Type 0
AllHave edges shards = AllByRecursion (λ ribs. ribs.edges ≡ edges) shards

-- The view is that of the roster at this time, and the shards have its edges.
pub record IsFollowed (igp : IgpOf) (server : ServerOf) (time : ℕ) : Type 0 where
  pub unspent : igp.spent ≡ false
  pub area : igp.area ≡ server.roster.area
  pub members : igp.members ≡ server.roster.members
  pub links : igp.links ≡ server.roster.links
  pub time_is : igp.database.moment ≡ time
  pub young : IsYoung time igp.database.state
  pub held : Holds igp.database.state igp.database.state
  pub edges_are : AreEdgesOf igp.database.state igp.links igp.edges
  pub shards_have : AllHave igp.edges server.shards

-- what is seen of a platform with these shards, sessions, time, link state and count of UPDATEs
abbrev pub seen_of : ServerOf → Connections → ℕ → IgpOf → ℕ → PlatformOf
seen_of server sessions time igp updates = record {
  roster = server.roster;
  sessions = sessions;
  time = time;
  stream = stream_in igp.stream;
  link_state = igp.database.state;
  shards = server.shards;
  updates = updates;
}

-- what is seen of a platform, with this link state and these shards
abbrev pub with_links_of : IgpOf → ServerOf → PlatformOf → PlatformOf
with_links_of igp server seen =
    record seen { roster = server.roster; stream = stream_in igp.stream; link_state = igp.database.state; shards = server.shards }

-- A record leads from one link state and shards to others, for whatever else is seen of the platform at this time.
pub record Links (body : List ℕ) (kind : Kind) (time : ℕ) (igp next : IgpOf) (server after : ServerOf) (out : List OutRecord) : Type 0 where
  pub state : LinkState
  pub edges : List Edge
  pub linked : (seen : PlatformOf) → seen.time ≡ time → IsLinkedBy (with_links_of igp server seen) body kind state edges
  pub after_is : (seen : PlatformOf) → with_links_of next after seen ≡ seen_after_links (with_links_of igp server seen) body kind state edges
  pub output : (seen : PlatformOf) → out ≡ output_of_links (with_links_of igp server seen) body kind

-- ---- what most records leave as it is

-- the roster and the edges
pub record Keeps (old new : ServerOf) : Type 0 where
  pub roster : new.roster ≡ old.roster
  pub edges : edges_in new.shards ≡ edges_in old.shards
  pub each : (edges : List Edge) → AllHave edges old.shards → AllHave edges new.shards
