-- What a record does with the link state of a platform and, by the edges, with each shard.
use Rattle.std.specs.Prelude.{◌≡◌, ℕ, List, [], ◌++◌}
use Rattle.rcp_base.specs.declared.kinds.Kind.{Kind}
use Rattle.rcp_base.specs.declared.kinds.Kind.TheVariants as kind
use Rattle.rcp_base.specs.declared.names.Edge.{Edge}
use Rattle.rcp_base.specs.Feed.{OutRecord}
use Rattle.rcp_base.specs.OspfPackets.{packets_in}
use Rattle.rcp_base.specs.Roster.{RosterOf}
use Rattle.rcp_model.specs.LinkState.{LinkState, aged}
use Rattle.rcp_model.specs.LinkStateUpdates.{after_packets}
use Rattle.rcp_model.specs.Edges.{edges_of}
use Rattle.rcp_model.specs.ServerRibs.{Links}
use Rattle.lsdb.specs.Databases.{Holds}
use Rattle.feed_meaning.specs.LinkStream.{LinkStream, Reading, Lost, framed}
use Rattle.feed_meaning.specs.OutRecords.{lost_record}
use Rattle.platform_laws.specs.Parts.{shards_after}
use Rattle.platform_laws.specs.Platforms.{PlatformOf, capped_stream}

-- ---- link states, whatever the order of their routers

-- from the one to the other lead the LSAs of these packets at a time
abbrev pub LeadsByPackets : RosterOf → ℕ → List (List ℕ) → LinkState → LinkState → Type 0
LeadsByPackets roster time packets old new = (state : LinkState) → Holds old state → Holds new (after_packets roster.area time packets state)

-- from the one to the other leads a time
abbrev pub LeadsByTime : ℕ → LinkState → LinkState → Type 0
LeadsByTime time old new = (state : LinkState) → Holds old state → Holds new (aged time state)

-- the edges of a link state and the roster
abbrev pub AreEdges : RosterOf → LinkState → List Edge → Type 0
AreEdges roster held edges = (state : LinkState) → Holds held state → edges ≡ edges_of state roster.links

-- ---- the stage

-- the packets that octets make whole
abbrev pub packets_by : LinkStream → List ℕ → List (List ℕ)
packets_by (Reading held place) octets = packets_in (held ++ octets)
packets_by Lost octets = []

-- the link state and the edges are these after a record
abbrev pub IsLinkedBy : PlatformOf → List ℕ → Kind → LinkState → List Edge → Type 0
IsLinkedBy seen body kind.Links state edges =
    LeadsByPackets seen.roster seen.time (packets_by seen.stream body) seen.link_state state × AreEdges seen.roster state edges
IsLinkedBy seen body kind.Time state edges = LeadsByTime seen.time seen.link_state state × AreEdges seen.roster state edges
IsLinkedBy seen body kind state edges = Unit {0}

-- each shard learns of the edges once
abbrev pub with_links : LinkState → List Edge → PlatformOf → PlatformOf
with_links state edges seen = record seen { link_state = state; shards = shards_after seen.roster (Links edges) seen.shards }

-- octets of the stream join those that are held
abbrev pub after_octets : LinkStream → List ℕ → LinkState → List Edge → PlatformOf → PlatformOf
after_octets (Reading held place) octets state edges seen =
    with_links state edges (record seen { stream = capped_stream (framed place (held ++ octets)).stream })
after_octets Lost octets state edges seen = seen

abbrev pub output_of_octets : LinkStream → List ℕ → List OutRecord
output_of_octets (Reading held place) octets = lost_record (framed place (held ++ octets)).lost_at
output_of_octets Lost octets = []

-- An L brings octets, and with a T time passes.
abbrev pub seen_after_links : PlatformOf → List ℕ → Kind → LinkState → List Edge → PlatformOf
seen_after_links seen body kind.Links state edges = after_octets seen.stream body state edges seen
seen_after_links seen body kind.Time state edges = with_links state edges seen
seen_after_links seen body kind state edges = seen

abbrev pub output_of_links : PlatformOf → List ℕ → Kind → List OutRecord
output_of_links seen body kind.Links = output_of_octets seen.stream body
output_of_links seen body kind = []
