-- What a record does with the pending prefixes: those of a slice or of a drain are worked, and what changes by it is sent.
use Rattle.std.specs.Prelude.{ℕ, ◌+◌, ◌==◌, List, [], ◌∷◌, ◌++◌, length, take, drop, map, filter, min, Option, Some, None, if◌then◌else◌}
use Rattle.std.specs.List.{flat_map}
use Rattle.std.specs.Int.{w16, w32, from_be_bytes}
use Rattle.rcp_base.specs.IpPrefix.{IpPrefix, shard_of_prefix}
use Rattle.rcp_base.specs.declared.kinds.Kind.{Kind}
use Rattle.rcp_base.specs.declared.kinds.Kind.TheVariants as kind
use Rattle.rcp_base.specs.Feed.{OutRecord}
use Rattle.rcp_base.specs.Maps.{get_at, same_prefix}
use Rattle.rcp_model.specs.Updates.{Table}
use Rattle.rcp_model.specs.Cells.{Cell}
use Rattle.rcp_model.specs.Packing.{packed}
use Rattle.rcp_model.specs.Sessions.{slot_in}
use Rattle.rcp_model.specs.RouteServer.{Server, ServerEvent, Work, after_all, table_of, same_octets}
use Rattle.feed_meaning.specs.Platform.{Connections, Platform, domain_of, Acted, nothing_done}
use Rattle.feed_meaning.specs.OutRecords.{MOST, messages_to, summary}

-- ---- the prefixes that are worked

-- the shard that a W names, and at most how many prefixes
abbrev pub shard_in : List ℕ → ℕ
shard_in body = from_be_bytes w16 (take 2 body)

abbrev pub count_in : List ℕ → ℕ
count_in body = from_be_bytes w32 (drop 2 body)

-- the pending prefixes of a shard, rising
abbrev pub pending_in : ℕ → ℕ → Server → List IpPrefix
pending_in shards shard server = filter (λ p. shard_of_prefix p shards == shard) server.pending

-- the least of them, so many at most
abbrev pub slice : Platform → List ℕ → List IpPrefix
slice platform body = take (count_in body) (pending_in platform.roster.shards (shard_in body) platform.server)

-- ---- the cells that changed

abbrev pub cell_of : Option Table → IpPrefix → Option (List ℕ)
cell_of None p = None
cell_of (Some table) p = get_at same_prefix p table

-- the cells at these prefixes whose value differs, in their order
abbrev pub changed_cells : List IpPrefix → Option Table → Option Table → List Cell
changed_cells [] before now = []
changed_cells (p ∷ prefixes) before now =
    if same_octets (cell_of before p) (cell_of now p)
    then changed_cells prefixes before now
    else (p, cell_of now p) ∷ changed_cells prefixes before now

-- the packed UPDATEs that a slot is sent, where there is one
abbrev pub slot_updates : List IpPrefix → Server → Server → Option ℕ → List (List ℕ)
slot_updates prefixes before now None = []
slot_updates prefixes before now (Some slot) = packed (changed_cells prefixes (table_of before slot) (table_of now slot))

-- the UPDATEs to each connection, by rising number, for what changed at these prefixes
abbrev pub updates_sent : List IpPrefix → Server → Server → Connections → List OutRecord
updates_sent prefixes before now connections =
    flat_map (λ entry. messages_to entry.0 (slot_updates prefixes before now (slot_in entry.1.phase))) connections

-- ---- the work

abbrev pub work_events : List IpPrefix → List ServerEvent
work_events prefixes = map Work prefixes

abbrev pub worked_server : List IpPrefix → Platform → Server
worked_server prefixes platform = after_all (domain_of platform.roster) (work_events prefixes) platform.server

abbrev pub work_updates : List IpPrefix → Platform → List OutRecord
work_updates prefixes platform = updates_sent prefixes platform.server (worked_server prefixes platform) platform.connections

-- These prefixes are worked, and the UPDATEs counted. The count stays at the greatest that eight octets hold.
abbrev pub work_on : List IpPrefix → Platform → Acted
work_on prefixes platform = record {
  after = record platform {
    server = worked_server prefixes platform;
    updates = min (platform.updates + length (work_updates prefixes platform)) MOST;
  };
  out = work_updates prefixes platform;
}

abbrev pub with_summary : Acted → Acted
with_summary acted = record acted { out = acted.out ++ summary acted.after.server acted.after.updates ∷ [] }

-- all pending prefixes are worked, and a summary follows
abbrev pub drain_act : Platform → Acted
drain_act platform = with_summary (work_on platform.server.pending platform)

-- A slice works the least pending prefixes of a shard, a drain all pending prefixes.
abbrev pub work_act : Platform → List ℕ → Kind → Acted
work_act platform body kind.Slice = work_on (slice platform body) platform
work_act platform body kind.Drain = drain_act platform
work_act platform body kind = nothing_done platform
