-- What a record does to a platform by what can be asked of it, and a platform to which nothing happened.
use Rattle.std.specs.Prelude.{List, [], ◌++◌, replicate}
use Rattle.std.specs.List.{flat_map}
use Rattle.rcp_base.specs.declared.names.Edge.{Edge}
use Rattle.rcp_base.specs.Feed.{FeedRecord, OutRecord}
use Rattle.rcp_base.specs.Roster.{RosterOf}
use Rattle.rcp_model.specs.LinkState.{LinkState}
use Rattle.rcp_model.specs.Edges.{rising_edges}
use Rattle.rcp_model.specs.ServerRibs.{empty_ribs}
use Rattle.feed_meaning.specs.LinkStream.{Reading}
use Rattle.feed_meaning.specs.SessionTurns.{turn_output}
use Rattle.platform_laws.specs.Platforms.{PlatformOf}
use Rattle.platform_laws.specs.Turns.{turns_of_record, seen_after_turns, noted_at}
use Rattle.platform_laws.specs.Links.{IsLinkedBy, seen_after_links, output_of_links}
use Rattle.platform_laws.specs.Work.{seen_after_work, output_of_work}

-- no connection was opened, no link state came, and each shard has the edges of the roster
abbrev pub new_platform : RosterOf → PlatformOf
new_platform roster = record {
  roster = roster;
  sessions = [];
  time = 0;
  stream = Reading [] 0;
  link_state = record { routers = [] };
  shards = replicate roster.shards (empty_ribs (rising_edges roster.links));
  updates = 0;
}

-- the platform after the turns of a record
abbrev pub seen_turned : PlatformOf → FeedRecord → PlatformOf
seen_turned seen item = seen_after_turns (turns_of_record seen item) (noted_at item seen)

-- the link state and the edges after a record
abbrev pub IsLinkedAt : PlatformOf → FeedRecord → LinkState → List Edge → Type 0
IsLinkedAt seen item state edges = IsLinkedBy (seen_turned seen item) item.body item.kind state edges

-- the platform after its link state too, and after the work
abbrev pub seen_linked : PlatformOf → FeedRecord → LinkState → List Edge → PlatformOf
seen_linked seen item state edges = seen_after_links (seen_turned seen item) item.body item.kind state edges

abbrev pub seen_after : PlatformOf → FeedRecord → LinkState → List Edge → PlatformOf
seen_after seen item state edges = seen_after_work (seen_linked seen item state edges) item.body item.kind

-- what a record puts out, in the order of the stages
abbrev pub output_of : PlatformOf → FeedRecord → LinkState → List Edge → List OutRecord
output_of seen item state edges =
    flat_map turn_output (turns_of_record seen item)
    ++ output_of_links (seen_turned seen item) item.body item.kind
    ++ output_of_work (seen_linked seen item state edges) item.body item.kind
