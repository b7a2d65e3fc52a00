-- What a record does with the link state: octets of its stream bring LSAs, and time ages what is kept. The server learns of the edges.
use Rattle.std.specs.Prelude.{ℕ, List, ◌++◌}
use Rattle.rcp_base.specs.declared.kinds.Kind.{Kind}
use Rattle.rcp_base.specs.declared.kinds.Kind.TheVariants as kind
use Rattle.rcp_model.specs.LinkState.{LinkState, aged}
use Rattle.rcp_model.specs.LinkStateUpdates.{after_packets}
use Rattle.rcp_model.specs.Edges.{edges_of}
use Rattle.rcp_model.specs.RouteServer.{Links, after}
use Rattle.feed_meaning.specs.LinkStream.{LinkStream, Reading, Lost, Framed, framed}
use Rattle.feed_meaning.specs.Platform.{Platform, domain_of, Acted, nothing_done}
use Rattle.feed_meaning.specs.OutRecords.{lost_record}

-- The platform with another link state: the edges of the server are those of the link state and the roster from now on.
abbrev pub with_link_state : LinkState → Platform → Platform
with_link_state state platform = record platform {
  link_state = state;
  server = after (domain_of platform.roster) (Links (edges_of state platform.roster.links)) platform.server;
}

-- The LSAs of the whole packets change the link state at the present time.
abbrev pub packets_act : Framed → Platform → Acted
packets_act found platform = record {
  after = with_link_state (after_packets platform.roster.area platform.moment found.packets platform.link_state) (record platform { stream = found.stream });
  out = lost_record found.lost_at;
}

-- octets of the stream join those that are held
abbrev pub stream_act : LinkStream → List ℕ → Platform → Acted
stream_act (Reading held place) octets platform = packets_act (framed place (held ++ octets)) platform
stream_act Lost octets platform = nothing_done platform

-- An L brings octets, and with a T time passes.
abbrev pub links_act : Platform → List ℕ → Kind → Acted
links_act platform body kind.Links = stream_act platform.stream body platform
links_act platform body kind.Time = nothing_done (with_link_state (aged platform.moment platform.link_state) platform)
links_act platform body kind = nothing_done platform
