-- The text of the tables of a platform: what each connected router was given, and how many prefixes are pending.
use Rattle.std.specs.Prelude.{ℕ, suc, List, [], ◌∷◌, ◌++◌, length, map, min, Option, Some, None, codes}
use Rattle.std.specs.Fmt.{decimal}
use Rattle.std.specs.List.{flat_map}
use Rattle.rcp_base.specs.IpPrefix.{IpPrefix}
use Rattle.rcp_base.specs.Maps.{include_all}
use Rattle.rcp_base.specs.Text.{address_text, prefix_text}
use Rattle.rcp_base.specs.declared.names.Member.{Member}
use Rattle.rcp_model.specs.Attributes.{number_width}
use Rattle.rcp_model.specs.Routes.{route_in}
use Rattle.rcp_model.specs.RouteServer.{table_of}
use Rattle.rcp_model.specs.Updates.{Table}
use Rattle.feed_meaning.specs.OutRecords.{MOST}
use Rattle.feed_meaning.specs.Platform.{Platform}
use Rattle.feed_meaning.specs.Work.{cell_of}
use Rattle.path_attrs.specs.Texts.{path_text}

-- the prefixes of a table, rising
abbrev pub prefixes_in : Option Table → List IpPrefix
prefixes_in None = []
prefixes_in (Some table) = include_all (map (λ cell. cell.0) table) []

-- `PREFIX next-hop ADDRESS local-pref N path PATH`
abbrev pub route_line : IpPrefix → (next_hop local_pref : ℕ) → List ℕ → List ℕ
route_line p next_hop local_pref octets =
    prefix_text p ++ codes " next-hop " ++ address_text next_hop ++ codes " local-pref " ++ decimal local_pref ++ codes " path " ++ path_text octets ++ 10 ∷ []

-- the line of the route that attribute octets are in the local AS
abbrev pub entry_line : ℕ → IpPrefix → Option (List ℕ) → List ℕ
entry_line as_number p None = []
entry_line as_number p (Some octets) = let route = route_in number_width as_number octets in route_line p route.next_hop route.pref octets

-- the entries of a table by rising prefix
abbrev pub entries_text : ℕ → Option Table → List ℕ
entries_text as_number table = flat_map (λ p. entry_line as_number p (cell_of table p)) (prefixes_in table)

-- `table ROUTER`, and the entries of a connected router
abbrev pub table_text : ℕ → ℕ → Option Table → List ℕ
table_text as_number router None = []
table_text as_number router (Some table) = (codes "table " ++ address_text router ++ 10 ∷ []) ++ entries_text as_number (Some table)

-- the tables of some members, of which the first has this slot
abbrev pub tables_from : Platform → ℕ → List Member → List ℕ
tables_from platform slot [] = []
tables_from platform slot (member ∷ members) =
    table_text platform.roster.as_number member.router (table_of platform.server slot) ++ tables_from platform (suc slot) members

-- `pending N`: the number of pending prefixes, as 64 bits hold it
abbrev pub pending_line : Platform → List ℕ
pending_line platform = codes "pending " ++ decimal (min (length platform.server.pending) MOST) ++ 10 ∷ []

-- the tables in the order of the roster, and the number of pending prefixes
abbrev pub tables_text : Platform → List ℕ
tables_text platform = tables_from platform 0 platform.roster.members ++ pending_line platform
