-- The canonical text of a roster: its five settings, its routers and its links, each in a line, in their order.
use Rattle.std.specs.Prelude.{◌≡◌, ℕ, ◌^◌, ◌<◌, List, [], ◌∷◌, ◌++◌, map, codes}
use Rattle.std.specs.Fmt.{decimal}
use Rattle.std.specs.List.{flat_map, join_with_byte, AllByRecursion}
use Rattle.rcp_base.specs.declared.names.Member.{Member}
use Rattle.rcp_base.specs.Text.{address_text}
use Rattle.rcp_base.specs.Roster.{RosterOf}
use Rattle.rcp_base.specs.declared.names.Edge.{Edge}
use Rattle.roster.specs.Form.{InForm}

-- ---- lines

-- octets 32 and 10
abbrev pub SPACE : ℕ
SPACE = 32

abbrev pub LINE_END : ℕ
LINE_END = 10

abbrev pub line_text : List (List ℕ) → List ℕ
line_text words = join_with_byte SPACE words

abbrev pub router_words : Member → List (List ℕ)
router_words member = codes "router" ∷ address_text member.router ∷ address_text member.bgp_id ∷ []

abbrev pub link_words : Edge → List (List ℕ)
link_words link = codes "link" ∷ address_text link.from ∷ address_text link.to ∷ decimal link.cost ∷ []

-- a link line stands for two links, forth and back
abbrev pub both_ways : Edge → List Edge
both_ways link = link ∷ record { from = link.to; to = link.from; cost = link.cost } ∷ []

-- the first of each two
abbrev pub each_second : List Edge → List Edge
each_second [] = []
each_second (link ∷ []) = link ∷ []
each_second (link ∷ back ∷ links) = link ∷ each_second links

abbrev pub setting_words : RosterOf → List (List (List ℕ))
setting_words roster =
    (codes "as" ∷ decimal roster.as_number ∷ [])
    ∷ (codes "id" ∷ address_text roster.id ∷ [])
    ∷ (codes "shards" ∷ decimal roster.shards ∷ [])
    ∷ (codes "hold" ∷ decimal roster.hold ∷ [])
    ∷ (codes "area" ∷ address_text roster.area ∷ [])
    ∷ []

-- the words of its lines
abbrev pub roster_words : RosterOf → List (List (List ℕ))
roster_words roster = setting_words roster ++ (map router_words roster.members ++ map link_words (each_second roster.links))

-- each line with its end
abbrev pub roster_text : RosterOf → List ℕ
roster_text roster = flat_map (λ words. line_text words ++ LINE_END ∷ []) (roster_words roster)

-- ---- which rosters have a text

abbrev pub HasAddresses : Member → Type 0
HasAddresses member = (member.router < 2 ^ 32) × (member.bgp_id < 2 ^ 32)

-- A roster in form, with addresses of 32 bits, whose links come forth and back, as those of its lines.
pub record IsRoster (roster : RosterOf) : Type 0 where
  pub form : InForm roster
  pub id : roster.id < 2 ^ 32
  pub area : roster.area < 2 ^ 32
  pub addresses : AllByRecursion HasAddresses roster.members
  pub lines : List Edge
  pub links : roster.links ≡ flat_map both_ways lines
