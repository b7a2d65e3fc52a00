-- The records of a generated feed.
use Rattle.std.specs.Prelude.{◌≡◌, ℕ, zero, suc, ◌+◌, ◌*◌, List, [], ◌∷◌, ◌++◌, map, length, replicate, codes}
use Rattle.std.specs.List.{flat_map, concat}
use Rattle.std.specs.Int.{w16, w32, to_be_bytes}
use Rattle.rcp_base.specs.Feed.{FeedRecord, record_octets}
use Rattle.rcp_base.specs.Text.{address_text}
use Rattle.rcp_base.specs.declared.kinds.Kind.{Kind}
use Rattle.rcp_base.specs.declared.kinds.Kind.TheVariants.{Roster, Raw, Octets, Closed, Links, Slice, Drain, Finish}
use Rattle.rcp_model.specs.Messages.{message_octets}
use Rattle.feed_make.specs.Numbers.{numbers_from}
use Rattle.feed_make.specs.Networks.{id_of, changed_link, lsa_after}
use Rattle.feed_make.specs.Checksums.{lsa_octets}
use Rattle.feed_make.specs.Routes.{group_place, first_of, second_of, third_of, announcement}

abbrev pub item : Kind → ℕ → List ℕ → FeedRecord
item kind source body = record { kind = kind; source = source; body = body }

-- the connection of a router, numbered from 1
abbrev pub connection : ℕ → ℕ
connection router = router + 1

-- ---- the roster

abbrev pub line : List ℕ → List ℕ
line text = text ++ 10 ∷ []

abbrev pub router_line : ℕ → List ℕ
router_line router = line (codes "router " ++ address_text (id_of router) ++ codes " " ++ address_text (id_of router))

abbrev pub settings_text : List ℕ
settings_text = line (codes "as 65000") ++ line (codes "id 10.255.255.254") ++ line (codes "shards 8") ++ line (codes "hold 90") ++ line (codes "area 0.0.0.0")

unfoldable pub roster_text : List ℕ
roster_text = settings_text ++ flat_map router_line (numbers_from 0 400)

-- ---- sessions

-- an OPEN of version 4 and AS 65000 with a hold time of 90 seconds, and capabilities of IPv4 unicast (RFC 4760)
abbrev pub open_message : ℕ → List ℕ
open_message router =
    message_octets 1 (4 ∷ to_be_bytes w16 65000 ++ to_be_bytes w16 90 ++ to_be_bytes w32 (id_of router) ++ (8 ∷ 2 ∷ 6 ∷ 1 ∷ 4 ∷ 0 ∷ 1 ∷ 0 ∷ 1 ∷ []))

abbrev pub session_of : ℕ → List FeedRecord
session_of router =
    item Raw (connection router) []
    ∷ item Octets (connection router) (open_message router)
    ∷ item Octets (connection router) (message_octets 4 [])
    ∷ []

-- ---- link state

-- the header of a Link State Update (RFC 2328 sections A.3.1 and A.3.5) with so many octets of so many LSAs: version 2, router
-- 10.255.0.1, area 0, no checksum and no authentication
abbrev pub packet_header : ℕ → ℕ → List ℕ
packet_header len count = (2 ∷ 4 ∷ []) ++ to_be_bytes w16 (28 + len) ++ to_be_bytes w32 184483841 ++ replicate 16 0 ++ to_be_bytes w32 count

abbrev pub packet_octets : List (List ℕ) → List ℕ
packet_octets lsas = packet_header (length (concat lsas)) (length lsas) ++ concat lsas

-- the octets of the LSAs of these routers, after so many changes
abbrev pub lsas : ℕ → ℕ → List ℕ → List (List ℕ)
lsas number k routers = map (λ router. lsa_octets (lsa_after number k router)) routers

abbrev pub links_item : List (List ℕ) → FeedRecord
links_item lsas = item Links 0 (packet_octets lsas)

-- ten packets of 40 routers each
abbrev pub first_packet : ℕ → ℕ → FeedRecord
first_packet number i = links_item (lsas number 0 (numbers_from (40 * i) 40))

-- the packet of a change: the LSAs of the link's two routers
abbrev pub change_packet : ℕ → ℕ → FeedRecord
change_packet number k =
    links_item (lsas number (suc k) ((changed_link number k).from ∷ (changed_link number k).to ∷ []))

-- ---- announcements

-- the announcement of a group by a router, whose draws begin at a place
abbrev pub announced_by : ℕ → ℕ → ℕ → ℕ → FeedRecord
announced_by number g place router = item Octets (connection router) (announcement number place g router)

abbrev pub group_of : ℕ → ℕ → List FeedRecord
group_of number g =
    announced_by number g (group_place g + 3) (first_of number g)
    ∷ announced_by number g (group_place g + 8) (second_of number g)
    ∷ announced_by number g (group_place g + 13) (third_of number g)
    ∷ []

-- ---- work

abbrev pub drain : FeedRecord
drain = item Drain 0 []

-- at most 500 prefixes of a shard, four times
abbrev pub slice_body : ℕ → List ℕ
slice_body shard = to_be_bytes w16 shard ++ to_be_bytes w32 500

abbrev pub slices_of : ℕ → List FeedRecord
slices_of shard = replicate 4 (item Slice 0 (slice_body shard))

-- the connections of the first three routers end
abbrev pub end_of : ℕ → FeedRecord
end_of router = item Closed (connection router) []

unfoldable pub ends : List FeedRecord
ends = map end_of (numbers_from 0 3) ++ (drain ∷ item Finish 0 [] ∷ [])

-- ---- the feed

abbrev pub first_record : FeedRecord
first_record = item Roster 0 roster_text

unfoldable pub sessions : List FeedRecord
sessions = flat_map session_of (numbers_from 0 400)

unfoldable pub packets : ℕ → List FeedRecord
packets number = map (first_packet number) (numbers_from 0 10)

unfoldable pub groups : ℕ → List FeedRecord
groups number = flat_map (group_of number) (numbers_from 0 400)

unfoldable pub slices : List FeedRecord
slices = flat_map slices_of (numbers_from 0 8) ++ drain ∷ []

unfoldable pub changes : ℕ → List FeedRecord
changes number = map (change_packet number) (numbers_from 0 10) ++ drain ∷ []

-- the records after the roster's
abbrev pub following : ℕ → List FeedRecord
following number = sessions ++ (packets number ++ (groups number ++ (slices ++ (changes number ++ ends))))

abbrev pub records : ℕ → List FeedRecord
records number = first_record ∷ following number

abbrev pub octets_of : List FeedRecord → List ℕ
octets_of items = flat_map record_octets items

unfoldable pub feed_octets : ℕ → List ℕ
feed_octets number = octets_of (records number)
