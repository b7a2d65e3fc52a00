-- The routes of a generated feed: 400 groups of 50 prefixes, each announced by three routers.
use Rattle.std.specs.Prelude.{ℕ, ◌+◌, ◌*◌, ◌%◌, List, [], ◌∷◌, ◌++◌, map}
use Rattle.std.specs.Int.{w16, w32, to_be_bytes}
use Rattle.rcp_base.specs.IpPrefix.{IpPrefix}
use Rattle.rcp_model.specs.Updates.{update_octets}
use Rattle.feed_make.specs.Numbers.{numbers_from}
use Rattle.feed_make.specs.Draws.{draw}
use Rattle.feed_make.specs.Networks.{id_of}

-- the draws of a group begin here: three for its routers, and five for the route of each
abbrev pub group_place : ℕ → ℕ
group_place g = 1900 + 18 * g

-- the routers that announce a group
abbrev pub first_of : ℕ → ℕ → ℕ
first_of number g = draw number (group_place g) 400

abbrev pub second_of : ℕ → ℕ → ℕ
second_of number g = (first_of number g + 100 + draw number (group_place g + 1) 100) % 400

abbrev pub third_of : ℕ → ℕ → ℕ
third_of number g = (first_of number g + 250 + draw number (group_place g + 2) 100) % 400

-- The attributes of a group's route whose draws begin at a place (RFC 4271 section 4.3, RFC 1997): ORIGIN IGP, an AS_SEQUENCE of
-- three, NEXT_HOP, MULTI_EXIT_DISC, LOCAL_PREF, and one community of AS 65000 with the group's number.
abbrev pub attributes : ℕ → ℕ → ℕ → ℕ → List ℕ
attributes number place g router =
    (64 ∷ 1 ∷ 1 ∷ 0 ∷ [])
    ++ (64 ∷ 2 ∷ 8 ∷ 2 ∷ 3 ∷ [])
    ++ to_be_bytes w16 (64601 + draw number place 8)
    ++ to_be_bytes w16 (64700 + draw number (place + 3) 100)
    ++ to_be_bytes w16 (64800 + draw number (place + 4) 100)
    ++ (64 ∷ 3 ∷ 4 ∷ []) ++ to_be_bytes w32 (id_of router)
    ++ (128 ∷ 4 ∷ 4 ∷ []) ++ to_be_bytes w32 (draw number (place + 2) 4)
    ++ (64 ∷ 5 ∷ 4 ∷ []) ++ to_be_bytes w32 (100 + 10 * draw number (place + 1) 2)
    ++ (192 ∷ 8 ∷ 4 ∷ 253 ∷ 232 ∷ []) ++ to_be_bytes w16 g

-- 16.0.0.0 and on, one after another, each of length 24
abbrev pub group_prefix : ℕ → ℕ → IpPrefix
group_prefix g k = record { addr = 268435456 + (50 * g + k) * 256; len = 24 }

abbrev pub prefixes : ℕ → List IpPrefix
prefixes g = map (group_prefix g) (numbers_from 0 50)

-- the UPDATE by which a router announces a group
abbrev pub announcement : ℕ → ℕ → ℕ → ℕ → List ℕ
announcement number place g router = update_octets [] (attributes number place g router) (prefixes g)
