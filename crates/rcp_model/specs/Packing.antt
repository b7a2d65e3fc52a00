-- Packed UPDATEs (RFC 4271 section 4.3): the messages by which the cells of a router's table are sent, first the withdrawn
-- prefixes and then the announced ones in groups of equal attribute octets, as many in a message as it has room for.
use Rattle.std.specs.Prelude.{◌≡◌, ℕ, ◌≤◌, Bool, true, false, not, List, [], ◌∷◌, ◌++◌, length, take, map, filter, flat_map, Option, Some, None, nat_le, if◌then◌else◌, bytes_eq, All, AllPairs, IsTrue}
use Rattle.std.specs.List.{AllByRecursion}
use Rattle.rcp_base.specs.IpPrefix.{IpPrefix}
use Rattle.rcp_base.specs.Maps.{is_before}
use Rattle.rcp_model.specs.Updates.{update_octets}
use Rattle.rcp_model.specs.Cells.{Cell}

-- ---- one UPDATE

-- The UPDATE that gives each of the prefixes this value: one of withdrawn routes alone, without attributes and NLRI, or
-- one that announces them with these attribute octets.
unfoldable pub update_of : Option (List ℕ) → List IpPrefix → List ℕ
update_of None prefixes = update_octets prefixes [] []
update_of (Some octets) prefixes = update_octets [] octets prefixes

-- a message has at most 4,096 octets (section 4.1)
abbrev pub fits : Option (List ℕ) → List IpPrefix → Bool
fits value prefixes = nat_le (length (update_of value prefixes)) 4096

-- ---- the UPDATEs of one value

-- the prefixes in pieces, where the first piece has these in front: each takes prefixes for as long as one more fits
abbrev pub filled : Option (List ℕ) → List IpPrefix → List IpPrefix → List (List IpPrefix)
filled value taken [] = taken ∷ []
filled value taken (p ∷ prefixes) =
    if fits value (taken ++ p ∷ []) then filled value (taken ++ p ∷ []) prefixes else taken ∷ filled value (p ∷ []) prefixes

-- the prefixes in pieces, a message for each, filled from the front
abbrev pub fill : Option (List ℕ) → List IpPrefix → List (List IpPrefix)
fill value [] = []
fill value (p ∷ prefixes) = filled value (p ∷ []) prefixes

-- ---- groups

abbrev pub same_value : Option (List ℕ) → Option (List ℕ) → Bool
same_value None None = true
same_value None (Some octets) = false
same_value (Some octets) None = false
same_value (Some octets) (Some others) = bytes_eq octets others

-- the values, each where it comes first
abbrev pub each_once : List (Option (List ℕ)) → List (Option (List ℕ))
each_once [] = []
each_once (value ∷ values) = value ∷ filter (λ other. not (same_value value other)) (each_once values)

-- the prefixes of the cells with this value
abbrev pub prefixes_with : Option (List ℕ) → List Cell → List IpPrefix
prefixes_with value cells = map (λ cell. cell.0) (filter (λ cell. same_value value cell.1) cells)

-- a value, and the prefixes whose cells have it
abbrev pub Group : Type 0
Group = Option (List ℕ) × List IpPrefix

abbrev pub group_of : List Cell → Option (List ℕ) → Group
group_of cells value = (value, prefixes_with value cells)

abbrev pub values_of : List Cell → List (Option (List ℕ))
values_of cells = map (λ cell. cell.1) cells

-- the group of what is withdrawn, which may be empty, and then a group for each value in the order of the cells
unfoldable pub groups : List Cell → List Group
groups cells = map (group_of cells) (each_once (None ∷ values_of cells))

-- ---- all UPDATEs

abbrev pub group_updates : Group → List (List ℕ)
group_updates group = map (update_of group.0) (fill group.0 group.1)

unfoldable pub packed : List Cell → List (List ℕ)
packed cells = flat_map group_updates (groups cells)

-- ---- what the order of the groups is, and what it is to be filled

-- a group's first prefix comes before each prefix of the other
pub record StandsBefore (group other : Group) : Type 0 where
  pub first : IpPrefix
  pub others : List IpPrefix
  pub has : group.1 ≡ first ∷ others
  pub before : All (λ q. IsTrue (is_before first q)) other.1

-- In each group the prefixes rise, and of two groups of announced prefixes the one with the lesser least prefix comes first.
-- The withdrawn ones come before them.
pub record StandInOrder (in_order : List Group) : Type 0 where
  pub withdrawn : List IpPrefix
  pub announced : List Group
  pub has : in_order ≡ (None, withdrawn) ∷ announced
  pub with_octets : All (λ group. same_value None group.0 ≡ false) announced
  pub rising : All (λ group. AllPairs (λ p q. IsTrue (is_before p q)) group.1) in_order
  pub by_least : AllPairs StandsBefore announced

-- each piece but the last has no room for the first prefix of the next one
abbrev pub AreFull : Option (List ℕ) → List (List IpPrefix) → Type 0
AreFull value [] = Unit {0}
AreFull value (piece ∷ []) = Unit {0}
AreFull value (piece ∷ (next ∷ pieces)) = (fits value (piece ++ take 1 next) ≡ false) × AreFull value (next ∷ pieces)

-- the pieces of a group's prefixes: all of them in their order, none too long for a message, and each filled
pub record AreFilled (group : Group) : Type 0 where
  pub all : flat_map (λ piece. piece) (fill group.0 group.1) ≡ group.1
  pub short : AllByRecursion (λ piece. length (update_of group.0 piece) ≤ 4096) (fill group.0 group.1)
  pub full : AreFull group.0 (fill group.0 group.1)
