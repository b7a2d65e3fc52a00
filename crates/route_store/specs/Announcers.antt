-- The announcements of one prefix, and the prefixes that are announced.
use Rattle.std.specs.Prelude.{ℕ, List, map, filter, IsSome}
use Rattle.std.specs.FinMap as map_of
use Rattle.std.specs.Ordering.{eq_by_cmp}
use Rattle.rcp_base.specs.IpPrefix.{IpPrefix, prefix_cmp}
use Rattle.rcp_model.specs.Ribs.{RibKey, RouteNumbers}

-- a slot, and the number of the route that it announces
abbrev pub Announcement : Type 0
Announcement = ℕ × ℕ

abbrev pub announcement_of : RibKey × ℕ → Announcement
announcement_of entry = (entry.0.1, entry.1)

-- the announcements of a prefix, by rising slot
abbrev pub announcers_of : RouteNumbers → IpPrefix → List Announcement
announcers_of numbers p = map announcement_of (filter (λ entry. eq_by_cmp prefix_cmp p entry.0.0) (map_of.entries numbers))

-- some slot announces the prefix
abbrev pub IsAnnounced : RouteNumbers → IpPrefix → Type 0
IsAnnounced numbers p = (slot : ℕ) × IsSome (map_of.get numbers (p, slot))

-- the slot announces the prefix
abbrev pub IsAnnouncedBy : RouteNumbers → ℕ → IpPrefix → Type 0
IsAnnouncedBy numbers slot p = IsSome (map_of.get numbers (p, slot))

-- the prefixes that are announced, each once
abbrev pub announced : RouteNumbers → map_of.FinMap prefix_cmp (Unit {0})
announced numbers = map_of.from_entries (map (λ entry. (entry.0.0, tt)) (map_of.entries numbers))
