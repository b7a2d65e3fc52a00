-- The dirty cells of a shard over its work: those whose route changes with some work.
use Rattle.std.specs.Prelude.{ℕ, Bool, not, List, [], ◌∷◌, map, filter}
use Rattle.std.specs.FinSet as set_of
use Rattle.rcp_base.specs.IpPrefix.{IpPrefix}
use Rattle.rcp_model.specs.Ribs.{rib_cmp}
use Rattle.rcp_model.specs.Routes.{RouteFields}
use Rattle.rcp_model.specs.ServerRibs.{Reader, Work, Ribs, same_values, same_route, at_prefix, ribs_after}

abbrev pub Cells : Type 0
Cells = set_of.FinSet rib_cmp

-- whether a slot is given another route at a prefix than before
abbrev pub has_changed : Ribs RouteFields → Ribs RouteFields → ℕ → IpPrefix → Bool
has_changed before now slot p = not (same_values same_route (at_prefix before.given p slot) (at_prefix now.given p slot))

-- work on a prefix makes those cells of connected slots dirty that it changes there
abbrev pub dirty_with : Reader RouteFields → IpPrefix → Ribs RouteFields → Cells → Cells
dirty_with reader p ribs dirty =
    set_of.union dirty (set_of.from_list (map (λ slot. (p, slot))
    (filter (λ slot. has_changed ribs (ribs_after reader (Work p) ribs) slot p) (set_of.items ribs.connected))))

-- work on prefixes, one after another
unfoldable pub dirty_over : Reader RouteFields → List IpPrefix → Ribs RouteFields → Cells → Cells
dirty_over reader [] ribs dirty = dirty
dirty_over reader (p ∷ prefixes) ribs dirty = dirty_over reader prefixes (ribs_after reader (Work p) ribs) (dirty_with reader p ribs dirty)
