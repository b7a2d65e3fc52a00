-- The routing information bases of a shard (RFC 4271 section 3.2) as finite maps and sets, and what each call does to them.
use Rattle.std.specs.Prelude.{◌≡◌, ℕ, Bool, true, not, ◌==◌, Option, Some, None, IsSome, is_some, option_map, if◌then◌else◌, refl, ◌↔◌}
use Rattle.std.specs.Coded.{Coded, code_by, coded×, coded_ℕ}
use Rattle.std.specs.Option.{option_and_then}
use Rattle.std.specs.FinMap as map_of
use Rattle.std.specs.FinSet as set_of
use Rattle.rcp_base.specs.IpPrefix.{IpPrefix}
use Rattle.rcp_model.specs.Routes.{RouteFields}
use Rattle.rcp_model.specs.Assigned.{IsLeast, IsAfter}
use Rattle.rcp_model.specs.Ribs.{RibKey, rib_cmp, RouteNumbers, prefix_code, route_numbers_code}
use Rattle.rcp_model.specs.ServerRibs.{Rib, Prefixes, same_values, same_route, with_value, without_slot, rib_code}
use Rattle.attr_store.specs.Kept.{fields_code}

-- What each slot announced (Adj-RIBs-In) and what each is given (the cells, Adj-RIBs-Out), with the number of the route of each;
-- the dirty cells; and the opened prefixes.
pub record Bases : Type 0 where
  pub members : ℕ
  pub announced : Rib RouteFields
  pub given : Rib RouteFields
  pub dirty : set_of.FinSet rib_cmp
  pub opened : Prefixes
  pub numbers : RouteNumbers
  pub cell_numbers : RouteNumbers

-- nothing is announced, given or opened
abbrev pub no_bases : ℕ → Bases
no_bases members = record {
  members = members;
  announced = map_of.empty;
  given = map_of.empty;
  dirty = set_of.empty;
  opened = set_of.empty;
  numbers = map_of.empty;
  cell_numbers = map_of.empty;
}

-- ---- what is asked

abbrev pub announced_at : Bases → ℕ → IpPrefix → Option RouteFields
announced_at bases slot p = map_of.get bases.announced (p, slot)

abbrev pub given_at : Bases → ℕ → IpPrefix → Option RouteFields
given_at bases slot p = map_of.get bases.given (p, slot)

abbrev pub is_opened : Bases → IpPrefix → Bool
is_opened bases p = set_of.contains bases.opened p

abbrev pub is_dirty : Bases → ℕ → IpPrefix → Bool
is_dirty bases slot p = set_of.contains bases.dirty (p, slot)

-- whether two cells or announcements have the same route, or neither has one
abbrev pub is_same : Option RouteFields → Option RouteFields → Bool
is_same a b = same_values same_route a b

-- some slot announces the prefix
abbrev pub IsAnnounced : Bases → IpPrefix → Type 0
IsAnnounced bases p = (slot : ℕ) × IsSome (announced_at bases slot p)

-- the least prefix after the given one that some slot announces, or that this slot does, or at which this slot's cell has a route
abbrev pub IsNextAnnounced : Bases → Option IpPrefix → Option IpPrefix → Type 0
IsNextAnnounced bases after next = IsLeast (λ q. IsAfter after q × IsAnnounced bases q) next

abbrev pub IsNextOf : Bases → ℕ → Option IpPrefix → Option IpPrefix → Type 0
IsNextOf bases slot after next = IsLeast (λ q. IsAfter after q × IsSome (announced_at bases slot q)) next

abbrev pub IsNextGiven : Bases → ℕ → Option IpPrefix → Option IpPrefix → Type 0
IsNextGiven bases slot after next = IsLeast (λ q. IsAfter after q × IsSome (given_at bases slot q)) next

abbrev pub IsLeastDirty : Bases → ℕ → Option IpPrefix → Type 0
IsLeastDirty bases slot least = IsLeast (λ q. is_dirty bases slot q ≡ true) least

-- the least prefix after the given one at which this slot's cell is dirty
abbrev pub IsNextDirty : Bases → ℕ → Option IpPrefix → Option IpPrefix → Type 0
IsNextDirty bases slot after next = IsLeast (λ q. IsAfter after q × (is_dirty bases slot q ≡ true)) next

-- ---- numbers

-- A number stands where a route does, and two of the numbers are the same exactly where the routes are.
pub record AreNumbered (numbers : RouteNumbers) (routes : Rib RouteFields) : Type 0 where
  pub held : (key : RibKey) → is_some (map_of.get numbers key) ≡ is_some (map_of.get routes key)
  pub alike : (a b : RibKey) → (map_of.get numbers a ≡ map_of.get numbers b) ↔ (map_of.get routes a ≡ map_of.get routes b)

-- the number is that of an announcement
abbrev pub IsNumber : Bases → ℕ → Type 0
IsNumber bases number = (key : RibKey) × (map_of.get bases.numbers key ≡ Some number)

-- the slot announces the prefix, by a route of this number
abbrev pub IsAnnouncer : Bases → IpPrefix → ℕ × ℕ → Type 0
IsAnnouncer bases p announcer = map_of.get bases.numbers (p, announcer.0) ≡ Some announcer.1

-- the number at a key, or none there
abbrev pub with_number : RibKey → Option ℕ → RouteNumbers → RouteNumbers
with_number key number numbers = with_value key number numbers

-- ---- what each call does

-- the slot announces the route at the prefix, or nothing
abbrev pub after_change : ℕ → IpPrefix → Option RouteFields → Option ℕ → Bases → Bases
after_change slot p route number bases = record bases {
  announced = with_value (p, slot) route bases.announced;
  numbers = with_number (p, slot) number bases.numbers;
}

-- one prefix more is opened
abbrev pub after_open : IpPrefix → Bases → Bases
after_open p bases = record bases { opened = set_of.insert bases.opened p }

-- the slot announces nothing
abbrev pub after_drop : ℕ → Bases → Bases
after_drop slot bases = record bases {
  announced = without_slot slot bases.announced;
  numbers = without_slot slot bases.numbers;
}

-- what an announcement by this slot, or by none, gives at a prefix
abbrev pub route_of : Bases → IpPrefix → Option (ℕ × ℕ) → Option RouteFields
route_of bases p from = option_and_then (λ announcer. announced_at bases announcer.0 p) from

-- The cell of a slot has what the announcer announces, or nothing. It is dirty where its route is another than before, and else
-- as dirty as it was.
abbrev pub after_set : ℕ → IpPrefix → Option (ℕ × ℕ) → Bases → Bases
after_set to p from bases = record bases {
  given = with_value (p, to) (route_of bases p from) bases.given;
  dirty = (if is_same (given_at bases to p) (route_of bases p from) then bases.dirty else set_of.insert bases.dirty (p, to));
  cell_numbers = with_number (p, to) (option_map (λ announcer. announcer.1) from) bases.cell_numbers;
}

-- the cells of a slot have no route and are clean
abbrev pub after_clear : ℕ → Bases → Bases
after_clear slot bases = record bases {
  given = without_slot slot bases.given;
  dirty = set_of.retain bases.dirty (λ key. not (key.1 == slot));
  cell_numbers = without_slot slot bases.cell_numbers;
}

-- the cells of a slot are clean
abbrev pub after_clean : ℕ → Bases → Bases
after_clean slot bases = record bases { dirty = set_of.retain bases.dirty (λ key. not (key.1 == slot)) }

-- the cell at the prefix is clean, where there is one
abbrev pub after_take : ℕ → Option IpPrefix → Bases → Bases
after_take slot None bases = bases
after_take slot (Some p) bases = record bases { dirty = set_of.remove bases.dirty (p, slot) }

-- ---- how they are stored, as a value of a type needs

abbrev pub bases_code : Coded Bases
bases_code = code_by
    (ℕ × (Rib RouteFields × (Rib RouteFields × (set_of.FinSet rib_cmp × (Prefixes × (RouteNumbers × RouteNumbers))))))
    (coded× coded_ℕ (coded× (rib_code fields_code) (coded× (rib_code fields_code) (coded× (set_of.code (coded× prefix_code coded_ℕ))
    (coded× (set_of.code prefix_code) (coded× route_numbers_code route_numbers_code))))))
    (λ b. (b.members, (b.announced, (b.given, (b.dirty, (b.opened, (b.numbers, b.cell_numbers)))))))
    (λ d. record {
      members = d.0;
      announced = d.1.0;
      given = d.1.1.0;
      dirty = d.1.1.1.0;
      opened = d.1.1.1.1.0;
      numbers = d.1.1.1.1.1.0;
      cell_numbers = d.1.1.1.1.1.1;
    })
    (λ _. refl)
