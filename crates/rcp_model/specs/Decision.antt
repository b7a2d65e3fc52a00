-- The decision process (RFC 4271 sections 9.1.1 and 9.1.2.2).
use Rattle.std.specs.Prelude.{◌≡◌, ℕ, Bool, true, false, not, ◌&&◌, ◌||◌, ◌==◌, List, [], ◌∷◌, filter, Contains, Option, Some, None, nat_lt, if◌then◌else◌}
use Rattle.std.specs.List.{list_any}
use Rattle.rcp_model.specs.Routes.{RouteFields}

-- a route that takes part: who announced it, and what is compared of it
pub record Contender : Type 0 where
  pub slot : ℕ
  pub id : ℕ
  pub pref : ℕ
  pub hops : ℕ
  pub origin : ℕ
  pub neighbour : ℕ
  pub med : ℕ

-- a route that a slot announced, the router's BGP Identifier being `id`
abbrev pub contender : ℕ → ℕ → RouteFields → Contender
contender slot id route = record { slot = slot; id = id; pref = route.pref; hops = route.hops; origin = route.origin; neighbour = route.neighbour; med = route.med }

-- those than which none of the list is better
abbrev pub unbeaten : (Contender → Contender → Bool) → List Contender → List Contender
unbeaten beats list = filter (λ a. not (list_any (λ b. beats b a) list)) list

-- the highest degree of preference (section 9.1.1)
abbrev pub has_higher_preference : Contender → Contender → Bool
has_higher_preference b a = nat_lt a.pref b.pref

-- the least number of ASes in AS_PATH (section 9.1.2.2 a)
abbrev pub has_shorter_path : Contender → Contender → Bool
has_shorter_path b a = nat_lt b.hops a.hops

-- the lowest origin (section 9.1.2.2 b)
abbrev pub has_lower_origin : Contender → Contender → Bool
has_lower_origin b a = nat_lt b.origin a.origin

-- the lower MULTI_EXIT_DISC, among routes of one neighbouring AS alone (section 9.1.2.2 c)
abbrev pub has_lower_exit : Contender → Contender → Bool
has_lower_exit b a = b.neighbour == a.neighbour && nat_lt b.med a.med

-- Those left by the four filters, each of which goes over the list that the one before it left.
unfoldable pub tied : List Contender → List Contender
tied list = unbeaten has_lower_exit (unbeaten has_lower_origin (unbeaten has_shorter_path (unbeaten has_higher_preference list)))

abbrev pub is_of : ℕ → Contender → Bool
is_of slot a = a.slot == slot

-- the lower cost, then the lower identifier; a cost is lower than none
abbrev pub is_lower_pair : Option ℕ → ℕ → Option ℕ → ℕ → Bool
is_lower_pair None id other other_id = false
is_lower_pair (Some m) id None other_id = true
is_lower_pair (Some m) id (Some n) other_id = nat_lt m n || m == n && nat_lt id other_id

-- the lower interior cost (section 9.1.2.2 e), then the lower BGP Identifier (f)
abbrev pub is_nearer : (ℕ → Option ℕ) → Contender → Contender → Bool
is_nearer cost b a = is_lower_pair (cost b.slot) b.id (cost a.slot) a.id

-- the slot of the one than which none is nearer
abbrev pub nearest : (ℕ → Option ℕ) → List Contender → Option ℕ
nearest cost [] = None
nearest cost (a ∷ list) = if list_any (λ b. is_nearer cost b a) list then nearest cost list else Some a.slot

-- The choice of a slot: itself where it is tied (its own route, learned outside, goes before what it hears inside; section 9.1.2.2 d),
-- else the nearest, by the cost to each slot.
unfoldable pub choice : ℕ → (ℕ → Option ℕ) → List Contender → Option ℕ
choice slot cost list = if list_any (is_of slot) (tied list) then Some slot else nearest cost (tied list)

-- ---- the same in other words

-- Whether a route goes before another: by the higher preference, then the shorter path, then the lower origin, then the lower exit from one neighbouring AS.
abbrev pub goes_before : Contender → Contender → Bool
goes_before b a =
    has_higher_preference b a || b.pref == a.pref && (
    has_shorter_path b a || b.hops == a.hops && (
    has_lower_origin b a || b.origin == a.origin && has_lower_exit b a))

-- a route of the list than which none of the list is nearer
pub record IsNearest (cost : ℕ → Option ℕ) (list : List Contender) (a : Contender) : Type 0 where
  pub among : Contains list a
  pub least : (b : Contender) → Contains list b → is_nearer cost b a ≡ false
