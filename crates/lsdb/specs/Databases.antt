-- What contracts see of a link-state database.
use Rattle.std.specs.Prelude.{◌≡◌, ⊤, ℕ, ◌+◌, ◌≤◌, List, [], ◌∷◌, length, ◌==◌, Option, None, IfSome, is_some, if◌then◌else◌}
use Rattle.std.specs.Ordering.{nat_cmp}
use Rattle.std.specs.Map.{keys_of}
use Rattle.std.specs.List.Sorted.{IsStrictlySortedBy}
use Rattle.rcp_base.specs.Maps.{get_at}
use Rattle.rcp_model.specs.LinkState.{LsaHeader, RouterLsa, Kept, LinkState, same_number, kept_of, capped, most_routers}

-- a link state, and the latest time in seconds
pub record Database : Type 0 where
  pub state : LinkState
  pub moment : ℕ

abbrev pub empty : Database
empty = record { state = record { routers = [] }; moment = 0 }

-- what each database keeps: its routers stand in order, each with an instance of its own, and aren't too many
pub record IsKept (routers : List (ℕ × Kept)) : Type 0 where
  pub rising : IsStrictlySortedBy nat_cmp (keys_of routers)
  pub own : (router : ℕ) → IfSome (get_at same_number router routers) (λ kept. kept.lsa.key ≡ router)
  pub few : length routers ≤ most_routers

-- The entries of a map before and after: this is at the key then, and the others are as before.
pub record Changes (key : ℕ) (value : Option Kept) (old new : List (ℕ × Kept)) : Type 0 where
  pub at : (k : ℕ) → get_at same_number k new ≡ (if key == k then value else get_at same_number k old)
  pub count : length new + (if is_some (get_at same_number key old) then 1 else 0) ≡ length old + (if is_some value then 1 else 0)
  pub rising : IsStrictlySortedBy nat_cmp (keys_of new)

-- no router stands twice
abbrev pub IsOnce : List (ℕ × Kept) → Type 0
IsOnce [] = ⊤
IsOnce (entry ∷ entries) = (get_at same_number entry.0 entries ≡ None) × IsOnce entries

-- A database holds a link state: it has the same instance of each router. The order of the routers is left open.
pub record Holds (kept state : LinkState) : Type 0 where
  pub same : (router : ℕ) → kept_of router kept ≡ kept_of router state
  pub once : IsOnce state.routers

-- the header of an LSA so many seconds after it came
abbrev pub header_after : ℕ → RouterLsa → LsaHeader
header_after elapsed lsa = let header = lsa.header in capped (record header { age = header.age + elapsed })
