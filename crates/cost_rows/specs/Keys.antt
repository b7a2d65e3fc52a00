-- What slots are ranked by: the cost, the BGP Identifier and the slot itself.
use Rattle.std.specs.Prelude.{◌≡◌, ℕ, ◌<◌, ◌↔◌, List, map, AllPairs, Contains, Option, Some}
use Rattle.rcp_base.specs.declared.names.Member.{Member}
use Rattle.cost_rows.specs.Views.{identifier_at}

abbrev pub Key : Type 0
Key = ℕ × ℕ × ℕ

abbrev pub slots_of : List Key → List ℕ
slots_of keys = map (λ (key : Key). key.2) keys

-- the key of a slot at its cost
abbrev pub IsKey : List Member → (ℕ → Option ℕ) → Key → Type 0
IsKey members cost key = (cost key.2 ≡ Some key.0) × (identifier_at members key.2 ≡ key.1)

-- the keys of exactly the slots that have a cost, by slot
pub record AreKeys (members : List Member) (cost : ℕ → Option ℕ) (keys : List Key) : Type 0 where
  pub rising : AllPairs (λ (a b : Key). a.2 < b.2) keys
  pub exact : (key : Key) → Contains keys key ↔ IsKey members cost key
