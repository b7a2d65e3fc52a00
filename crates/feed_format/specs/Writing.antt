-- How far writing got.
use Rattle.std.specs.Prelude.{◌≡◌, ℕ, ◌<◌, List, length, take, Option}
use Rattle.outside.specs.Told.{behind}

-- a front of the octets was taken, and not all of them
pub record WritesLess (octets : List ℕ) (before now : Option (List ℕ)) : Type 0 where
  pub count : ℕ
  pub fewer : count < length octets
  pub taken : now ≡ behind before (take count octets)
