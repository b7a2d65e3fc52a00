-- How far writing got.
use Rattle.std.specs.Prelude.{◌≡◌, ℕ, ◌<◌, ◌≤◌, List, length, take, Option, Result, MatchResult}
use Rattle.outside.specs.Told.{behind}
use Rattle.feed_make.specs.declared.refusal.MakeRefusal.{MakeRefusal}
use Rattle.feed_make.specs.declared.refusal.MakeRefusal.TheVariants.{Write}

-- a front of the octets was taken, and where the sink failed not all of them
pub record WritesPart (octets : List ℕ) (before now : Option (List ℕ)) (refusal : MakeRefusal) : Type 0 where
  pub count : ℕ
  pub within : count ≤ length octets
  pub fewer : refusal ≡ Write → count < length octets
  pub taken : now ≡ behind before (take count octets)

-- all octets were taken, or else a front of them
abbrev pub Writes : List ℕ → Option (List ℕ) → Option (List ℕ) → Result (Unit {0}) MakeRefusal → Type 0
Writes octets before now result = MatchResult result (λ _. now ≡ behind before octets) (WritesPart octets before now)
