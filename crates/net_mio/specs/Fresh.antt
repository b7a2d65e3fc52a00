-- The counts of a link that was just made.
use Rattle.std.specs.Prelude.{◌≡◌, ℕ}

-- faults, ends and empty writes
pub record IsNew (faults ends empties : ℕ) : Type 0 where
  pub no_fault : faults ≡ 0
  pub no_end : ends ≡ 0
  pub no_empty : empties ≡ 0
