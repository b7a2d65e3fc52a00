-- What a writer does to the octets before and after a place.
use Rattle.std.specs.Prelude.{◌≡◌, ℕ, ◌+◌, List, ◌++◌, length, take}

-- the octets written so far end at `at` in `old`, and after these more octets at `end` in `new`
pub record Appends (old : List ℕ) (at : ℕ) (new : List ℕ) (end : ℕ) (octets : List ℕ) : Type 0 where
  pub end_is : end ≡ at + length octets
  pub octets_are : take end new ≡ take at old ++ octets
