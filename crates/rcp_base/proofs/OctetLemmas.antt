-- Octets: numbers below 256, and the numbers that two and four of them are.
use Rattle.std.proofs.Common.{ℕ, ◌<◌, ◌≤◌, ◌^◌, List, length, get_or, arith, ⊎_elim}
use Rattle.std.specs.List.{All}
use Rattle.std.specs.Int.{w16, w32, from_be_bytes}
use Rattle.std.proofs.lemmas.Bool.{cases_lt}
use Rattle.std.proofs.lemmas.List.{get_or_past}

-- each octet at a place, and 0 past the end
pub octet-fits : (octets : List ℕ) → All (λ o. o < 256) octets → (i : ℕ) → get_or octets i 0 < 256
octet-fits octets all i = ⊎_elim (λ (lt : i < length octets). all i 0 lt) (λ (le : length octets ≤ i). rw (get_or_past octets i 0 le) (omega arith)) (cases_lt i (length octets))

pub two_octets-fit : (octets : List ℕ) → All (λ o. o < 256) octets → from_be_bytes w16 octets < 65536
two_octets-fit octets all = omega (arith, octet-fits octets all 0, octet-fits octets all 1)

pub four_octets-fit : (octets : List ℕ) → All (λ o. o < 256) octets → from_be_bytes w32 octets < 2 ^ 32
four_octets-fit octets all = omega (arith, octet-fits octets all 0, octet-fits octets all 1, octet-fits octets all 2, octet-fits octets all 3)
