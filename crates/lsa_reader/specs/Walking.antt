-- How far a walk over the LSAs of a Link State Update has come.
use Rattle.std.specs.Prelude.{◌≡◌, ℕ, zero, suc, ◌+◌, ◌-◌, ◌<◌, ◌≤◌, true, List, [], ◌∷◌, take, drop, Option, Some, None, Result, Ok, Err, option_and_then}
use Rattle.rcp_model.specs.declared.lsa_fault.LsaFault.{LsaFault}
use Rattle.rcp_model.specs.LsaWalk.{first_place, lsa_count, lsa_len, Walked, lsas_at}

-- where the walk stands after so many LSAs
abbrev pub place_after : ℕ → List ℕ → Option ℕ
place_after zero packet = Some first_place
place_after (suc n) packet =
    option_and_then (λ place. option_and_then (λ len. Some (place + len)) (lsa_len (drop place packet))) (place_after n packet)

-- a place that the walk comes to
abbrev pub IsOnWalk : List ℕ → ℕ → Type 0
IsOnWalk packet place = (n : ℕ) × (n ≤ lsa_count packet) × (place_after n packet ≡ Some place)

abbrev pub with_lsa : List ℕ → Walked → Walked
with_lsa lsa others = record others { lsas = lsa ∷ others.lsas }

-- What a step of the walk answers where so many LSAs are left at most: nothing where none is, the LSA in front, or that the octets are too short for it.
abbrev pub IsStep : ℕ → List ℕ → Option (Result (ℕ × ℕ) LsaFault) → Type 0
IsStep left octets None = left ≡ 0
IsStep left octets (Some (Ok lsa)) =
    (0 < left) × (lsas_at left octets ≡ with_lsa (take lsa.0 octets) (lsas_at (left - 1) (drop lsa.0 octets)))
IsStep left octets (Some (Err fault)) = (0 < left) × (lsas_at left octets ≡ record { lsas = []; short = true })
