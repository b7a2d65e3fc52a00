-- The LSAs of a Link State Update (RFC 2328 section A.3.5): a count after the header, and the LSAs one after another.
use Rattle.std.specs.Prelude.{ℕ, Bool, List, length, take, drop, nat_lt, Option, Some, None, if◌then◌else◌}
use Rattle.std.specs.Int.{w32}
use Rattle.rcp_base.specs.Octets.{number_at}
use Rattle.rcp_base.specs.Cut.{cut}
use Rattle.rcp_model.specs.RouterLsas.{lsa_length, lsa_header_len}

-- where the LSAs begin, and how many are read at most
abbrev pub first_place : ℕ
first_place = 28

abbrev pub lsa_count : List ℕ → ℕ
lsa_count packet = number_at w32 24 packet

-- the length of the LSA in front: none where the octets are too few for a header or for what it says, or it says less than a header
abbrev pub lsa_len : List ℕ → Option ℕ
lsa_len octets =
    if nat_lt (length octets) lsa_header_len then None
    else if nat_lt (lsa_length octets) lsa_header_len then None
    else if nat_lt (length octets) (lsa_length octets) then None
    else Some (lsa_length octets)

-- LSAs, and whether the octets were too short for a further one that was counted. What follows the last is ignored.
pub record Walked : Type 0 where
  pub lsas : List (List ℕ)
  pub short : Bool

-- at most so many of the LSAs that stand one after another
abbrev pub lsas_at : ℕ → List ℕ → Walked
lsas_at count octets =
    let found = (cut lsa_len octets).0 in
    record { lsas = take count found; short = nat_lt (length found) count }

-- the LSAs of a whole packet
abbrev pub lsas_in : List ℕ → Walked
lsas_in packet = lsas_at (lsa_count packet) (drop first_place packet)
