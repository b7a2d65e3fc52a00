-- The octets of a router LSA in closed form: the checksum that makes the sums 0 (RFC 2328 section 12.1.7).
use Rattle.std.specs.Prelude.{ℕ, ◌+◌, ◌-◌, ◌*◌, ◌%◌, ◌==◌, List, length, drop, sum, if◌then◌else◌}
use Rattle.rcp_model.specs.LinkState.{RouterLsa}
use Rattle.rcp_model.specs.RouterLsas.{weighted}
use Rattle.lsa_reader.specs.Writing.{octets_with}

-- the octet from 1 to 255 that has this remainder
abbrev pub nonzero : ℕ → ℕ
nonzero remainder = if remainder == 0 then 255 else remainder

-- the two octets of the checksum of octets that have 0 in its place, which is the fifteenth
unfoldable pub high_of : List ℕ → ℕ
high_of summed = nonzero (((length summed - 15) * (sum summed % 255) + (255 - weighted summed % 255)) % 255)

unfoldable pub low_of : List ℕ → ℕ
low_of summed = nonzero ((510 - sum summed % 255 - high_of summed) % 255)

-- the age isn't summed
abbrev pub summed_of : RouterLsa → List ℕ
summed_of lsa = drop 2 (octets_with 0 0 lsa)

unfoldable pub lsa_octets : RouterLsa → List ℕ
lsa_octets lsa = octets_with (high_of (summed_of lsa)) (low_of (summed_of lsa)) lsa
