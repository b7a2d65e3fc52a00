-- The checksums that are computed.
use Rattle.std.specs.Prelude.{ℕ, ◌+◌, ◌-◌, ◌*◌, ◌%◌, ◌==◌, List, [], ◌∷◌, length, sum, if◌then◌else◌}
use Rattle.std.specs.Int.{w16, to_be_bytes}
use Rattle.rcp_model.specs.RouterLsas.{weighted}

-- ---- of an LSA (RFC 2328 section 12.1.7, RFC 905 annex B)

-- the octet from 1 to 255 that has this remainder
abbrev pub nonzero : ℕ → ℕ
nonzero remainder = if remainder == 0 then 255 else remainder

-- The two octets that make both sums 0, of an LSA's octets after its age in which they are 0. They are the fifteenth and the
-- sixteenth.
abbrev pub high_of : List ℕ → ℕ
high_of summed = nonzero (((length summed - 15) % 255 * (sum summed % 255) + (255 - weighted summed % 255)) % 255)

abbrev pub low_of : List ℕ → ℕ
low_of summed = nonzero ((510 - sum summed % 255 - high_of summed) % 255)

unfoldable pub lsa_checksum : List ℕ → List ℕ
lsa_checksum summed = high_of summed ∷ low_of summed ∷ []

-- ---- of a packet (RFC 2328 section A.3.1, RFC 1071)

-- the sum of numbers of two octets; an octet without another is the high one
unfoldable pub sum_of_pairs : List ℕ → ℕ
sum_of_pairs [] = 0
sum_of_pairs (high ∷ []) = 256 * high
sum_of_pairs (high ∷ low ∷ octets) = 256 * high + low + sum_of_pairs octets

-- A number as a one's complement number of two octets, whose 0 is 65535 here: its carries are added, which leaves its remainder by 65535.
abbrev pub ones_complement : ℕ → ℕ
ones_complement n = if n % 65535 == 0 then 65535 else n % 65535

-- the complement of the sum
abbrev pub packet_checksum : List ℕ → List ℕ
packet_checksum octets = to_be_bytes w16 (65535 - ones_complement (sum_of_pairs octets))
