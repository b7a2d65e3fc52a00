-- The faults that a BGP speaker reports in a NOTIFICATION (RFC 4271, sections 4.5 and 6).
use Rattle.std.specs.Prelude.{ℕ, ◌+◌, ◌≤◌, List, [], ◌∷◌, length, take, drop}
use Rattle.std.specs.Int.{w16, to_be_bytes}
use Rattle.bgp_fault.specs.declared.Data.{Data}
use Rattle.bgp_fault.specs.declared.Data.TheVariants as extra

-- the code and subcode of each
abbrev pub fault_rows : List (ℕ × ℕ)
fault_rows =
    (1, 1) ∷ (1, 2) ∷ (1, 3)
    ∷ (2, 0) ∷ (2, 1) ∷ (2, 2) ∷ (2, 3) ∷ (2, 4) ∷ (2, 6)
    ∷ (3, 1) ∷ (3, 2) ∷ (3, 3) ∷ (3, 4) ∷ (3, 5) ∷ (3, 6) ∷ (3, 8) ∷ (3, 9) ∷ (3, 10) ∷ (3, 11)
    ∷ (4, 0) ∷ (5, 0) ∷ (6, 0) ∷ []

-- The fewest and the most octets of data of each, in that order: a length field or a version has 2, a type 1, and an attribute 3 at
-- least and 4,073 at most, which is what an UPDATE of 4,096 octets has room for.
abbrev pub fault_sizes : List (ℕ × ℕ)
fault_sizes =
    (0, 0) ∷ (2, 2) ∷ (1, 1)
    ∷ (0, 0) ∷ (2, 2) ∷ (0, 0) ∷ (0, 0) ∷ (0, 0) ∷ (0, 0)
    ∷ (0, 0) ∷ (3, 4073) ∷ (1, 1) ∷ (3, 4073) ∷ (3, 4073) ∷ (3, 4073) ∷ (3, 4073) ∷ (3, 4073) ∷ (0, 0) ∷ (0, 0)
    ∷ (0, 0) ∷ (0, 0) ∷ (0, 0) ∷ []

-- the octets that the data of a fault is, a span naming octets of `body`
abbrev pub data_octets : List ℕ → Data → List ℕ
data_octets body extra.None = []
data_octets body (extra.Octet n) = n ∷ []
data_octets body (extra.Pair n) = to_be_bytes w16 n
data_octets body (extra.Span start len) = take len (drop start body)

-- a span names octets that `body` has
abbrev pub IsWithin : List ℕ → Data → Type 0
IsWithin body (extra.Span start len) = start + len ≤ length body
IsWithin body extra.None = Unit {0}
IsWithin body (extra.Octet n) = Unit {0}
IsWithin body (extra.Pair n) = Unit {0}
