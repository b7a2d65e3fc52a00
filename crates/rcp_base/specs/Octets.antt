-- Octets: numbers below 256, and the numbers that stand among them.
use Rattle.std.specs.Prelude.{ℕ, ◌<◌, List, All, take, drop}
use Rattle.std.specs.Int.{Width, byte_len, from_be_bytes}

abbrev pub AreOctets : List ℕ → Type 0
AreOctets octets = All (λ o. o < 256) octets

-- the number that stands at a place, in network byte order
abbrev pub number_at : Width → ℕ → List ℕ → ℕ
number_at w place octets = from_be_bytes w (take (byte_len w) (drop place octets))
