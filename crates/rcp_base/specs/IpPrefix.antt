-- IP address prefixes (RFC 4271 section 4.3): what each keeps, their order and their octets.
use Rattle.std.specs.Prelude.{◌≡◌, ℕ, ◌+◌, ◌-◌, ◌/◌, ◌%◌, ◌^◌, ◌<◌, ◌≤◌, ◌&&◌, List, [], ◌∷◌, ◌++◌, length, take, replicate, Option, Some, None, nat_le, if◌then◌else◌}
use Rattle.std.specs.Int.{w32, to_be_bytes, from_be_bytes}
use Rattle.std.specs.Ordering.{nat_cmp, ordering_then}
use Rattle.std.specs.declared.cmp.Ordering.{Ordering}

-- an address of 32 bits, and how many of its first bits count
pub record IpPrefix : Type 0 where
  pub addr : ℕ
  pub len : ℕ

-- an address with the bits after the length set to 0
abbrev pub masked : ℕ → ℕ → ℕ
masked addr len = addr - addr % 2 ^ (32 - len)

-- what each prefix keeps
pub record IsPrefix (p : IpPrefix) : Type 0 where
  pub len : p.len ≤ 32
  pub addr : p.addr < 2 ^ 32
  pub rest_is_zero : masked p.addr p.len ≡ p.addr

-- the prefix of an address and a length: none where the length is above 32
abbrev pub prefix_of : ℕ → ℕ → Option IpPrefix
prefix_of addr len = if nat_le len 32 then Some (record { addr = masked addr len; len = len }) else None

-- by address, then by length
abbrev pub prefix_cmp : IpPrefix → IpPrefix → Ordering
prefix_cmp p q = ordering_then (nat_cmp p.addr q.addr) (nat_cmp p.len q.len)

-- the least number of octets that holds so many bits
abbrev pub octets_for : ℕ → ℕ
octets_for bits = (bits + 7) / 8

-- the length in one octet, and the octets of the address that hold so many bits
abbrev pub prefix_octets : IpPrefix → List ℕ
prefix_octets p = p.len ∷ take (octets_for p.len) (to_be_bytes w32 p.addr)

-- an address from its first octets; the others are 0
abbrev pub address_of_octets : List ℕ → ℕ
address_of_octets octets = from_be_bytes w32 (take 4 (octets ++ replicate 4 0))

-- The prefix at the front of the octets and how many octets it takes. None where there is no length,
-- where it is above 32, or where the octets after it are too few. Bits after the length are read as 0.
abbrev pub prefix_at : List ℕ → Option (IpPrefix × ℕ)
prefix_at [] = None
prefix_at (len ∷ rest) =
    if nat_le len 32 && nat_le (octets_for len) (length rest)
    then Some (record { addr = masked (address_of_octets (take (octets_for len) rest)) len; len = len }, 1 + octets_for len)
    else None

-- the shard of a prefix, of so many shards
abbrev pub shard_of_prefix : IpPrefix → ℕ → ℕ
shard_of_prefix p shards = (p.addr / 256 + p.len) % shards
