-- How router LSAs are written (RFC 2328 sections 12.1.7, A.4.1 and A.4.2).
use Rattle.std.specs.Prelude.{◌≡◌, ℕ, ◌+◌, ◌*◌, ◌<◌, ◌^◌, true, List, [], ◌∷◌, ◌++◌, length, FitsSigned}
use Rattle.std.specs.List.{flat_map, AllByRecursion}
use Rattle.std.specs.Int.{w16, w32, to_be_bytes, cast_unsigned}
use Rattle.rcp_model.specs.LinkState.{RouterLink, RouterLsa}
use Rattle.rcp_model.specs.RouterLsas.{before_links, has_zero_sums, summed}

-- a link with no data and no TOS metric
abbrev pub link_octets : RouterLink → List ℕ
link_octets link = to_be_bytes w32 link.id ++ (0 ∷ 0 ∷ 0 ∷ 0 ∷ link.kind ∷ 0 ∷ []) ++ to_be_bytes w16 link.metric

abbrev pub written_len : RouterLsa → ℕ
written_len lsa = before_links + 12 * length lsa.content

-- what stands before the links, with these octets in the place of the checksum: options 2, type 1, no flags
abbrev pub header_octets : ℕ → ℕ → RouterLsa → List ℕ
header_octets high low lsa =
    to_be_bytes w16 lsa.header.age ++ (2 ∷ 1 ∷ [])
    ++ to_be_bytes w32 lsa.key ++ to_be_bytes w32 lsa.key
    ++ to_be_bytes w32 (cast_unsigned w32 lsa.header.sequence)
    ++ (high ∷ low ∷ []) ++ to_be_bytes w16 (written_len lsa)
    ++ (0 ∷ 0 ∷ []) ++ to_be_bytes w16 (length lsa.content)

abbrev pub octets_with : ℕ → ℕ → RouterLsa → List ℕ
octets_with high low lsa = header_octets high low lsa ++ flat_map link_octets lsa.content

-- The octets are those of the LSA, with the checksum that makes the sums 0, each of its two octets from 1 to 255. The LSA's own checksum is unread.
pub record Spells (lsa : RouterLsa) (octets : List ℕ) : Type 0 where
  pub high : ℕ
  pub low : ℕ
  pub high_range : (0 < high) × (high < 256)
  pub low_range : (0 < low) × (low < 256)
  pub spelled : octets ≡ octets_with high low lsa
  pub sums : has_zero_sums (summed octets) ≡ true

-- what has a spelling

pub record FitsLink (link : RouterLink) : Type 0 where
  pub id : link.id < 2 ^ 32
  pub kind : link.kind < 256
  pub metric : link.metric < 2 ^ 16

pub record FitsLsa (lsa : RouterLsa) : Type 0 where
  pub key : lsa.key < 2 ^ 32
  pub age : lsa.header.age < 2 ^ 16
  pub sequence : FitsSigned w32 lsa.header.sequence
  pub few : written_len lsa < 2 ^ 16
  pub content : AllByRecursion FitsLink lsa.content

-- the LSA with another checksum
abbrev pub with_checksum : ℕ → RouterLsa → RouterLsa
with_checksum checksum lsa = record lsa { header = record lsa.header { checksum = checksum } }
