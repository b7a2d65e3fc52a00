-- What is read of a header (RFC 4271 section 4.1).
use Rattle.std.specs.Prelude.{◌≡◌, ◌≤◌, ℕ, List}
use Rattle.std.specs.Int.{w16, to_be_bytes}
use Rattle.rcp_model.specs.Messages.{type_field, length_field, length_octets}

-- the fields of the header in front, and the octets of its length
pub record IsHeader (octets : List ℕ) (kind len : ℕ) : Type 0 where
  pub kind_is : kind ≡ type_field octets
  pub len_is : len ≡ length_field octets
  pub spelled : to_be_bytes w16 len ≡ length_octets octets

-- a message of this type may have so many octets (sections 4.1 to 4.5)
pub record IsLengthOf (kind len : ℕ) : Type 0 where
  pub known : (1 ≤ kind) × (kind ≤ 4)
  pub least : 19 ≤ len
  pub most : len ≤ 4096
  pub opening : kind ≡ 1 → 29 ≤ len
  pub update : kind ≡ 2 → 23 ≤ len
  pub notification : kind ≡ 3 → 21 ≤ len
  pub keepalive : kind ≡ 4 → len ≡ 19
