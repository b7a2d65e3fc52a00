-- The least of prefixes.
use Rattle.std.specs.Prelude.{◌≡◌, ℕ, List, slice_get, Option, Some, None, if◌then◌else◌}
use Rattle.rcp_base.specs.IpPrefix.{IpPrefix}
use Rattle.rcp_base.specs.Maps.{is_before}

-- the lesser of two, or the one that there is
abbrev pub lesser_of : Option IpPrefix → Option IpPrefix → Option IpPrefix
lesser_of None b = b
lesser_of (Some p) None = Some p
lesser_of (Some p) (Some q) = if is_before q p then Some q else Some p

-- some element has the prefix
abbrev pub HasSome : {S : Type 0} → (S → IpPrefix → Type 0) → List S → IpPrefix → Type 0
HasSome {S} Has list p = (n : ℕ) × (s : S) × (slice_get list n ≡ Some s) × Has s p
