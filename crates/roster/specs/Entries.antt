-- The entries of a map from router IDs to BGP Identifiers, as members.
use Rattle.std.specs.Prelude.{ℕ}
use Rattle.rcp_base.specs.declared.names.Member.{Member}

abbrev pub member_of : ℕ × ℕ → Member
member_of entry = record { router = entry.0; bgp_id = entry.1 }

abbrev pub identifier_of : ℕ × ℕ → ℕ
identifier_of entry = entry.1
