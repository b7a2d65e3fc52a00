-- The attributes of one type, and the flags with which they are sent on (RFC 4271 sections 4.3 and 5).
use Rattle.std.specs.Prelude.{ℕ, ◌==◌, List, filter}
use Rattle.rcp_model.specs.Attributes.{Attribute}

abbrev pub of_type : ℕ → List Attribute → List Attribute
of_type kind list = filter (λ a. a.kind == kind) list

abbrev pub with_flags : ℕ → Attribute → Attribute
with_flags flags a = record a { flags = flags }
