-- The faults that this crate finds by itself.
use Rattle.std.specs.Prelude.{ℕ}
use Rattle.bgp_fault.specs.declared.Data.{Data}
use Rattle.bgp_fault.specs.declared.Fault.{Fault}
use Rattle.bgp_fault.specs.declared.Data.TheVariants as extra

-- a fault that no octets go with
abbrev pub bare : ℕ → ℕ → Fault
bare code sub = record { code = code; sub = sub; extra = extra.None }

-- a fault of a header (RFC 4271 section 6.1)
abbrev pub header_error : ℕ → Data → Fault
header_error sub extra = record { code = 1; sub = sub; extra = extra }

-- section lengths that pass the message (RFC 4271 section 6.3: Malformed Attribute List)
abbrev pub malformed_sections : Fault
malformed_sections = bare 3 1

-- a malformed prefix (RFC 4271 section 6.3: Invalid Network Field)
abbrev pub malformed_prefix : Fault
malformed_prefix = bare 3 10
