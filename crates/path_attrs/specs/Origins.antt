-- The octet of each ORIGIN (RFC 4271 section 4.3).
use Rattle.std.specs.Prelude.{ℕ}
use Rattle.path_attrs.specs.declared.origin.Origin.{Origin}
use Rattle.path_attrs.specs.declared.origin.Origin.TheVariants.{Igp, Egp, Incomplete}

abbrev pub origin_octet : Origin → ℕ
origin_octet Igp = 0
origin_octet Egp = 1
origin_octet Incomplete = 2
