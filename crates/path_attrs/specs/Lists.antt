-- Lists of attributes as they are kept: rising types, and together no more octets than an UPDATE has room for.
use Rattle.std.specs.Prelude.{ℕ, ◌+◌, ◌≤◌, Bool, true, ◌&&◌, nat_le, List, [], ◌∷◌, length, IsTrue}
use Rattle.std.specs.List.{flat_map}
use Rattle.rcp_model.specs.Attributes.{Attribute, attribute_octets}

-- whether the types rise strictly, the first of them from low on
abbrev pub types_rise_from : ℕ → List Attribute → Bool
types_rise_from low [] = true
types_rise_from low (a ∷ attributes) = nat_le low a.kind && types_rise_from (a.kind + 1) attributes

abbrev pub types_rise : List Attribute → Bool
types_rise attributes = types_rise_from 0 attributes

-- the octets of attributes, one after another
abbrev pub octets_of : List Attribute → List ℕ
octets_of attributes = flat_map attribute_octets attributes

-- what each list of attributes keeps
pub record IsKept (attributes : List Attribute) : Type 0 where
  pub rising : IsTrue (types_rise attributes)
  pub short : length (octets_of attributes) ≤ 4073
