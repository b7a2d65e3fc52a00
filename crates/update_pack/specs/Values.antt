-- What clauses see of attribute octets that are borrowed.
use Rattle.std.specs.Prelude.{ℕ, List, [], length, map, slice_index_or, Option, Some, None, option_map}
use denote.Ref.{Bor}

-- the value of a cell: its attribute octets, or none where it is withdrawn
abbrev pub value_in : Option (Bor (List ℕ)) → Option (List ℕ)
value_in attrs = option_map (λ octets. octets.now) attrs

-- how many attribute octets it has
abbrev pub octet_count : Option (List ℕ) → ℕ
octet_count None = 0
octet_count (Some octets) = length octets

-- the octets of a number
abbrev pub octets_at : List (Bor (List ℕ)) → ℕ → List ℕ
octets_at octets n = slice_index_or (map (λ o. o.now) octets) n []
