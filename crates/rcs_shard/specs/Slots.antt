-- A set of slots as a flag for each member.
use Rattle.std.specs.Prelude.{ℕ, suc, Bool, false, List, [], ◌∷◌, length, slice_get, unwrap_or, if◌then◌else◌, refl}
use Rattle.std.specs.Coded.{Coded, code_by, coded×, coded_ℕ}
use Rattle.std.specs.FinSet as set_of
use Rattle.std.specs.Ordering.{nat_cmp}

-- what contracts see: how many slots there are, and those in the set
pub record SlotsOf : Type 0 where
  pub members : ℕ
  pub inside : set_of.FinSet nat_cmp

abbrev pub slots_code : Coded SlotsOf
slots_code = code_by (ℕ × set_of.FinSet nat_cmp) (coded× coded_ℕ (set_of.code coded_ℕ)) (λ s. (s.members, s.inside)) (λ d. record { members = d.0; inside = d.1 }) (λ _. refl)

abbrev pub has_slot : SlotsOf → ℕ → Bool
has_slot slots slot = set_of.contains slots.inside slot

-- the slots whose flag is set, where the first flag is that of this slot
abbrev pub flagged_from : ℕ → List Bool → List ℕ
flagged_from slot [] = []
flagged_from slot (flag ∷ flags) = if flag then slot ∷ flagged_from (suc slot) flags else flagged_from (suc slot) flags

abbrev pub flag_at : List Bool → ℕ → Bool
flag_at flags slot = unwrap_or (slice_get flags slot) false

abbrev pub slots_in : List Bool → SlotsOf
slots_in flags = record { members = length flags; inside = set_of.from_list (flagged_from 0 flags) }
