-- The prefixes that are opened, and those of them that are marked, as a map keeps them.
use Rattle.std.specs.Prelude.{◌≡◌, ℕ, Bool, true, false, List, Option, unwrap_or, option_map, find, MatchOption, refl}
use Rattle.std.specs.BTreeMap as tree
use Rattle.std.specs.BTreeMap.{BTreeMap, IsOrdered}
use Rattle.std.specs.Coded.{Coded, code_by, coded×}
use Rattle.std.specs.FinSet as set_of
use Rattle.std.specs.BTreeMap.Range.{entries_between}
use Rattle.std.specs.Map.{keys_of}
use Rattle.std.specs.declared.ops.Bound.TheVariants.{Included, Unbounded}
use Rattle.std.specs.declared.cmp.Ordering.TheVariants.{Less}
use Rattle.rcp_base.specs.IpPrefix.{IpPrefix, prefix_cmp}
use Rattle.rcp_model.specs.Ribs.{prefix_code}

-- what contracts see: the opened prefixes, and those that are marked
pub record MarksOf : Type 0 where
  pub opened : set_of.FinSet prefix_cmp
  pub marked : set_of.FinSet prefix_cmp

abbrev pub marks_code : Coded MarksOf
marks_code =
    code_by (set_of.FinSet prefix_cmp × set_of.FinSet prefix_cmp) (coded× (set_of.code prefix_code) (set_of.code prefix_code))
    (λ m. (m.opened, m.marked)) (λ d. record { opened = d.0; marked = d.1 }) (λ _. refl)

abbrev pub no_marks : MarksOf
no_marks = record { opened = set_of.empty; marked = set_of.empty }

abbrev pub is_opened : MarksOf → IpPrefix → Bool
is_opened m p = set_of.contains m.opened p

abbrev pub is_marked : MarksOf → IpPrefix → Bool
is_marked m p = set_of.contains m.marked p

-- ---- how they are kept

-- whether each opened prefix is marked
abbrev pub Flags : Type 0
Flags = BTreeMap IpPrefix Bool

abbrev pub flag_of : Flags → IpPrefix → Bool
flag_of flags p = unwrap_or (tree.get prefix_cmp flags p) false

abbrev pub Flag : Type 0
Flag = IpPrefix × Bool

-- the first prefix from this one on whose flag is set
abbrev pub flags_from : IpPrefix → List Flag → List Flag
flags_from low flags = entries_between prefix_cmp (Included low) Unbounded flags

abbrev pub first_in : IpPrefix → List Flag → Option IpPrefix
first_in low flags = option_map (λ (flag : Flag). flag.0) (find (λ (flag : Flag). flag.1) (flags_from low flags))

abbrev pub opened_in : Flags → set_of.FinSet prefix_cmp
opened_in flags = set_of.from_list (keys_of flags.entries)

abbrev pub marked_in : Flags → set_of.FinSet prefix_cmp
marked_in flags = set_of.retain (opened_in flags) (flag_of flags)

-- no marked prefix is below this one, and none is marked where there is none
abbrev pub IsBelowAll : Option IpPrefix → Flags → Type 0
IsBelowAll low flags =
    (p : IpPrefix) → flag_of flags p ≡ true → MatchOption low ⊥ (λ l. prefix_cmp p l ≡ Less → ⊥)

-- what the marks keep
pub record AreMarks (flags : Flags) (count : ℕ) (low : Option IpPrefix) : Type 0 where
  pub ordered : IsOrdered prefix_cmp flags
  pub counted : count ≡ set_of.len (marked_in flags)
  pub below : IsBelowAll low flags
