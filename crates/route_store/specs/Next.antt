-- The least prefix after a given one.
use Rattle.std.specs.Prelude.{◌≡◌, false, Option, Some, None}
use Rattle.std.specs.Ordering.{is_gt}
use Rattle.std.specs.declared.cmp.Ordering.TheVariants.{Less}
use Rattle.rcp_base.specs.IpPrefix.{IpPrefix, prefix_cmp}

-- every prefix is after none
abbrev pub IsAfter : Option IpPrefix → IpPrefix → Type 0
IsAfter None q = Unit {0}
IsAfter (Some p) q = prefix_cmp p q ≡ Less

-- the prefix is one of these, comes after the given one, and none of these that does is below it
pub record IsLeast (These : IpPrefix → Type 0) (after : Option IpPrefix) (p : IpPrefix) : Type 0 where
  pub one : These p
  pub later : IsAfter after p
  pub least : (q : IpPrefix) → IsAfter after q → These q → is_gt (prefix_cmp p q) ≡ false

-- the least of these prefixes after the given one, None where there is none
abbrev pub IsNext : (IpPrefix → Type 0) → Option IpPrefix → Option IpPrefix → Type 0
IsNext These after None = (q : IpPrefix) → IsAfter after q → These q → ⊥
IsNext These after (Some p) = IsLeast These after p
