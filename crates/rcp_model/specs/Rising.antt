-- Rising lists of prefixes, each before the later ones.
use Rattle.std.specs.Prelude.{◌≡◌, true, List, [], ◌∷◌}
use Rattle.std.specs.List.{AllByRecursion}
use Rattle.rcp_base.specs.IpPrefix.{IpPrefix}
use Rattle.rcp_base.specs.Maps.{is_before}

-- the prefix is before each of these
abbrev pub IsBelow : IpPrefix → List IpPrefix → Type 0
IsBelow p ps = AllByRecursion (λ q. is_before p q ≡ true) ps

abbrev pub IsRising : List IpPrefix → Type 0
IsRising [] = Unit {0}
IsRising (p ∷ ps) = IsBelow p ps × IsRising ps
