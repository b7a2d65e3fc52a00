-- Standings: by what candidates are sorted, so that those which go before others by the filters come first.
use Rattle.std.specs.Prelude.{◌≡◌, ℕ, Bool, false, ◌==◌, ◌&&◌, ◌||◌, List, AllPairs, nat_lt}
use Rattle.std.specs.declared.cmp.Reverse.{Reverse}
use Rattle.rcp_model.specs.Decision.{Contender}

abbrev pub Standing : Type 0
Standing = Reverse ℕ × ℕ × ℕ × ℕ × ℕ

-- what the filters compare, in the order of the steps
abbrev pub standing : Contender → Standing
standing a = (record { 0 = a.pref }, a.hops, a.origin, a.neighbour, a.med)

-- the higher preference, then the shorter path, the lower origin, the lower neighbour and the lower exit
abbrev pub stands_before : Contender → Contender → Bool
stands_before b a =
    nat_lt a.pref b.pref || b.pref == a.pref && (
    nat_lt b.hops a.hops || b.hops == a.hops && (
    nat_lt b.origin a.origin || b.origin == a.origin && (
    nat_lt b.neighbour a.neighbour || b.neighbour == a.neighbour && nat_lt b.med a.med)))

-- none stands before an earlier one
abbrev pub AreRanked : List Contender → Type 0
AreRanked list = AllPairs (λ a b. stands_before b a ≡ false) list
