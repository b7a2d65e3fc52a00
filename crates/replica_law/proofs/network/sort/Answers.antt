use Rattle.std.proofs.Common.{eqb, Contains, subst}
use Rattle.std.proofs.lemmas.List.Filters.{dedup_is}
use Rattle.std.proofs.lemmas.List.Kept.{Contains-dedup_nat, Contains-from_dedup}
use Rattle.std.proofs.lemmas.List.Sorted.{Contains-permutation, IsPermutation-sym}
use Rattle.std.proofs.lemmas.Map.Keys.{IsStrictlyIncreasing-dedup}
use Rattle.replica_law.proofs.network.sort.Goals as goal

pub returns-clause-rising : goal.returns-clause-rising
returns-clause-rising c =
    rw (dedup_is eqb c.sort_unstable.new.self.items c.dedup.new.self.items c.dedup.ensures.filtered) (IsStrictlyIncreasing-dedup c.sort_unstable.new.self.items c.sort_unstable.ensures.sorted)

pub returns-clause-kept : goal.returns-clause-kept
returns-clause-kept c = λ name member.
    rw (dedup_is eqb c.sort_unstable.new.self.items c.dedup.new.self.items c.dedup.ensures.filtered)
    (Contains-dedup_nat c.sort_unstable.new.self.items name (Contains-permutation c.args.routers.now.items c.sort_unstable.new.self.items name c.sort_unstable.ensures.permutation member))

pub returns-clause-no_other : goal.returns-clause-no_other
returns-clause-no_other c = λ name member.
    Contains-permutation c.sort_unstable.new.self.items c.args.routers.now.items name (IsPermutation-sym c.args.routers.now.items c.sort_unstable.new.self.items c.sort_unstable.ensures.permutation)
    (Contains-from_dedup eqb c.sort_unstable.new.self.items name
    (subst (λ names. Contains names name) (dedup_is eqb c.sort_unstable.new.self.items c.dedup.new.self.items c.dedup.ensures.filtered) member))
