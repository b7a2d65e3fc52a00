use Rattle.std.proofs.Common.{Contains, subst}
use Rattle.std.proofs.lemmas.List.Filters.{dedup_is}
use Rattle.std.proofs.lemmas.List.Kept.{Contains-from_dedup}
use Rattle.std.proofs.lemmas.List.Sorted.{Contains-permutation, IsPermutation-sym}
use Rattle.lsdb.proofs.Sorting.{equal_edge, rising-sorted, dedup-member}
use Rattle.replica_law.proofs.partitions.sort.Goals as goal

pub returns-clause-rising : goal.returns-clause-rising
returns-clause-rising c =
    rw (dedup_is equal_edge c.sort_unstable.new.self.items c.dedup.new.self.items c.dedup.ensures.filtered) (rising-sorted c.sort_unstable.new.self.items c.sort_unstable.ensures.sorted)

pub returns-clause-kept : goal.returns-clause-kept
returns-clause-kept c = λ edge member.
    rw (dedup_is equal_edge c.sort_unstable.new.self.items c.dedup.new.self.items c.dedup.ensures.filtered)
    (dedup-member c.sort_unstable.new.self.items edge (Contains-permutation c.args.edges.now.items c.sort_unstable.new.self.items edge c.sort_unstable.ensures.permutation member))

pub returns-clause-no_other : goal.returns-clause-no_other
returns-clause-no_other c = λ edge member.
    Contains-permutation c.sort_unstable.new.self.items c.args.edges.now.items edge (IsPermutation-sym c.args.edges.now.items c.sort_unstable.new.self.items c.sort_unstable.ensures.permutation)
    (Contains-from_dedup equal_edge c.sort_unstable.new.self.items edge
    (subst (λ edges. Contains edges edge) (dedup_is equal_edge c.sort_unstable.new.self.items c.dedup.new.self.items c.dedup.ensures.filtered) member))
