use Rattle.std.proofs.Common.{◌≡◌, ℕ, length, map, slice_get, Some}
use Rattle.cost_rows.specs.Views.{ReachOf, IsReach}
use Rattle.cost_rows.proofs.reaches.each_reach.Given as goal

abbrev pub invariant-loop-member : goal.invariant-loop-member
invariant-loop-member l = record {
  count : length (map (λ reach. reach.value) l.reaches.items) ≡ l.member-index;
  right : (slot : ℕ) (reach : ReachOf) → slice_get (map (λ reach. reach.value) l.reaches.items) slot ≡ Some reach → IsReach l.graph l.members slot reach;
}
