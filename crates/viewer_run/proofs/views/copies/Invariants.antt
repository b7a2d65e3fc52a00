use Rattle.std.proofs.Common.{◌≡◌, length}
use Rattle.std.specs.List.{AllByRecursion}
use Rattle.viewer_run.specs.Viewing.{view_of}
use Rattle.viewer_run.proofs.views.copies.Given as goal

abbrev pub invariant-loop-shard : goal.invariant-loop-shard
invariant-loop-shard l = (length l.views.items ≡ l._shard) × AllByRecursion (λ view. view.value ≡ view_of l.igp) l.views.items
