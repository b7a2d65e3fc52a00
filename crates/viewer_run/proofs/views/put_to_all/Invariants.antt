use Rattle.std.proofs.Common.{◌≡◌, ◌+◌, length}
use Rattle.std.specs.List.{AllByRecursion}
use Rattle.viewer_run.specs.Viewing.{view_of}
use Rattle.viewer_run.proofs.ViewLemmas.{IsPassing}
use Rattle.viewer_run.proofs.views.put_to_all.Given as goal

abbrev pub invariant-loop-sender : goal.invariant-loop-sender
invariant-loop-sender g l =
    IsPassing (view_of l.igp) l.sender-index l.fn.shards l.shards
    × (l.sender-index + length l.views.items ≡ length l.shards)
    × AllByRecursion (λ view. view.value ≡ view_of l.igp) l.views.items
