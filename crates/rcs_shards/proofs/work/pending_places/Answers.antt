use Rattle.std.proofs.Common.{ℕ, ◌+◌, List, Vec, Global, sym, subst, arith}
use Rattle.rcs_shards.specs.Dirty.{ArePending}
use Rattle.rcs_shards.proofs.BusyLemmas.{pending-none, pending-more, pending-skip}
use Rattle.rcs_shards.proofs.work.pending_places.Goals as goal
use Rattle.rcs_shards.proofs.work.pending_places.Goals.{then-pending-gt0+in_ok-push, else-pending-gt0}

pub loop-place-init : goal.loop-place-init
loop-place-init c = subst (λ (l : List ℕ). ArePending c.args.shards.now l 0) (sym c.new-places.ensures.items) (pending-none c.args.shards.now)

pub loop-place-preserved : goal.loop-place-preserved
loop-place-preserved c = elim c.if-pending-gt0.branch [
  | then-pending-gt0+in_ok-push w ↦ subst (λ (v : Vec ℕ Global). ArePending c.args.shards.now v.items (c.loop-place.place + 1)) (sym w.places-is)
      (subst (λ (l : List ℕ). ArePending c.args.shards.now l (c.loop-place.place + 1)) (sym w.in_ok-push.ensures.items)
      (pending-more c.args.shards.now c.loop-place.places.items c.loop-place.place c.loop-place.invariant c.loop-place-test.true))
  | else-pending-gt0 w ↦ subst (λ (v : Vec ℕ Global). ArePending c.args.shards.now v.items (c.loop-place.place + 1)) (sym w.places-is)
      (pending-skip c.args.shards.now c.loop-place.places.items c.loop-place.place c.index-shards-place.result c.loop-place.invariant c.index-shards-place.is c.loop-place-test.true
      (omega (arith, c.pending.ensures, w.if-pending-gt0.false)))
]
