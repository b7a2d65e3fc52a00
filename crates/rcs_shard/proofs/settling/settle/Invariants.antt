use Rattle.std.proofs.Common.{◌≡◌, ltb, ◌&&◌, length}
use Rattle.rcs_shard.specs.Slots.{has_slot}
use Rattle.rcs_shard.specs.Settling.{class_at, offers_at, Settles}
use Rattle.rcs_shard.proofs.settling.settle.Given as goal

abbrev pub invariant-loop-class : goal.invariant-loop-class
invariant-loop-class l = record {
  list_is : length l.list ≡ length l.view.members;
  from_is : length l.from ≡ length l.view.members;
  marks_is : length l.marks ≡ length l.view.members;
  slots_is : length l.slots ≡ length l.view.members;
  settled : Settles l.fn.p (offers_at l.fn.ribs l.view l.fn.p)
      (λ s. (ltb s (length l.view.members) && ltb (class_at l.classes s) l.class) && has_slot l.connected s) l.fn.ribs l.ribs;
}
