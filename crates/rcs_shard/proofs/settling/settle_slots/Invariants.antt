use Rattle.std.proofs.Common.{ltb, ◌&&◌}
use Rattle.rcs_shard.specs.Slots.{has_slot}
use Rattle.rcs_shard.specs.Settling.{offers_at, is_in_class, Settles}
use Rattle.rcs_shard.proofs.settling.settle_slots.Given as goal

abbrev pub invariant-loop-slot : goal.invariant-loop-slot
invariant-loop-slot l =
    Settles l.fn.p (offers_at l.fn.ribs l.view l.fn.p) (λ s. ltb s l.slot && (is_in_class l.classes l.class s && has_slot l.connected s)) l.fn.ribs l.ribs
