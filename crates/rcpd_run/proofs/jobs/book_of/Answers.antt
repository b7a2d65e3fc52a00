use Rattle.std.proofs.Common.{length, ap, arith}
use Rattle.rcpd_run.proofs.NamesLemmas.{offered_on, front_at, rest_on, ends_at, seat_offered}
use Rattle.rcpd_run.proofs.jobs.book_of.Goals as goal

pub loop-slot-preserved : goal.loop-slot-preserved
loop-slot-preserved g c =
    let so_far = c.loop-slot.invariant in
    let front = front_at _ _ _ _ _ c.in-Some.ensures.items so_far.rest in
    record {
      many = omega (arith, ap length c.in-Some.ensures.items, so_far.many);
      rest = rest_on _ _ _ _ _ c.in-Some.ensures.items so_far.rest;
      count = grind (arith, c.in_ok-push.ensures.len, so_far.count);
      offered = offered_on _ _ c.loop-slot.slot _ _ _ so_far.count c.in_ok-push.ensures.items
          (seat_offered _ _ _ c.args.ends.items c.loop-slot.slot c.args.roster.now.shards c.in-Some.seat c.new.result c.requires.named front
          (ends_at c.args.ends.items c.loop-slot.slot c.args.roster.now.shards c.in-Some.seat front c.requires.slots
          (omega (arith, ap length c.in-Some.ensures.items, so_far.many))) c.new.ensures)
          so_far.offered;
    }
