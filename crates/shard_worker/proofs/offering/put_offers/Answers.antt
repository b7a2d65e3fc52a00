use Rattle.std.proofs.Common.{◌+◌, ◌-◌, ◌<◌, get_or, length, ap, arith}
use Rattle.shard_worker.specs.Ends.{port_of}
use Rattle.shard_worker.proofs.OfferingLemmas.{offering_all, sender_step, sender_stops, sender_counts, stops_all}
use Rattle.shard_worker.proofs.offering.put_offers.Goals as goal

pub returns-in_err-offer-clause-offered : goal.returns-in_err-offer-clause-offered
returns-in_err-offer-clause-offered g c =
    let below : c.loop-slot.slot < length c.args.running.now.shard.members = omega (arith, c.loop-slot.invariant.3, c.loop-slot-test.true) in
    offering_all (c.loop-slot.slot + 1) c.args.running.now c.offer.new.self _ _
    (sender_step c.loop-slot.slot c.from.result c.args.running.now c.loop-slot.running c.offer.new.self c.args.senders.now c.loop-slot.senders (get_or c.loop-slot.senders c.from.result c.index-senders-from.result) c.offer.new.sender
    c.loop-slot.invariant.0 c.from.ensures (ap (get_or c.loop-slot.senders c.from.result) c.index-senders-from.is) below c.requires c.offer.ensures.generations c.offer.ensures.put)

pub loop-slot-preserved : goal.loop-slot-preserved
loop-slot-preserved g c =
    let h = c.loop-slot.invariant in
    let below : c.loop-slot.slot < length c.args.running.now.shard.members = omega (arith, h.3, c.loop-slot-test.true) in
    let more = sender_counts c.loop-slot.slot c.from.result c.args.running.now c.loop-slot.running c.offer.new.self c.args.senders.now c.loop-slot.senders (get_or c.loop-slot.senders c.from.result c.index-senders-from.result) c.offer.new.sender
    h.0 c.from.ensures (ap (get_or c.loop-slot.senders c.from.result) c.index-senders-from.is) below c.requires c.offer.ensures.generations c.offer.ensures.put in (
      sender_step c.loop-slot.slot c.from.result c.args.running.now c.loop-slot.running c.offer.new.self c.args.senders.now c.loop-slot.senders (get_or c.loop-slot.senders c.from.result c.index-senders-from.result) c.offer.new.sender
          h.0 c.from.ensures (ap (get_or c.loop-slot.senders c.from.result) c.index-senders-from.is) below c.requires c.offer.ensures.generations c.offer.ensures.put,
      sender_stops c.loop-slot.slot c.from.result c.args.running.now c.loop-slot.running c.offer.new.self c.args.senders.now c.loop-slot.senders (get_or c.loop-slot.senders c.from.result c.index-senders-from.result) c.offer.new.sender
          h.0 c.from.ensures (ap (get_or c.loop-slot.senders c.from.result) c.index-senders-from.is) below c.requires c.offer.ensures.generations c.offer.ensures.put h.1 c.in_ok-offer.ensures.full,
      record {
        exact = h.2.exact + (length (port_of c.offer.new.sender).put - length (port_of (get_or c.loop-slot.senders c.from.result c.index-senders-from.result)).put);
        more = omega (arith, more, h.2.more);
        counted_is = omega (arith, h.2.counted_is, c.in_ok-offer.ensures.count, c.saturating_add-count.ensures);
      },
      h.3,
    )

pub returns-clause-full : goal.returns-clause-full
returns-clause-full g c =
    stops_all c.loop-slot.slot c.loop-slot.running.shard c.args.senders.now _ (omega (arith, c.loop-slot.invariant.3, c.loop-slot-test.false, c.requires)) c.loop-slot.invariant.1
