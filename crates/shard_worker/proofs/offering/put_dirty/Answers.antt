use Rattle.std.proofs.Common.{◌≡◌, suc, ◌∷◌, [], length, ap, ◌∙◌, length-append, arith}
use Rattle.rcs_shard.specs.Shards.{ShardOf}
use Rattle.mailbox.specs.Boxes.{sent}
use Rattle.shard_worker.specs.Offers.{dirty_of, offer_at}
use Rattle.shard_worker.specs.Ends.{port_of}
use Rattle.shard_worker.proofs.PortLemmas.{put_next, put_one, put_as, fewer_left}
use Rattle.shard_worker.proofs.offering.put_dirty.Goals as goal

pub loop-p-smaller : goal.loop-p-smaller
loop-p-smaller g c =
    let done = c.in_ok-put_next.ensures.put c.if-not-branch.false in
    let fewer = fewer_left c.loop-p.shard c.args.slot c.in-Some.p c.in-Some.ensures in
    let now = ap (λ (s : ShardOf). length (dirty_of s c.args.slot)) done.2 in
    omega (arith, now, fewer)

pub loop-p-preserved : goal.loop-p-preserved
loop-p-preserved g c =
    let h = c.loop-p.invariant in
    let p = c.in-Some.p in
    let done = c.in_ok-put_next.ensures.put c.if-not-branch.false in
    let same = c.put_next.ensures.same in
    let offer = offer_at c.loop-p.shard c.args.generation c.args.slot p in
    let port : port_of c.put_next.new.sender ≡ put_one (port_of c.loop-p.sender) offer =
    λ i. record { mailbox = same.mailbox i; number = same.number i; room = same.room i; put = done.0 i; refusals = done.1 i } in
    let more = ap length done.0 ∙ length-append (sent c.loop-p.sender) (offer ∷ []) in
    record {
      exact = suc h.exact;
      put = put_as c.args.generation c.args.slot (suc h.exact) c.args.shard.now _ c.put_next.new.shard (port_of c.args.sender.now) _ (port_of c.put_next.new.sender) done.2 port
          (put_next c.args.generation c.args.slot h.exact c.args.shard.now c.loop-p.shard (port_of c.args.sender.now) (port_of c.loop-p.sender) h.put p c.in-Some.ensures);
      more = omega (arith, more, h.more);
      counted_is = omega (arith, h.counted_is, c.saturating_add-count.ensures);
      unrefused = done.1 ∙ h.unrefused;
    }
