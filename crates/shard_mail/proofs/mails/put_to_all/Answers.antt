use Rattle.std.proofs.Common.{◌≡◌, ◌∙◌, ap, subst, arith, length}
use Rattle.outbox.proofs.Writing.{writes-none, wrote-nothing, some-then}
use Rattle.seats.specs.Mails.{Mail}
use Rattle.shard_mail.specs.Puts.{Puts, alone, standing}
use Rattle.shard_mail.proofs.Putting.{below-none, below-more, below-all}
use Rattle.shard_mail.proofs.mails.put_to_all.Goals as goal

pub loop-shard-init : goal.loop-shard-init
loop-shard-init g c = record { put = below-none _ _; written = writes-none _ _ _ (wrote-nothing _) }

pub put_mail-requires : goal.put_mail-requires
put_mail-requires g c = omega (arith, c.loop-shard.invariant.put.same.count, c.loop-shard-test.true, c.shards-shard-end.ensures)

pub loop-shard-preserved : goal.loop-shard-preserved
loop-shard-preserved g c =
    let seat = c.args.seat.now in
    let is : c.standing_mail.result ≡ standing c.args.up seat.slot seat.generation =
    c.standing_mail.ensures ∙ (ap (λ n. standing c.args.up n c.generation-generation.result) c.slot-slot.ensures ∙ ap (standing c.args.up seat.slot) c.generation-generation.ensures) in
    record {
      put = below-more _ _ _ _ _ c.loop-shard.invariant.put (subst (λ (m : Mail). Puts (alone c.loop-shard.shard m) c.loop-shard.seat c.put_mail.new.seat) is c.put_mail.ensures.put);
      written = some-then _ _ _ _ _ _ c.loop-shard.invariant.written c.put_mail.ensures.written;
    }

pub returns-clause-put : goal.returns-clause-put
returns-clause-put g c =
    let seat = c.args.seat.now in
    let all : c.loop-shard.shard ≡ length seat.senders = omega (arith, c.loop-shard.auto.shard-end, c.loop-shard-test.false, c.shards-shard-end.ensures) in
    below-all seat c.loop-shard.seat c.loop-shard.shard (standing c.args.up seat.slot seat.generation) all c.loop-shard.invariant.put
