use Rattle.std.proofs.Common.{◌≡◌, ◌∙◌, ◌<◌, ◌++◌, length, refl, sym, ap, subst, arith}
use Rattle.outbox.proofs.Writing.{writes-none, wrote-nothing, some-then}
use Rattle.seats.specs.Mails.{Mail}
use Rattle.seats.specs.Seats.{SeatOf, put_to}
use Rattle.shard_mail.specs.Puts.{Puts, alone}
use Rattle.shard_mail.proofs.Putting.{none, puts-none, puts-then, puts-as, puts-one, puts-refused}
use Rattle.shard_mail.proofs.mails.put_mail.Goals as goal

pub loop-init : goal.loop-init
loop-init g c = record { waits = refl; put = puts-none _; written = writes-none _ _ _ (wrote-nothing _) }

pub put-requires : goal.put-requires
put-requires g c = omega (arith, c.loop.invariant.put.same.count, c.requires)

pub loop-preserved : goal.loop-preserved
loop-preserved g c =
    let here : c.args.shard < length c.loop.seat.senders = omega (arith, c.loop.invariant.put.same.count, c.requires) in
    record {
      waits = c.in-Err.ensures.full.0 ∙ c.loop.invariant.waits;
      put = puts-then none none _ _ _ c.loop.invariant.put
          (subst (λ (s : SeatOf). Puts none c.loop.seat s) (sym c.in-Err.ensures.full.1) (puts-refused c.loop.seat c.args.shard here));
      written = some-then _ _ _ _ _ _ c.loop.invariant.written c.rest_and_write.ensures.written;
    }

pub returns-in-Ok-clause-put : goal.returns-in-Ok-clause-put
returns-in-Ok-clause-put g c =
    let here : c.args.shard < length c.loop.seat.senders = omega (arith, c.loop.invariant.put.same.count, c.requires) in
    let is : c.put.new.self ≡ put_to c.args.shard c.args.mail c.loop.seat = c.in-Ok.ensures.put ∙ ap (λ (m : Mail). put_to c.args.shard m c.loop.seat) c.loop.invariant.waits in
    puts-as (λ shard. none shard ++ alone c.args.shard c.args.mail shard) (alone c.args.shard c.args.mail) _ _ (λ shard within. refl)
    (puts-then none (alone c.args.shard c.args.mail) _ _ _ c.loop.invariant.put
    (subst (λ (s : SeatOf). Puts (alone c.args.shard c.args.mail) c.loop.seat s) (sym is) (puts-one c.loop.seat c.args.shard c.args.mail here)))
