use Rattle.std.proofs.Common.{◌≡◌, Bool, true, false, [], ◌∷◌}
use Rattle.rcp_model.specs.declared.rcs_mail.ShardMail.TheVariants as mail
use Rattle.outbox.proofs.Writing.{writes-none, wrote-nothing}
use Rattle.seats.specs.Seats.{SeatOf}
use Rattle.shard_mail.specs.Puts.{Puts}
use Rattle.shard_mail.proofs.Putting.{puts-none}
use Rattle.session_serve.specs.Deeds.{down_if}
use Rattle.session_serve.proofs.serving.Serving.report_down.Goals as goal

down-is : (up : Bool) (a b : SeatOf) → up ≡ true → Puts (λ shard. mail.Down a.slot ∷ []) a b → Puts (down_if up a.slot) a b
down-is true a b is puts = record { same = puts.same; offers = puts.offers; each = puts.each }
down-is false a b is puts = absurd cc

none-is : (up : Bool) (a : SeatOf) → up ≡ false → Puts (down_if up a.slot) a a
none-is true a is = absurd cc
none-is false a is = let none = puts-none a in record { same = none.same; offers = none.offers; each = none.each }

pub returns-then-not-self-clause-put : goal.returns-then-not-self-clause-put
returns-then-not-self-clause-put g c = none-is c.args.self.now.up c.args.seat.now c.if-not-self.true

pub returns-then-not-self-clause-written : goal.returns-then-not-self-clause-written
returns-then-not-self-clause-written g c = writes-none _ _ _ (wrote-nothing _)

pub returns-clause-put : goal.returns-clause-put
returns-clause-put g c = down-is c.args.self.now.up c.args.seat.now c.put_down.new.seat c.if-not-self.false c.put_down.ensures.put
