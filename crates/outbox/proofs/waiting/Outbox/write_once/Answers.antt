use Rattle.std.proofs.Common.{◌≡◌, ◌∙◌, ap, sym, refl, drop, arith, length, false}
use Rattle.std.proofs.lemmas.Bool.Decides.{nat_tests}
use Rattle.outside.specs.Told.{behind-nil}
use Rattle.outbox.proofs.Writing.{writes-none, wrote-nothing, took, took_all, took_none, raised-or-not}
use Rattle.outbox.proofs.waiting.Outbox.write_once.Goals as goal

pub returns-in_default-clause-written : goal.returns-in_default-clause-written
returns-in_default-clause-written g c = writes-none c.args.self.now _ _ (wrote-nothing _)

pub returns-then-is_empty-clause-written : goal.returns-then-is_empty-clause-written
returns-then-is_empty-clause-written g c =
    let s = c.self.inside in
    let left = c.split_at.ensures.back ∙ ap (drop s.written) c.deref.ensures.value in
    let none : length c.split_at.result.1.now ≡ 0 = grind (arith, nat_tests) in
    took_all (λ m. m.items) s.waiting.items c.in-Some.message.now (omega (arith, c.in-Some.ensures.item)) c.in-Some.ensures.lookup s.written c.self.invariant _ _ c.split_at.result.1.now s.to_last_update s.updates s.failed _
    c.self.view_is c.next_message.ensures left none

pub returns-in-Ok-clause-written : goal.returns-in-Ok-clause-written
returns-in-Ok-clause-written g c =
    let s = c.self.inside in
    let e = c.in-Ok.ensures in
    let left = c.split_at.ensures.back ∙ ap (drop s.written) c.deref.ensures.value in
    took (λ m. m.items) s.waiting.items c.in-Some.message.now (omega (arith, c.in-Some.ensures.item)) c.in-Some.ensures.lookup s.written c.self.invariant _ c.split_at.result.1.now c.in-Ok.count s.to_last_update s.updates s.failed _ _
    c.self.view_is left e.within
    (record {
      taken = e.front;
      given = e.given;
      closed = e.closed;
      ends = e.ends;
      risen = record { faults = omega (arith, e.never_falls); ends = omega (arith, e.ends); empties = raised-or-not _ _ _ e.empties };
    })

pub returns-in-Err-clause-written : goal.returns-in-Err-clause-written
returns-in-Err-clause-written g c =
    let e = c.in-Err.ensures in
    took_none _ _ _ _ _ c.self.view_is refl
    (record {
      taken = e.failed ∙ sym (behind-nil _);
      given = e.given;
      closed = e.closed;
      ends = e.ends;
      risen = record { faults = omega (arith, e.never_falls); ends = omega (arith, e.ends); empties = raised-or-not false _ _ e.empties };
    })
    e.cause
