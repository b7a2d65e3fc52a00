use Rattle.std.proofs.Common.{◌≡◌, ℕ, true, List, [], ◌∷◌, ◌++◌, refl, sym, ap, subst, ◌∙◌, length-append, arith}
use Rattle.mailbox.specs.Boxes.{counted}
use Rattle.shard_worker.specs.Runs.{Letter, after_messages}
use Rattle.shard_worker.specs.Ends.{InboxOf, inbox_of}
use Rattle.shard_worker.specs.Turns.{HasTaken}
use Rattle.shard_worker.proofs.MailLemmas.{taken_more, taken_none, taken_next, message_next, no_messages, since, stopped, filled}
use Rattle.shard_worker.proofs.worker.take_mail.Goals as goal

pub loop-count-init : goal.loop-count-init
loop-count-init g c = record { letters = []; count_is = refl; taken = taken_none (inbox_of c.args.mail.now); done = no_messages c.args.running.now }

pub loop-count-preserved : goal.loop-count-preserved
loop-count-preserved g c =
    let h = c.loop-count.invariant in
    let letter : Letter = (c.in-Some.sender, c.in-Some.message) in
    let same = c.in-Some.ensures.same in
    let more = c.in-Some.ensures.taken in
    let step : inbox_of c.take.new.receiver ≡ taken_more (inbox_of c.loop-count.mail) (letter ∷ []) =
    λ i. record { mailbox = same.0.mailbox i; senders = same.0.senders i; room = same.0.room i; finished = same.1 i; taken = more.0 i; empties = more.1 i } in
    let longer = length-append h.letters (letter ∷ []) in
    record {
      letters = h.letters ++ letter ∷ [];
      count_is = omega (arith, longer, h.count_is);
      taken = taken_next (inbox_of c.args.mail.now) (inbox_of c.loop-count.mail) (inbox_of c.take.new.receiver) h.letters letter h.taken step;
      done = message_next h.letters letter c.args.running.now c.loop-count.running c.take-in-Some.new.self h.done c.in_ok-take-in-Some.ensures.done;
    }

pub returns-in-None-clause-taken : goal.returns-in-None-clause-taken
returns-in-None-clause-taken g c =
    let h = c.loop-count.invariant in
    let same = c.in-None.ensures.same in
    let none = c.in-None.ensures.none in
    let step : inbox_of c.take.new.receiver ≡ record (inbox_of c.loop-count.mail) { empties = counted (inbox_of c.loop-count.mail).empties } =
    λ i. record { mailbox = same.0.mailbox i; senders = same.0.senders i; room = same.0.room i; finished = same.1 i; taken = none.0 i; empties = none.1 i } in
    subst (λ (n : ℕ). HasTaken c.args.budget n true (inbox_of c.args.mail.now) (inbox_of c.take.new.receiver)) h.count_is
    (stopped c.args.budget (inbox_of c.args.mail.now) (inbox_of c.take.new.receiver) h.letters (step ∙ ap (λ (m : InboxOf). record m { empties = counted m.empties }) h.taken)
    (omega (arith, h.count_is, c.loop-count-test.true)))

pub returns-in-None-clause-done : goal.returns-in-None-clause-done
returns-in-None-clause-done g c =
    let h = c.loop-count.invariant in
    let all = since (inbox_of c.args.mail.now) (inbox_of c.take.new.receiver) h.letters (c.in-None.ensures.none.0 ∙ ap (λ (m : InboxOf). m.taken) h.taken) in
    h.done ∙ ap (λ (letters : List Letter). after_messages letters c.args.running.now) (sym all)

pub returns-clause-taken : goal.returns-clause-taken
returns-clause-taken g c =
    let h = c.loop-count.invariant in
    filled c.args.budget (inbox_of c.args.mail.now) (inbox_of c.loop-count.mail) h.letters h.taken (omega (arith, h.count_is, c.loop-count-test.false, c.loop-count.auto.count-end))

pub returns-clause-done : goal.returns-clause-done
returns-clause-done g c =
    let h = c.loop-count.invariant in
    let all = since (inbox_of c.args.mail.now) (inbox_of c.loop-count.mail) h.letters (ap (λ (m : InboxOf). m.taken) h.taken) in
    h.done ∙ ap (λ (letters : List Letter). after_messages letters c.args.running.now) (sym all)
