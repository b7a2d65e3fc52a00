-- What each step adds to what a greeting has done.
use Rattle.std.proofs.Common.{◌≡◌, ℕ, ◌+◌, Bool, true, false, ◌⊎◌, inl, inr, List, [], ◌∷◌, ◌++◌, Option, None, Some, Result, Ok, Err, refl, sym, ap, ◌∙◌, append_assoc, append-nil, arith}
use Rattle.std.specs.Prelude.{IsTrue}
use Rattle.std.specs.List.{concat, AllByRecursion}
use Rattle.std.proofs.lemmas.List.Folds.{concat-append}
use Rattle.rcp_model.specs.Sessions.{SessionState, Ending, ending, Faulted, Received, Doing, Answer, Input, later_of, then_also, begun, answer}
use Rattle.rcp_model.proofs.SessionLemmas.{later_of-none, then-assoc}
use Rattle.session_core.specs.Held.{Held}
use Rattle.session_core.specs.Counts.{handled_at}
use Rattle.session_times.specs.Times.{IsTimely}
use Rattle.outside.specs.Told.{behind, behind-append, behind-nil, Rose}
use Rattle.outbox.specs.Wires.{WireOf, HasRisen, HasNotFallen}
use Rattle.outbox.specs.Outs.{OutOf, Writes, front, counted_on}
use Rattle.outbox.proofs.Writing.{risen-then, rose-then, then-rose}
use Rattle.session_serve.specs.declared.ends.EndWhy.{EndWhy}
use Rattle.session_serve.specs.declared.ends.EndWhy.TheVariants as why
use Rattle.session_serve.specs.Deeds.{octets_in}
use Rattle.session_serve.specs.Ended.{Closes}
use Rattle.session_serve.proofs.PieceLemmas.{octets-append, answers-more, handled-more}
use Rattle.session_run.specs.Greeted.{Exchange, greeted, does_in, handled_in_exchange, IsComplete}
use Rattle.session_run.specs.Greeting.{Given, Now, Met, Greets, Parts, GreetsOn, Queues}

failed-by : (failed : Bool) (before middle after : ℕ) → HasNotFallen before middle → (failed ≡ true) ⊎ Rose middle after → (failed ≡ true → Rose before middle) → HasNotFallen middle after → Rose before after
failed-by failed before middle after risen (inl was) so_far later = rose-then before middle after (so_far was) later
failed-by failed before middle after risen (inr rose) so_far later = then-rose before middle after risen rose

-- ---- writes

pub met-writes : (given : Given) (x : Exchange) (now : Now) (gone : List (List ℕ)) (octets : List ℕ) (out : OutOf) (wire : WireOf) → Writes gone octets now.out out now.wire wire
    → Met given x now → Met given (record x { gone = x.gone ++ gone }) (record now { out = out; wire = wire })
met-writes given x now gone octets out wire writes met = record {
  exchanged = record {
    started = met.exchanged.started;
    timely = met.exchanged.timely;
    read = writes.wrote.given ∙ met.exchanged.read;
    queue =
        met.exchanged.queue
        ∙ ap (λ (ms : List (List ℕ)). x.gone ++ (ms ++ x.unqueued)) writes.messages
        ∙ ap (λ (ms : List (List ℕ)). x.gone ++ ms) (append_assoc gone out.waiting x.unqueued)
        ∙ sym (append_assoc x.gone gone (out.waiting ++ x.unqueued));
    taken =
        writes.wrote.taken
        ∙ ap (λ t. behind t octets) met.exchanged.taken
        ∙ behind-append given.wire.taken (concat x.gone ++ front now.out) octets
        ∙ ap (behind given.wire.taken) (
        append_assoc (concat x.gone) (front now.out) octets
        ∙ ap (λ (xs : List ℕ). concat x.gone ++ xs) writes.stream
        ∙ sym (append_assoc (concat x.gone) (concat gone) (front out))
        ∙ ap (λ (xs : List ℕ). xs ++ front out) (sym (concat-append x.gone gone)));
  };
  slot = met.slot;
  messages = met.messages;
  risen = risen-then given.wire now.wire wire met.risen writes.wrote.risen;
  failed = λ failed. failed-by now.out.failed given.wire.faults now.wire.faults wire.faults met.risen.faults (writes.failed failed) met.failed writes.wrote.risen.faults;
}

pub greets-writes : (given : Given) (x : Exchange) (now : Now) (gone : List (List ℕ)) (octets : List ℕ) (out : OutOf) (wire : WireOf) → Writes gone octets now.out out now.wire wire
    → Greets given x now → Greets given (record x { gone = x.gone ++ gone }) (record now { out = out; wire = wire })
greets-writes given x now gone octets out wire writes greets = record {
  met = met-writes given x now gone octets out wire writes greets.met;
  complete = record { unheard = greets.complete.unheard; unqueued = greets.complete.unqueued };
  unspent = greets.unspent;
  after = greets.after;
  going = greets.going;
}

-- ---- what comes

all-more : (can_give : ℕ → Bool) (inputs : List Input) (input : Input) → AllByRecursion (IsTimely can_give) inputs → IsTimely can_give input → AllByRecursion (IsTimely can_give) (inputs ++ input ∷ [])
all-more can_give [] input each one = (one, tt)
all-more can_give (first ∷ inputs) input each one = (each.0, all-more can_give inputs input each.1 one)

-- an input came, and the session has messages for it, which aren't queued yet
abbrev pub came : Input → Doing → Exchange → Exchange
came input does x = record x { inputs = x.inputs ++ input ∷ []; unqueued = does.sent }

module _ (given : Given) (x : Exchange) (now : Now) (input : Input) where
  abbrev next : Answer
  next = answer given.roster input (greeted given.roster x).after

  greeted-more : greeted given.roster (came input next.does x) ≡ record { after = next.after; does = then_also (greeted given.roster x).does next.does }
  greeted-more = answers-more given.roster x.inputs input (begun given.roster x.start).after

  does-more : does_in given.roster (came input next.does x) ≡ then_also (does_in given.roster x) next.does
  does-more =
      ap (λ (a : Answer). then_also (begun given.roster x.start).does a.does) greeted-more
      ∙ sym (then-assoc (begun given.roster x.start).does (greeted given.roster x).does next.does)

  met-came : Met given x now → IsComplete x → IsTimely given.can_give input
      → (held : Held) (wire : WireOf) (slot : Option ℕ) (messages : ℕ)
      → wire.given ≡ behind now.wire.given (octets_in (input ∷ [])) → wire.taken ≡ now.wire.taken → HasRisen now.wire wire
      → slot ≡ later_of now.slot next.does.claim
      → messages ≡ counted_on now.messages (handled_at given.roster input (greeted given.roster x).after)
      → Met given (came input next.does x) (record { held = held; out = now.out; wire = wire; slot = slot; messages = messages })
  met-came met complete timely held wire slot messages given_is taken_is risen slot_is messages_are = record {
    exchanged = record {
      started = met.exchanged.started;
      timely = all-more given.can_give x.inputs input met.exchanged.timely timely;
      read =
          given_is
          ∙ ap (λ t. behind t (octets_in (input ∷ []))) met.exchanged.read
          ∙ behind-append given.wire.given (octets_in x.inputs ++ x.unheard) (octets_in (input ∷ []))
          ∙ ap (behind given.wire.given) (
          ap (λ (o : List ℕ). (octets_in x.inputs ++ o) ++ octets_in (input ∷ [])) complete.unheard
          ∙ ap (λ (o : List ℕ). o ++ octets_in (input ∷ [])) (append-nil (octets_in x.inputs))
          ∙ sym (octets-append x.inputs (input ∷ []))
          ∙ sym (append-nil (octets_in (x.inputs ++ input ∷ [])))
          ∙ ap (λ (o : List ℕ). octets_in (x.inputs ++ input ∷ []) ++ o) (sym complete.unheard));
      queue =
          ap (λ (d : Doing). d.sent) does-more
          ∙ ap (λ (ms : List (List ℕ)). ms ++ next.does.sent) met.exchanged.queue
          ∙ append_assoc x.gone (now.out.waiting ++ x.unqueued) next.does.sent
          ∙ ap (λ (ms : List (List ℕ)). x.gone ++ ((now.out.waiting ++ ms) ++ next.does.sent)) complete.unqueued
          ∙ ap (λ (ms : List (List ℕ)). x.gone ++ (ms ++ next.does.sent)) (append-nil now.out.waiting);
      taken = taken_is ∙ met.exchanged.taken;
    };
    slot = slot_is ∙ ap (λ (s : Option ℕ). later_of s next.does.claim) met.slot ∙ ap (λ (d : Doing). d.claim) (sym does-more);
    messages = messages_are ∙ counted now.messages (handled_in_exchange given.roster x) _ (handled_in_exchange given.roster (came input next.does x)) met.messages (handled-more given.roster x.inputs input (begun given.roster x.start).after);
    risen = risen-then given.wire now.wire wire met.risen risen;
    failed = λ failed. rose-then given.wire.faults now.wire.faults wire.faults (met.failed failed) risen.faults;
  } where
    counted : (m n k all : ℕ) → m ≡ counted_on 0 n → all ≡ n + k → counted_on m k ≡ counted_on 0 all
    counted m n k all m_is all_is = omega arith

-- the messages are queued
met-pushed : (given : Given) (x : Exchange) (now : Now) (out : OutOf) (queued unqueued : List (List ℕ)) → x.unqueued ≡ queued ++ unqueued
    → out ≡ record now.out { waiting = now.out.waiting ++ queued } → front out ≡ front now.out
    → Met given x now → Met given (record x { unqueued = unqueued }) (record now { out = out })
met-pushed given x now out queued unqueued split out_is same_front met = record {
  exchanged = record {
    started = met.exchanged.started;
    timely = met.exchanged.timely;
    read = met.exchanged.read;
    queue =
        met.exchanged.queue
        ∙ ap (λ (ms : List (List ℕ)). x.gone ++ (now.out.waiting ++ ms)) split
        ∙ ap (λ (ms : List (List ℕ)). x.gone ++ ms) (sym (append_assoc now.out.waiting queued unqueued))
        ∙ ap (λ (o : OutOf). x.gone ++ (o.waiting ++ unqueued)) (sym out_is);
    taken = met.exchanged.taken ∙ ap (λ (xs : List ℕ). behind given.wire.taken (concat x.gone ++ xs)) (sym same_front);
  };
  slot = met.slot;
  messages = met.messages;
  risen = met.risen;
  failed = λ failed. met.failed (ap (λ (o : OutOf). o.failed) (sym out_is) ∙ failed);
}

-- octets were read, or none, which the session had no memory to handle
pub met-read : (given : Given) (x : Exchange) (now : Now) → IsComplete x → (held : Held) (wire : WireOf) (octets : List ℕ) → wire.given ≡ behind now.wire.given octets → wire.taken ≡ now.wire.taken → HasRisen now.wire wire
    → Met given x now → Met given (record x { unheard = octets }) (record now { held = held; wire = wire })
met-read given x now complete held wire octets given_is taken_is risen met = record {
  exchanged = record {
    started = met.exchanged.started;
    timely = met.exchanged.timely;
    read =
        given_is
        ∙ ap (λ t. behind t octets) met.exchanged.read
        ∙ behind-append given.wire.given (octets_in x.inputs ++ x.unheard) octets
        ∙ ap (λ (o : List ℕ). behind given.wire.given ((octets_in x.inputs ++ o) ++ octets)) complete.unheard
        ∙ ap (λ (o : List ℕ). behind given.wire.given (o ++ octets)) (append-nil (octets_in x.inputs));
    queue = met.exchanged.queue;
    taken = taken_is ∙ met.exchanged.taken;
  };
  slot = met.slot;
  messages = met.messages;
  risen = risen-then given.wire now.wire wire met.risen risen;
  failed = λ failed. rose-then given.wire.faults now.wire.faults wire.faults (met.failed failed) risen.faults;
}

-- ---- steps

-- an input was answered: the greeting goes on, or it ended
module _ (given : Given) (x : Exchange) (now : Now) (greets : Greets given x now) (input : Input) (timely : IsTimely given.can_give input)
    (held : Held) (wire : WireOf) (out : OutOf) (slot : Option ℕ) (messages : ℕ) (does : Doing) where
  abbrev answered : Answer
  answered = answer given.roster input now.held.state

  abbrev later : Now
  later = record { held = held; out = out; wire = wire; slot = slot; messages = messages }

  same_answer : answered ≡ next given x now input
  same_answer = ap (answer given.roster input) greets.after

  pub answer-goes : does ≡ answered.does → held.spent ≡ false → held.state ≡ answered.after
      → wire.given ≡ behind now.wire.given (octets_in (input ∷ [])) → wire.taken ≡ now.wire.taken → HasRisen now.wire wire
      → slot ≡ later_of now.slot does.claim → messages ≡ counted_on now.messages (handled_at given.roster input now.held.state)
      → (result : Result (Unit {0}) EndWhy) → Queues does now.out out result → GreetsOn given later result
  answer-goes does_is unspent after given_is taken_is risen slot_is messages_are result queues = by_result result queues.closes where
    then_x : Exchange
    then_x = record (came input (next given x now input).does x) { unqueued = queues.unqueued }

    all_is : does ≡ (next given x now input).does
    all_is = does_is ∙ ap (λ (a : Answer). a.does) same_answer

    met : Met given then_x later
    met = met-pushed given (came input (next given x now input).does x) (record { held = held; out = now.out; wire = wire; slot = slot; messages = messages }) out queues.queued queues.unqueued
        (ap (λ (d : Doing). d.sent) (sym all_is) ∙ queues.all) queues.pushed queues.same_front
        (met-came given x now input greets.met greets.complete timely held wire slot messages given_is taken_is risen
        (slot_is ∙ ap (λ (d : Doing). later_of now.slot d.claim) all_is)
        (messages_are ∙ ap (λ (s : SessionState). counted_on now.messages (handled_at given.roster input s)) greets.after))

    complete : queues.unqueued ≡ [] → IsComplete then_x
    complete none = record { unheard = greets.complete.unheard; unqueued = none }

    closed_by : (end : Option Ending) → does.closed ≡ end → (does_in given.roster then_x).closed ≡ end
    closed_by end is =
        ap (λ (d : Doing). d.closed) (does-more given x now input)
        ∙ ap (λ (first : Option Ending). later_of first (next given x now input).does.closed) greets.going
        ∙ later_of-none (next given x now input).does.closed
        ∙ ap (λ (d : Doing). d.closed) (sym all_is) ∙ is

    by_result : (result : Result (Unit {0}) EndWhy) → Closes does.closed queues.unqueued result → GreetsOn given later result
    by_result (Ok done) closes = (
      then_x,
      record {
        met = met;
        complete = complete closes.1;
        unspent = unspent;
        after = after ∙ ap (λ (a : Answer). a.after) same_answer ∙ ap (λ (a : Answer). a.after) (sym (greeted-more given x now input));
        going = closed_by None closes.0;
      },
    )
    by_result (Err (why.Fault code sub)) closes = (then_x, record { met = met; complete = λ memory. complete closes.1; cause = closed_by (Some (ending Faulted code sub)) closes.0 })
    by_result (Err (why.Received code sub)) closes = (then_x, record { met = met; complete = λ memory. complete closes.1; cause = closed_by (Some (ending Received code sub)) closes.0 })
    by_result (Err why.NoMemory) closes = (then_x, record { met = met; complete = λ never. absurd never; cause = tt })
    by_result (Err why.PeerClosed) closes = absurd closes
    by_result (Err (why.SeatOut out)) closes = absurd closes
    by_result (Err why.LinkFault) closes = absurd closes
    by_result (Err why.Stopped) closes = absurd closes

-- no memory for octets that were read, or for a message
pub parts-unheard : (given : Given) (x : Exchange) (now : Now) → IsComplete x → Met given x now → (held : Held) (wire : WireOf) (octets : List ℕ)
    → wire.given ≡ behind now.wire.given octets → wire.taken ≡ now.wire.taken → HasRisen now.wire wire
    → Parts given (record x { unheard = octets }) (record now { held = held; wire = wire }) why.NoMemory
parts-unheard given x now complete met held wire octets given_is taken_is risen = record {
  met = met-read given x now complete held wire octets given_is taken_is risen met;
  complete = λ never. absurd never;
  cause = tt;
}

module _ (given : Given) (x : Exchange) (now : Now) (greets : Greets given x now) where
  module _ (wire : WireOf) (given_is : wire.given ≡ now.wire.given) (taken_is : wire.taken ≡ now.wire.taken) (risen : HasRisen now.wire wire) where
    read_none : Met given (record x { unheard = [] }) (record now { wire = wire })
    read_none = met-read given x now greets.complete now.held wire [] (given_is ∙ sym (behind-nil now.wire.given)) taken_is risen greets.met

    none_lost : IsComplete (record x { unheard = [] })
    none_lost = record { unheard = refl; unqueued = greets.complete.unqueued }

    pub parts-closed : Rose now.wire.ends wire.ends → Parts given (record x { unheard = [] }) (record now { wire = wire }) why.PeerClosed
    parts-closed rose = record { met = read_none; complete = λ memory. none_lost; cause = (greets.going, then-rose given.wire.ends now.wire.ends wire.ends greets.met.risen.ends rose) }

    pub parts-fault : Rose now.wire.faults wire.faults → Parts given (record x { unheard = [] }) (record now { wire = wire }) why.LinkFault
    parts-fault rose = record { met = read_none; complete = λ memory. none_lost; cause = (greets.going, then-rose given.wire.faults now.wire.faults wire.faults greets.met.risen.faults rose) }

    -- nothing came
    pub rests-goes : (done : Unit {0}) → GreetsOn given (record now { wire = wire }) (Ok done)
    rests-goes done = (record x { unheard = [] }, record { met = read_none; complete = none_lost; unspent = greets.unspent; after = greets.after; going = greets.going })

  pub parts-failed : now.out.failed ≡ true → Parts given x now why.LinkFault
  parts-failed failed = record { met = greets.met; complete = λ memory. greets.complete; cause = (greets.going, greets.met.failed failed) }

  pub parts-stopped : IsTrue given.may_stop → Parts given x now why.Stopped
  parts-stopped stop = record { met = greets.met; complete = λ memory. greets.complete; cause = (greets.going, stop) }
