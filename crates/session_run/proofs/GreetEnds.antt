-- How a greeting comes to its result.
use Rattle.std.proofs.Common.{◌≡◌, ◌≢◌, ℕ, Bool, true, false, ◌⊎◌, inl, inr, List, [], ◌∷◌, ◌++◌, length, take, None, Some, refl, sym, ap, ◌∙◌, subst, append-nil, arith, length-append}
use Rattle.std.specs.Prelude.{IsTrue}
use Rattle.std.specs.List.{concat}
use Rattle.rcp_base.specs.Roster.{RosterOf}
use Rattle.rcp_model.specs.Sessions.{SessionState, LARGE_HOLD, begun, own_open, answers}
use Rattle.rcp_model.proofs.SessionLemmas.{later_of-none}
use Rattle.session_core.specs.Held.{Held}
use Rattle.session_times.specs.Times.{EndsDue}
use Rattle.session_times.proofs.DueLemmas.{greeting_due}
use Rattle.outside.specs.Told.{behind, behind-nil, Rose}
use Rattle.outbox.specs.Wires.{WireOf, HasRisen}
use Rattle.outbox.specs.Outs.{OutOf, WritesSome, IsDone, empty}
use Rattle.outbox.proofs.Writing.{risen-same, then-rose}
use Rattle.session_serve.specs.declared.ends.EndWhy.{EndWhy}
use Rattle.session_serve.specs.declared.ends.EndWhy.TheVariants as why
use Rattle.session_serve.specs.declared.ends.SessionEnd.{SessionEnd}
use Rattle.session_serve.specs.Deeds.{handled_by}
use Rattle.session_serve.specs.Ended.{HadMemory, IsWritten, WasSlow}
use Rattle.session_serve.proofs.OpeningLemmas.{opens-begun, claims-in}
use Rattle.session_serve.proofs.ServedLemmas.{cause-later, expired-by}
use Rattle.session_run.specs.Greeted.{Exchange, greeted, does_in, IsComplete, IsOpened, IsUnopened}
use Rattle.session_run.specs.Greeting.{Given, given_at, Now, Greets, Parts, begun_at}
use Rattle.session_run.proofs.GreetLemmas.{met-writes}

-- what is done from the OPEN on, with what the OPEN's session does first
claim-in : (roster : RosterOf) (x : Exchange) → (does_in roster x).claim ≡ (greeted roster x).does.claim
unfolding begun
claim-in roster x = later_of-none (greeted roster x).does.claim

closed-in : (roster : RosterOf) (x : Exchange) → (does_in roster x).closed ≡ (greeted roster x).does.closed
unfolding begun
closed-in roster x = later_of-none (greeted roster x).does.closed

sent-in : (roster : RosterOf) (x : Exchange) → (does_in roster x).sent ≡ own_open roster ∷ (greeted roster x).does.sent
unfolding begun
sent-in roster x = refl

-- ---- the seat is claimed

pub opened : (given : Given) (x : Exchange) (now : Now) (slot : ℕ) → Greets given x now → now.out.waiting ≡ [] → now.slot ≡ Some slot
    → IsOpened given.roster given.can_give given.wire now.wire now.held slot x now.out
opened given x now slot greets none slot_is =
    let roster = given.roster in
    let claim : (does_in roster x).claim ≡ Some slot = sym greets.met.slot ∙ slot_is in
    let a = greeted roster x in
    let opening = opens-begun roster given.can_give x.start x.inputs greets.met.exchanged.timely in
    let c = claims-in roster a.does _ slot a.after.phase opening (sym (claim-in roster x) ∙ claim) (sym (closed-in roster x) ∙ greets.going) in
    record {
      exchanged = greets.met.exchanged;
      complete = greets.complete;
      state = greets.after;
      claim = claim;
      claims = record { unspent = greets.unspent; since = c.since; terms = c.terms; claims = ap (λ (s : SessionState). s.phase) greets.after ∙ c.claims };
      known = c.known;
      one = c.one;
      written =
          sym (append-nil x.gone)
          ∙ ap (λ (ms : List (List ℕ)). x.gone ++ ms) (sym greets.complete.unqueued)
          ∙ ap (λ (ms : List (List ℕ)). x.gone ++ (ms ++ x.unqueued)) (sym none)
          ∙ sym greets.met.exchanged.queue
          ∙ sent-in roster x
          ∙ ap (λ (ms : List (List ℕ)). own_open roster ∷ ms) c.silent;
      none_waits = none;
    }

-- ---- it ended before

all-or-slow : (given : Given) (now : Now) (out : OutOf) (wire : WireOf) → (out.failed ≡ true → Rose given.wire.faults wire.faults) → HasRisen given.wire now.wire → IsDone out now.wire wire
    → (out.waiting ≡ []) ⊎ WasSlow given.wire wire
all-or-slow given now out wire failed risen (inl none) = inl none
all-or-slow given now out wire failed risen (inr (inl is)) = inr (inl (failed is))
all-or-slow given now out wire failed risen (inr (inr rose)) = inr (inr (then-rose given.wire.empties now.wire.empties wire.empties risen.empties rose))

-- nothing waits, so the OPEN is written
open-gone : (roster : RosterOf) (x : Exchange) (waiting : List (List ℕ)) → (does_in roster x).sent ≡ x.gone ++ (waiting ++ x.unqueued) → waiting ≡ [] → x.unqueued ≡ [] → x.gone ≢ []
open-gone roster x waiting queue none queued gone =
    let one : length ((does_in roster x).sent) ≡ length (own_open roster ∷ (greeted roster x).does.sent) = ap length (sent-in roster x) in
    omega (arith, one, ap length queue, length-append x.gone (waiting ++ x.unqueued), length-append waiting x.unqueued, ap length gone, ap length none, ap length queued)

open-or-slow : (given : Given) (x : Exchange) (out : OutOf) (wire : WireOf) → IsComplete x → (does_in given.roster x).sent ≡ x.gone ++ (out.waiting ++ x.unqueued)
    → (out.waiting ≡ []) ⊎ WasSlow given.wire wire → (x.gone ≢ []) ⊎ WasSlow given.wire wire
open-or-slow given x out wire complete queue (inl none) = inl (open-gone given.roster x out.waiting queue none complete.unqueued)
open-or-slow given x out wire complete queue (inr slow) = inr slow

written-by : (given : Given) (x : Exchange) (out : OutOf) (wire : WireOf) (end : EndWhy) → (HadMemory end → IsComplete x) → (does_in given.roster x).sent ≡ x.gone ++ (out.waiting ++ x.unqueued)
    → (out.waiting ≡ []) ⊎ WasSlow given.wire wire → IsWritten x.gone out.waiting given.wire wire end
written-by given x out wire (why.Fault code sub) complete queue done = done
written-by given x out wire (why.SeatOut seat) complete queue done = done
written-by given x out wire (why.Received code sub) complete queue done = open-or-slow given x out wire (complete tt) queue done
written-by given x out wire why.PeerClosed complete queue done = open-or-slow given x out wire (complete tt) queue done
written-by given x out wire why.Stopped complete queue done = open-or-slow given x out wire (complete tt) queue done
written-by given x out wire why.LinkFault complete queue done = tt
written-by given x out wire why.NoMemory complete queue done = tt

pub unopened : (given : Given) (x : Exchange) (now : Now) (end : SessionEnd) (out : OutOf) (after : WireOf)
    → Parts given x now end.why → (writes : WritesSome now.out out now.wire after) → IsDone out now.wire after
    → end.slot ≡ now.slot → end.generation ≡ 0 → end.messages ≡ now.messages → end.updates ≡ 0
    → IsUnopened given.roster given.can_give given.may_stop given.wire after end (record x { gone = x.gone ++ writes.0 }) out
unopened given x now end out after parts writes is_done slot_is generation_is messages_are updates_are =
    let met = met-writes given x now writes.0 writes.1 out after writes.2 parts.met in
    let due : EndsDue given.can_give LARGE_HOLD (does_in given.roster x).closed =
    subst (EndsDue given.can_give LARGE_HOLD) (sym (closed-in given.roster x)) (greeting_due given.roster given.can_give x.start x.inputs parts.met.exchanged.started parts.met.exchanged.timely) in
    record {
      exchanged = met.exchanged;
      complete = λ memory. let c = parts.complete memory in record { unheard = c.unheard; unqueued = c.unqueued };
      slot = slot_is ∙ parts.met.slot;
      generation = generation_is;
      messages = messages_are ∙ parts.met.messages;
      updates = updates_are;
      cause = cause-later (does_in given.roster x).closed given.may_stop given.wire now.wire after end.why writes.2.wrote.ends writes.2.wrote.risen parts.cause;
      wrote = written-by given (record x { gone = x.gone ++ writes.0 }) out after end.why
          (λ memory. let c = parts.complete memory in record { unheard = c.unheard; unqueued = c.unqueued })
          met.exchanged.queue (all-or-slow given now out after met.failed parts.met.risen is_done);
      expired = expired-by given.can_give LARGE_HOLD (does_in given.roster x).closed given.may_stop given.wire now.wire end.why due parts.cause;
    }

-- ---- it begins

-- nothing came yet, and there was no memory for the OPEN
abbrev pub unopened_at : RosterOf → ℕ → Exchange
unopened_at roster start = record (begun_at start) { unqueued = own_open roster ∷ [] }

pub no-memory : (roster : RosterOf) (can_give : ℕ → Bool) (may_stop : Bool) (wire : WireOf) (start : ℕ) → IsTrue (can_give start)
    → IsUnopened roster can_give may_stop wire wire (record { why = why.NoMemory; slot = None; generation = 0; messages = 0; updates = 0 }) (unopened_at roster start) empty
unfolding begun answers handled_by
no-memory roster can_give may_stop wire start given = record {
  exchanged = record { started = given; timely = tt; read = sym (behind-nil wire.given); queue = refl; taken = sym (behind-nil wire.taken) };
  complete = λ never. absurd never;
  slot = refl;
  generation = refl;
  messages = refl;
  updates = refl;
  cause = tt;
  wrote = tt;
  expired = tt;
}

-- the OPEN waits
pub begins : (roster : RosterOf) (can_give : ℕ → Bool) (may_stop : Bool) (wire : WireOf) (start : ℕ) (held : Held) (out : OutOf) → IsTrue (can_give start)
    → held.spent ≡ false → held.state ≡ (begun roster start).after → out ≡ record empty { waiting = own_open roster ∷ [] }
    → Greets (given_at roster can_give may_stop wire) (begun_at start) (record { held = held; out = out; wire = wire; slot = None; messages = 0 })
unfolding begun answers handled_by
begins roster can_give may_stop wire start held out given unspent state out_is = record {
  met = record {
    exchanged = record {
      started = given;
      timely = tt;
      read = sym (behind-nil wire.given);
      queue = ap (λ (o : OutOf). o.waiting ++ []) (sym out_is);
      taken = sym (behind-nil wire.taken) ∙ ap (λ (o : OutOf). behind wire.taken (take o.written (concat o.waiting))) (sym out_is);
    };
    slot = refl;
    messages = refl;
    risen = risen-same wire;
    failed = λ failed. let not : false ≡ true = ap (λ (o : OutOf). o.failed) (sym out_is) ∙ failed in absurd cc;
  };
  complete = record { unheard = refl; unqueued = refl };
  unspent = unspent;
  after = state;
  going = refl;
}
