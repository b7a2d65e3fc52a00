-- A session that ended is served: the router is reported down, and what waits is written as far as the link takes it.
use Rattle.std.proofs.Common.{◌≡◌, ◌≢◌, ℕ, ◌^◌, ◌<◌, Bool, true, ◌⊎◌, inl, inr, List, [], ◌∷◌, ◌++◌, length, Option, Some, sym, ap, ◌∙◌, subst, arith, length-append}
use Rattle.std.specs.Prelude.{flat_map}
use Rattle.rcp_base.specs.Roster.{RosterOf}
use Rattle.rcp_model.specs.Sessions.{SessionState, Ending, Negotiated, Claiming, keepalive}
use Rattle.session_times.specs.Times.{EndsDue, claimed_hold}
use Rattle.outside.specs.Told.{Rose}
use Rattle.outbox.specs.Wires.{WireOf, HasRisen}
use Rattle.outbox.specs.Outs.{OutOf, WritesSome, IsDone}
use Rattle.outbox.proofs.Writing.{then-rose, rose-then}
use Rattle.seats.specs.Mails.{Mail}
use Rattle.seats.specs.Seats.{SeatOf, sent_at}
use Rattle.shard_mail.specs.Puts.{Puts, mails_of, reached_up}
use Rattle.shard_mail.proofs.Putting.{same-then}
use Rattle.session_serve.specs.declared.ends.EndWhy.{EndWhy}
use Rattle.session_serve.specs.declared.ends.EndWhy.TheVariants as why
use Rattle.session_serve.specs.declared.ends.SessionEnd.{SessionEnd}
use Rattle.session_serve.specs.Deeds.{Deeds, Piece, messages_of, pieces_in, WantedNothing, down_if}
use Rattle.session_serve.specs.Ended.{HadMemory, IsCauseOf, IsWritten, WasSlow, TookOffers, IsExpired}
use Rattle.session_serve.specs.Running.{Start, start_at, At, HasBegun, Ends, does_by}
use Rattle.session_serve.specs.Served.{IsServed}
use Rattle.session_serve.proofs.DoneLemmas.{gone_on, done-writes}

-- ---- what is written at the end

-- nothing waits, and a first message was to be written: it is
first-gone : (deeds : Deeds) (waiting : List (List ℕ)) → HasBegun deeds → flat_map messages_of (pieces_in deeds) ≡ deeds.gone ++ (waiting ++ deeds.unqueued) → waiting ≡ [] → deeds.unqueued ≡ [] → deeds.gone ≢ []
first-gone deeds waiting begun queue none queued gone =
    let one : length (keepalive ∷ flat_map messages_of begun.more) ≡ length (flat_map messages_of (pieces_in deeds)) = ap (λ (ps : List Piece). length (flat_map messages_of ps)) (sym begun.first) in
    omega (arith, one, ap length queue, length-append deeds.gone (waiting ++ deeds.unqueued), length-append waiting deeds.unqueued, ap length gone, ap length none, ap length queued)

-- all is written, or the link was slow
all-or-slow : (start : Start) (at : At) (out : OutOf) (wire : WireOf) → Rose start.wire.faults wire.faults ⊎ (out.failed ≡ true → Rose start.wire.faults wire.faults) → HasRisen start.wire at.wire → IsDone out at.wire wire
    → (out.waiting ≡ []) ⊎ WasSlow start.wire wire
all-or-slow start at out wire failed risen (inl none) = inl none
all-or-slow start at out wire (inl rose) risen (inr (inl is)) = inr (inl rose)
all-or-slow start at out wire (inr rose) risen (inr (inl is)) = inr (inl (rose is))
all-or-slow start at out wire failed risen (inr (inr rose)) = inr (inr (then-rose start.wire.empties at.wire.empties wire.empties risen.empties rose))

first-or-slow : (start : Start) (deeds : Deeds) (out : OutOf) (wire : WireOf) → HasBegun deeds → WantedNothing deeds → flat_map messages_of (pieces_in deeds) ≡ deeds.gone ++ (out.waiting ++ deeds.unqueued)
    → (out.waiting ≡ []) ⊎ WasSlow start.wire wire → (deeds.gone ≢ []) ⊎ WasSlow start.wire wire
first-or-slow start deeds out wire begun wanted queue (inl none) = inl (first-gone deeds out.waiting begun queue none wanted.unqueued)
first-or-slow start deeds out wire begun wanted queue (inr slow) = inr slow

written-by : (start : Start) (deeds : Deeds) (out : OutOf) (wire : WireOf) (end : EndWhy) → (HadMemory end → HasBegun deeds) → (HadMemory end → WantedNothing deeds)
    → flat_map messages_of (pieces_in deeds) ≡ deeds.gone ++ (out.waiting ++ deeds.unqueued) → (out.waiting ≡ []) ⊎ WasSlow start.wire wire
    → IsWritten deeds.gone out.waiting start.wire wire end
written-by start deeds out wire (why.Fault code sub) begun wanted queue done = done
written-by start deeds out wire (why.SeatOut seat) begun wanted queue done = done
written-by start deeds out wire (why.Received code sub) begun wanted queue done = first-or-slow start deeds out wire (begun tt) (wanted tt) queue done
written-by start deeds out wire why.PeerClosed begun wanted queue done = first-or-slow start deeds out wire (begun tt) (wanted tt) queue done
written-by start deeds out wire why.Stopped begun wanted queue done = first-or-slow start deeds out wire (begun tt) (wanted tt) queue done
written-by start deeds out wire why.LinkFault begun wanted queue done = tt
written-by start deeds out wire why.NoMemory begun wanted queue done = tt

-- ---- causes

-- what rose by then has risen since
pub cause-later : (closed : Option Ending) (may_stop : Bool) (before middle after : WireOf) (end : EndWhy) → after.ends ≡ middle.ends → HasRisen middle after → IsCauseOf closed may_stop before middle end → IsCauseOf closed may_stop before after end
cause-later closed may_stop before middle after (why.Fault code sub) ends risen cause = cause
cause-later closed may_stop before middle after (why.Received code sub) ends risen cause = cause
cause-later closed may_stop before middle after why.PeerClosed ends risen cause = (cause.0, subst (λ n. Rose before.ends n) (sym ends) cause.1)
cause-later closed may_stop before middle after why.LinkFault ends risen cause = (cause.0, rose-then before.faults middle.faults after.faults cause.1 risen.faults)
cause-later closed may_stop before middle after why.Stopped ends risen cause = cause
cause-later closed may_stop before middle after (why.SeatOut out) ends risen cause = cause
cause-later closed may_stop before middle after why.NoMemory ends risen cause = tt

-- a fault of a timer has its two times
pub expired-by : (can_give : ℕ → Bool) (seconds : ℕ) (closed : Option Ending) (may_stop : Bool) (before after : WireOf) (end : EndWhy) → EndsDue can_give seconds closed → IsCauseOf closed may_stop before after end → IsExpired can_give seconds end
expired-by can_give seconds closed may_stop before after (why.Fault code sub) due cause = subst (EndsDue can_give seconds) cause due
expired-by can_give seconds closed may_stop before after (why.Received code sub) due cause = tt
expired-by can_give seconds closed may_stop before after why.PeerClosed due cause = tt
expired-by can_give seconds closed may_stop before after why.LinkFault due cause = tt
expired-by can_give seconds closed may_stop before after why.Stopped due cause = tt
expired-by can_give seconds closed may_stop before after (why.SeatOut out) due cause = tt
expired-by can_give seconds closed may_stop before after why.NoMemory due cause = tt

-- ---- served

module _ (roster : RosterOf) (can_give : ℕ → Bool) (may_stop : Bool) (session : SessionState) (old : SeatOf) (before : WireOf) where
  abbrev start : Start
  start = start_at roster can_give may_stop session old before

  pub served : (deeds : Deeds) (at : At) (end : SessionEnd) (seat : SeatOf) (out : OutOf) (after : WireOf)
      → Ends start deeds at end.why
      → Puts (down_if at.up at.seat.slot) at.seat seat → (writes : WritesSome at.out out at.wire after) → IsDone out at.wire after
      → ((since slot : ℕ) (terms : Negotiated) → session.phase ≡ Claiming since slot terms → EndsDue can_give (claimed_hold session.phase) (does_by start deeds).closed)
      → (since slot : ℕ) (terms : Negotiated) → session.phase ≡ Claiming since slot terms
      → end.slot ≡ Some seat.slot → end.generation ≡ seat.generation → end.messages ≡ at.messages → end.updates ≡ out.updates → end.updates < 2 ^ 64
      → IsServed roster can_give may_stop session old seat before after end (gone_on writes.0 deeds) out
  served deeds at end seat out after ends puts writes is_done due since slot terms claims slot_is generation_is messages_are updates_are fits =
      let done = done-writes start deeds at writes.0 writes.1 out after writes.2 ends.done in
      record {
        same = same-then old at.seat seat ends.done.same puts.same;
        slot = slot_is ∙ ap Some (puts.same.slot ∙ ends.done.same.slot);
        generation = generation_is ∙ puts.same.generation ∙ ends.done.same.generation;
        course = done.course;
        read = done.read;
        put = λ shard here.
            puts.each shard (omega (arith, ends.done.same.count))
            ∙ ap (λ (ms : List Mail). ms ++ down_if at.up at.seat.slot shard) (ends.done.put shard here)
            ∙ ap (λ b. (sent_at shard old ++ mails_of old (does_by start deeds).events shard) ++ down_if b at.seat.slot shard) ends.done.up
            ∙ ap (λ n. (sent_at shard old ++ mails_of old (does_by start deeds).events shard) ++ down_if (reached_up (does_by start deeds).events) n shard) ends.done.same.slot;
        said = done.said;
        queue = done.queue;
        taken = done.taken;
        begun = λ memory. let b = ends.begun memory in record { now = b.now; inputs = b.inputs; more = b.more; claim = b.claim; first = b.first };
        received = ap (λ o. o.received) puts.offers ∙ done.received;
        batches = done.batches;
        small = done.small;
        after_up = done.after_up;
        settled = done.settled;
        last = done.last;
        wanted = λ memory. let w = ends.wanted memory in record { unheard = w.unheard; unqueued = w.unqueued; unpacked = w.unpacked };
        cause = cause-later (does_by start deeds).closed may_stop before at.wire after end.why writes.2.wrote.ends writes.2.wrote.risen ends.cause;
        expired = expired-by can_give (claimed_hold session.phase) (does_by start deeds).closed may_stop before at.wire end.why (due since slot terms claims) ends.cause;
        wrote = written-by start (gone_on writes.0 deeds) out after end.why
            (λ memory. let b = ends.begun memory in record { now = b.now; inputs = b.inputs; more = b.more; claim = b.claim; first = b.first })
            (λ memory. let w = ends.wanted memory in record { unheard = w.unheard; unqueued = w.unqueued; unpacked = w.unpacked })
            done.queue (all-or-slow start at out after (inr done.failed) ends.done.risen is_done);
        took =
            let P : Bool → Type 0 = λ up. TookOffers up deeds.took old.offers.empties seat.offers.empties end.why in
            subst P ends.done.up (subst (λ n. TookOffers at.up deeds.took old.offers.empties n end.why) (ap (λ o. o.empties) (sym puts.offers)) ends.took);
        updates = omega (arith, updates_are, done.updates, fits);
        messages = messages_are ∙ ends.done.messages;
      }
