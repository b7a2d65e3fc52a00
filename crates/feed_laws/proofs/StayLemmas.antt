-- What octets do to a session, whatever they are: it keeps its seat, gives no event before it has one, and claims one at most.
use Rattle.std.proofs.Common.{◌≡◌, ℕ, Bool, true, false, cond, inl, inr, List, [], ◌∷◌, ◌++◌, drop, Option, Some, None, refl, sym, ap, ◌∙◌, subst, eqb}
use Rattle.std.specs.Prelude.{unwrap_or}
use Rattle.std.proofs.lemmas.Bool.{cases_Bool, cond_both, both_ways}
use Rattle.rcp_model.specs.Messages.{FaultOf, fault, type_field, messages_in, rest_of}
use Rattle.rcp_model.specs.Attributes.{number_width}
use Rattle.rcp_model.specs.Updates.{update_fault, changes_of}
use Rattle.rcp_base.specs.Roster.{RosterOf}
use Rattle.rcp_model.specs.Sessions.{Negotiated, Peering, Phase, OpenSent, Claiming, OpenConfirm, Established, Closed, is_closed, reads, SessionState, Ending, SessionEvent, Up, Doing, nothing, telling, later_of, then_also, Step, step, failed, refused, notified, opening_fault, negotiated, opened, changes_events, updated, read_at, handle, handle_all, with_fault, with_rest, course_of, Octets, Answer, moment_in, answer, seat_of}
use Rattle.rcp_model.proofs.SessionLemmas.{later_of-none, then-nothing, answer-octets}

-- ---- what is shown

-- a session went from one phase to another, and did this
pub record Stays (phase : Phase) (does : Doing) (next : Phase) : Type 0 where
  pub ends : is_closed next ≡ false → does.closed ≡ None
  pub seat : is_closed next ≡ false → seat_of next ≡ seat_of phase
  pub eventless : is_closed next ≡ false → seat_of phase ≡ None → does.events ≡ []
  pub claim : (slot : ℕ) → does.claim ≡ Some slot → (since : ℕ) × (terms : Negotiated) × (next ≡ Claiming since slot terms)

abbrev StaysBy : Phase → Step → Type 0
StaysBy phase taken = Stays phase taken.does taken.phase

some_none : {X : Type 0} {x : X} → Some x ≡ None → ⊥
some_none e = cc

none_some : {X : Type 0} {x : X} → None ≡ Some x → ⊥
none_some e = cc

reads-open : (phase : Phase) → reads phase ≡ true → is_closed phase ≡ false
reads-open (OpenSent since) r = refl
reads-open (Claiming since slot terms) r = refl
reads-open (OpenConfirm peering) r = refl
reads-open (Established peering) r = refl
reads-open Closed r = absurd cc

-- ---- single steps

stays-ended : (phase : Phase) (sent : List (List ℕ)) (end : Ending) → Stays phase (record nothing { sent = sent; closed = Some end }) Closed
stays-ended phase sent end = record {
  ends = λ still. absurd cc;
  seat = λ still. absurd cc;
  eventless = λ still none. refl;
  claim = λ slot e. absurd (none_some e);
}

stays-failed : (phase : Phase) (why : FaultOf) → StaysBy phase (failed why)
stays-failed phase why = stays-ended phase _ _

-- the seat stays, and there is no event
stays-still : (phase next : Phase) → seat_of next ≡ seat_of phase → Stays phase nothing next
stays-still phase next seat = record {
  ends = λ still. refl;
  seat = λ still. seat;
  eventless = λ still none. refl;
  claim = λ slot e. absurd (none_some e);
}

-- there are events where there is a seat
stays-eventful : (phase next : Phase) (slot : ℕ) (events : List SessionEvent) → seat_of phase ≡ Some slot → seat_of next ≡ Some slot → Stays phase (telling events) next
stays-eventful phase next slot events was is = record {
  ends = λ still. refl;
  seat = λ still. is ∙ sym was;
  eventless = λ still none. absurd (some_none (sym was ∙ none));
  claim = λ slot e. absurd (none_some e);
}

either : (phase : Phase) (test : Bool) (one other : Step) → StaysBy phase one → StaysBy phase other → StaysBy phase (cond test one other)
either phase test one other first second = cond_both test one other (StaysBy phase) (λ _. first) (λ _. second)

-- ---- one thing and then another

stays-then : (phase middle next : Phase) (first second : Doing) → reads middle ≡ true → Stays phase first middle → Stays middle second next → Stays phase (then_also first second) next
stays-then phase middle next first second r before after = record {
  ends = λ still. ap (λ (end : Option Ending). later_of end second.closed) (before.ends (reads-open middle r)) ∙ later_of-none second.closed ∙ after.ends still;
  seat = λ still. after.seat still ∙ before.seat (reads-open middle r);
  eventless = λ still none.
      let quiet : first.events ≡ [] = before.eventless (reads-open middle r) none in
      let later : second.events ≡ [] = after.eventless still (before.seat (reads-open middle r) ∙ none) in
      rw (quiet, later) refl;
  claim = λ slot e. after.claim slot (sym (later_of-none second.claim) ∙ ap (λ (found : Option ℕ). later_of found second.claim) (sym (unclaimed first.claim refl)) ∙ e);
} where
  unclaimed : (found : Option ℕ) → first.claim ≡ found → first.claim ≡ None
  unclaimed None e = e
  unclaimed (Some slot) e =
      let made = before.claim slot e in
      let waits : reads middle ≡ false = ap reads made.2 in
      absurd (both_ways (reads middle) waits r)

-- ---- messages

module _ (roster : RosterOf) (now : ℕ) where
  stays-opened : (since : ℕ) (body : List ℕ) (found : Option FaultOf) → opening_fault roster body ≡ found → StaysBy (OpenSent since) (opened roster since body)
  stays-opened since body (Some why) is = rw (is, opened) (stays-failed (OpenSent since) why)
  stays-opened since body None is = rw (is, opened) record {
    ends = λ still. refl;
    seat = λ still. refl;
    eventless = λ still none. refl;
    claim = λ slot e. (since, negotiated roster body, ap (λ (found : Option ℕ). Claiming since (unwrap_or found 0) (negotiated roster body)) e);
  }

  stays-updated : (peering : Peering) (body : List ℕ) (found : Option FaultOf) → update_fault number_width body ≡ found → StaysBy (Established peering) (updated roster (read_at now peering) body)
  stays-updated peering body (Some why) is = rw (is, updated) (stays-failed (Established peering) why)
  stays-updated peering body None is =
      rw (is, updated) (stays-eventful (Established peering) (Established (read_at now peering)) peering.slot (changes_events roster.as_number (changes_of body)) refl refl)

  -- a NOTIFICATION, or a message that the phase doesn't take
  stays-otherwise : (phase : Phase) (message : List ℕ) → StaysBy phase (cond (eqb (type_field message) 3) (notified (drop 19 message)) refused)
  stays-otherwise phase message =
      either phase (eqb (type_field message) 3) (notified (drop 19 message)) refused (stays-ended phase [] _) (stays-failed phase (fault 5 0 []))

  stays-handled : (message : List ℕ) (phase : Phase) → reads phase ≡ true → StaysBy phase (handle roster now message phase)
  unfolding handle
  stays-handled message (OpenSent since) r =
      either (OpenSent since) (eqb (type_field message) 1) (opened roster since (drop 19 message)) (cond (eqb (type_field message) 3) (notified (drop 19 message)) refused)
      (stays-opened since (drop 19 message) (opening_fault roster (drop 19 message)) refl) (stays-otherwise (OpenSent since) message)
  stays-handled message (OpenConfirm peering) r =
      either (OpenConfirm peering) (eqb (type_field message) 4) (step (Established (read_at now peering)) (telling (Up ∷ []))) (cond (eqb (type_field message) 3) (notified (drop 19 message)) refused)
      (stays-eventful (OpenConfirm peering) (Established (read_at now peering)) peering.slot (Up ∷ []) refl refl)
      (stays-otherwise (OpenConfirm peering) message)
  stays-handled message (Established peering) r =
      let other = cond (eqb (type_field message) 3) (notified (drop 19 message)) refused in
      let alive = step (Established (read_at now peering)) nothing in
      either (Established peering) (eqb (type_field message) 2) (updated roster (read_at now peering) (drop 19 message)) (cond (eqb (type_field message) 4) alive other)
      (stays-updated peering (drop 19 message) (update_fault number_width (drop 19 message)) refl)
      (either (Established peering) (eqb (type_field message) 4) alive other
      (stays-still (Established peering) (Established (read_at now peering)) refl)
      (stays-otherwise (Established peering) message))
  stays-handled message (Claiming since slot terms) r = absurd cc
  stays-handled message Closed r = absurd cc

  handled-waiting : (messages : List (List ℕ)) (phase : Phase) → reads phase ≡ false → handle_all roster now messages phase ≡ record { phase = phase; does = nothing; unread = messages }
  unfolding handle_all
  handled-waiting [] phase waits = refl
  handled-waiting (message ∷ messages) phase waits = rw (waits) refl

  abbrev StaysAll : List (List ℕ) → Phase → Type 0
  StaysAll messages phase = Stays phase (handle_all roster now messages phase).does (handle_all roster now messages phase).phase

  stays-on : (messages : List (List ℕ)) (phase middle : Phase) (does : Doing) → Stays phase does middle → StaysAll messages middle
      → Stays phase (then_also does (handle_all roster now messages middle).does) (handle_all roster now messages middle).phase
  stays-on messages phase middle does before later =
      elim (cases_Bool (reads middle)) [
        | inl r ↦ stays-then phase middle _ does _ r before later
        | inr r ↦ rw (handled-waiting messages middle r, then-nothing does) before
      ]

  stays-all : (messages : List (List ℕ)) (phase : Phase) → StaysAll messages phase
  unfolding handle_all
  stays-all [] phase = stays-still phase phase refl
  stays-all (message ∷ messages) phase =
      let first = handle roster now message phase in
      elim (cases_Bool (reads phase)) [
        | inl r ↦ rw (r) (stays-on messages phase first.phase first.does (stays-handled message phase r) (stays-all messages first.phase))
        | inr r ↦ rw (r) (stays-still phase phase refl)
      ]

  -- ---- octets

  stays-fault : (rest : List ℕ) (found : Option FaultOf) (phase middle : Phase) (does : Doing) → reads middle ≡ true → Stays phase does middle
      → Stays phase (with_fault rest found middle does).does (with_fault rest found middle does).phase
  stays-fault rest None phase middle does r before = before
  stays-fault rest (Some why) phase middle does r before = stays-then phase middle Closed does _ r before (stays-failed middle why)

  stays-rest : (rest : List ℕ) (phase middle : Phase) (does : Doing) (unread : List (List ℕ)) → Stays phase does middle
      → Stays phase (with_rest rest middle does unread).does (with_rest rest middle does unread).phase
  stays-rest rest phase (OpenSent since) does unread before = stays-fault rest _ phase (OpenSent since) does refl before
  stays-rest rest phase (Claiming since slot terms) does unread before = before
  stays-rest rest phase (OpenConfirm peering) does unread before = stays-fault rest _ phase (OpenConfirm peering) does refl before
  stays-rest rest phase (Established peering) does unread before = stays-fault rest _ phase (Established peering) does refl before
  stays-rest rest phase Closed does unread before = before

  stays-course : (octets : List ℕ) (phase : Phase) → Stays phase (course_of roster now octets phase).does (course_of roster now octets phase).phase
  unfolding course_of
  stays-course octets phase =
      let handled = handle_all roster now (messages_in octets) phase in
      stays-rest (rest_of octets) phase handled.phase handled.does handled.unread (stays-all (messages_in octets) phase)

pub stays-octets : (roster : RosterOf) (piece : List ℕ) (now : ℕ) (session : SessionState) → is_closed session.phase ≡ false
    → Stays session.phase (answer roster (Octets piece now) session).does (answer roster (Octets piece now) session).after.phase
stays-octets roster piece now session open_ =
    subst (λ (a : Answer). Stays session.phase a.does a.after.phase) (sym (answer-octets roster piece now session open_))
    (stays-course roster (moment_in session now) (session.kept ++ piece) session.phase)
