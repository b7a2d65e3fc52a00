-- A session sends one NOTIFICATION, by its end and last, where a fault or a taken seat ends it.
use Rattle.std.proofs.Common.{◌≡◌, ℕ, ◌/◌, Bool, true, false, cond, inl, inr, List, [], ◌∷◌, ◌++◌, drop, Option, Some, None, refl, sym, ap, ◌∙◌, subst, eqb, append_assoc}
use Rattle.std.specs.Prelude.{is_some}
use Rattle.std.proofs.lemmas.Bool.{cases_Bool, cond_both, both_ways}
use Rattle.rcp_model.specs.Attributes.{number_width}
use Rattle.rcp_model.specs.Messages.{FaultOf, fault, type_field, messages_in, rest_of}
use Rattle.rcp_model.specs.Updates.{update_fault}
use Rattle.rcp_base.specs.Roster.{RosterOf}
use Rattle.rcp_model.specs.Sessions.{Peering, Phase, OpenSent, Claiming, OpenConfirm, Established, Closed, is_closed, reads, SessionState, Reason, Faulted, Received, Ended, SeatTaken, Ending, Up, Doing, nothing, sending, telling, later_of, then_also, Step, step, failed, refused, notified, keepalive, opening_fault, opened, updated, read_at, handle, handle_all, with_fault, with_rest, course_of, LARGE_HOLD, has_passed, expired, timed, tick, Input, Octets, Seat, Moment, End, Answer, moment_in, seated, claim_answered, answer, answers, begun, begun_established}
use Rattle.rcp_model.proofs.AllLemmas.{all-append}
use Rattle.rcp_model.proofs.SessionLemmas.{later_of-none, then-nothing, answer-closed, answer-octets, answer-seat, answer-moment, answer-end}
use Rattle.model_laws.specs.Ends.{is_notification, HaveNoNotification, EndInNotification, SentBy, SentUpTo, IsEndTold}

-- what was done on the way to a phase
pub record Told (does : Doing) (next : Phase) : Type 0 where
  pub ends : is_closed next ≡ is_some does.closed
  pub sent : IsEndTold does

-- ---- one thing and then another

none-before : (first second : List (List ℕ)) → HaveNoNotification first → HaveNoNotification second → HaveNoNotification (first ++ second)
none-before first second f s = all-append (λ message. is_notification message ≡ false) first second f s

end-before : (why : FaultOf) (first second : List (List ℕ)) → HaveNoNotification first → EndInNotification why second → EndInNotification why (first ++ second)
end-before why first second f s =
    (first ++ s.0, ap (λ (sent : List (List ℕ)). first ++ sent) s.1 ∙ sym (append_assoc first s.0 _), none-before first s.0 f s.2)

by-before : (reason : Reason) (code sub : ℕ) (first second : List (List ℕ)) → HaveNoNotification first → SentBy reason code sub second → SentBy reason code sub (first ++ second)
by-before Faulted code sub first second f s = (s.0, end-before (fault code sub s.0) first second f s.1)
by-before SeatTaken code sub first second f s = (s.0, s.1, end-before (fault 6 0 []) first second f s.2)
by-before Received code sub first second f s = none-before first second f s
by-before Ended code sub first second f s = none-before first second f s

up_to-before : (end : Option Ending) (first second : List (List ℕ)) → HaveNoNotification first → SentUpTo end second → SentUpTo end (first ++ second)
up_to-before None first second f s = none-before first second f s
up_to-before (Some end) first second f s = by-before end.reason end.code end.sub first second f s

open-none : (next : Phase) (end : Option Ending) → is_closed next ≡ is_some end → is_closed next ≡ false → end ≡ None
open-none next None ends open_ = refl
open-none next (Some end) ends open_ = absurd (both_ways (is_closed next) open_ ends)

told-before : (first second : Doing) → first.closed ≡ None → IsEndTold first → IsEndTold second → IsEndTold (then_also first second)
told-before first second none f s =
    let quiet : HaveNoNotification first.sent = subst (λ (end : Option Ending). SentUpTo end first.sent) none f in
    let ended : later_of first.closed second.closed ≡ second.closed = ap (λ (end : Option Ending). later_of end second.closed) none ∙ later_of-none second.closed in
    subst (λ (end : Option Ending). SentUpTo end (first.sent ++ second.sent)) (sym ended) (up_to-before second.closed first.sent second.sent quiet s)

pub told-then : (middle next : Phase) (first second : Doing) → is_closed middle ≡ false → Told first middle → Told second next → Told (then_also first second) next
told-then middle next first second open_ f s =
    let none : first.closed ≡ None = open-none middle first.closed f.ends open_ in
    let ended : later_of first.closed second.closed ≡ second.closed = ap (λ (end : Option Ending). later_of end second.closed) none ∙ later_of-none second.closed in
    record { ends = s.ends ∙ ap is_some (sym ended); sent = told-before first second none f.sent s.sent }

-- ---- single steps

told-failed : (why : FaultOf) → Told (failed why).does Closed
told-failed why = record { ends = refl; sent = (why.content, ([], refl, tt)) }

told-open : (next : Phase) (does : Doing) → is_closed next ≡ false → does.closed ≡ None → HaveNoNotification does.sent → Told does next
told-open next does open_ none quiet = record { ends = open_ ∙ ap is_some (sym none); sent = subst (λ (end : Option Ending). SentUpTo end does.sent) (sym none) quiet }

told-nothing : (phase : Phase) → is_closed phase ≡ false → Told nothing phase
told-nothing phase open_ = told-open phase nothing open_ refl tt

reads-open : (phase : Phase) → reads phase ≡ true → is_closed phase ≡ false
reads-open (OpenSent since) r = refl
reads-open (Claiming since slot terms) r = refl
reads-open (OpenConfirm peering) r = refl
reads-open (Established peering) r = refl
reads-open Closed r = absurd cc

-- a step
abbrev ToldBy : Step → Type 0
ToldBy taken = Told taken.does taken.phase

either : (test : Bool) (one other : Step) → ToldBy one → ToldBy other → ToldBy (cond test one other)
either test one other first second = cond_both test one other ToldBy (λ _. first) (λ _. second)

-- ---- timers

module _ (now : ℕ) where
  told-timed : (phase : Peering → Phase) (peering : Peering) → ((other : Peering) → is_closed (phase other) ≡ false) → ToldBy (timed phase now peering)
  told-timed phase peering open_ =
      let same = step (phase peering) nothing in
      let beat = step (phase (record peering { sent = now })) (sending keepalive) in
      let later = cond (has_passed (peering.negotiated.hold / 3) peering.sent now) beat same in
      let still : ToldBy same = told-nothing (phase peering) (open_ peering) in
      either (eqb peering.negotiated.hold 0) same (cond (has_passed peering.negotiated.hold peering.read now) expired later) still
      (either (has_passed peering.negotiated.hold peering.read now) expired later (told-failed (fault 4 0 []))
      (either (has_passed (peering.negotiated.hold / 3) peering.sent now) beat same
      (told-open (phase (record peering { sent = now })) (sending keepalive) (open_ (record peering { sent = now })) refl (refl, tt)) still))

  told-waiting : (phase : Phase) (since : ℕ) → is_closed phase ≡ false → ToldBy (cond (has_passed LARGE_HOLD since now) expired (step phase nothing))
  told-waiting phase since open_ = either (has_passed LARGE_HOLD since now) expired (step phase nothing) (told-failed (fault 4 0 [])) (told-nothing phase open_)

  told-tick : (phase : Phase) → is_closed phase ≡ false → ToldBy (tick now phase)
  unfolding tick
  told-tick (OpenSent since) open_ = told-waiting (OpenSent since) since refl
  told-tick (Claiming since slot terms) open_ = told-waiting (Claiming since slot terms) since refl
  told-tick (OpenConfirm peering) open_ = told-timed OpenConfirm peering (λ other. refl)
  told-tick (Established peering) open_ = told-timed Established peering (λ other. refl)
  told-tick Closed open_ = absurd cc

-- ---- messages that are read

module _ (roster : RosterOf) (now : ℕ) where
  told-opened : (since : ℕ) (body : List ℕ) (found : Option FaultOf) → opening_fault roster body ≡ found → ToldBy (opened roster since body)
  told-opened since body (Some why) is = rw (is, opened) (told-failed why)
  told-opened since body None is = rw (is, opened) record { ends = refl; sent = tt }

  told-updated : (peering : Peering) (body : List ℕ) (found : Option FaultOf) → update_fault number_width body ≡ found → ToldBy (updated roster peering body)
  told-updated peering body (Some why) is = rw (is, updated) (told-failed why)
  told-updated peering body None is = rw (is, updated) record { ends = refl; sent = tt }

  -- a NOTIFICATION, or a message that the phase doesn't take
  told-otherwise : (message : List ℕ) → ToldBy (cond (eqb (type_field message) 3) (notified (drop 19 message)) refused)
  told-otherwise message = either (eqb (type_field message) 3) (notified (drop 19 message)) refused record { ends = refl; sent = tt } (told-failed (fault 5 0 []))

  told-handled : (message : List ℕ) (phase : Phase) → reads phase ≡ true → ToldBy (handle roster now message phase)
  unfolding handle
  told-handled message (OpenSent since) r =
      either (eqb (type_field message) 1) (opened roster since (drop 19 message)) (cond (eqb (type_field message) 3) (notified (drop 19 message)) refused)
      (told-opened since (drop 19 message) (opening_fault roster (drop 19 message)) refl) (told-otherwise message)
  told-handled message (OpenConfirm peering) r =
      either (eqb (type_field message) 4) (step (Established (read_at now peering)) (telling (Up ∷ []))) (cond (eqb (type_field message) 3) (notified (drop 19 message)) refused)
      record { ends = refl; sent = tt } (told-otherwise message)
  told-handled message (Established peering) r =
      let other = cond (eqb (type_field message) 3) (notified (drop 19 message)) refused in
      let alive = step (Established (read_at now peering)) nothing in
      either (eqb (type_field message) 2) (updated roster (read_at now peering) (drop 19 message)) (cond (eqb (type_field message) 4) alive other)
      (told-updated (read_at now peering) (drop 19 message) (update_fault number_width (drop 19 message)) refl)
      (either (eqb (type_field message) 4) alive other record { ends = refl; sent = tt } (told-otherwise message))
  told-handled message (Claiming since slot terms) r = absurd cc
  told-handled message Closed r = absurd cc

  -- ---- messages one after another

  -- where messages aren't read all stay
  handled-waiting : (messages : List (List ℕ)) (phase : Phase) → reads phase ≡ false → handle_all roster now messages phase ≡ record { phase = phase; does = nothing; unread = messages }
  unfolding handle_all
  handled-waiting [] phase waits = refl
  handled-waiting (message ∷ messages) phase waits = rw (waits) refl

  abbrev ToldAll : List (List ℕ) → Phase → Type 0
  ToldAll messages phase = Told (handle_all roster now messages phase).does (handle_all roster now messages phase).phase

  told-on : (messages : List (List ℕ)) (middle : Phase) (does : Doing) → Told does middle → (is_closed middle ≡ false → ToldAll messages middle)
      → Told (then_also does (handle_all roster now messages middle).does) (handle_all roster now messages middle).phase
  told-on messages middle does before later =
      elim (cases_Bool (reads middle)) [
        | inl r ↦ told-then middle _ does _ (reads-open middle r) before (later (reads-open middle r))
        | inr r ↦ rw (handled-waiting messages middle r, then-nothing does) before
      ]

  told-all : (messages : List (List ℕ)) (phase : Phase) → is_closed phase ≡ false → ToldAll messages phase
  unfolding handle_all
  told-all [] phase open_ = told-nothing phase open_
  told-all (message ∷ messages) phase open_ =
      let first = handle roster now message phase in
      elim (cases_Bool (reads phase)) [
        | inl r ↦ rw (r) (told-on messages first.phase first.does (told-handled message phase r) (λ still. told-all messages first.phase still))
        | inr r ↦ rw (r) (told-nothing phase open_)
      ]

  -- ---- octets

  told-fault : (rest : List ℕ) (found : Option FaultOf) (middle : Phase) (does : Doing) → is_closed middle ≡ false → Told does middle
      → Told (with_fault rest found middle does).does (with_fault rest found middle does).phase
  told-fault rest None middle does open_ before = before
  told-fault rest (Some why) middle does open_ before = told-then middle Closed does _ open_ before (told-failed why)

  told-rest : (rest : List ℕ) (middle : Phase) (does : Doing) (unread : List (List ℕ)) → Told does middle
      → Told (with_rest rest middle does unread).does (with_rest rest middle does unread).phase
  told-rest rest (OpenSent since) does unread before = told-fault rest _ (OpenSent since) does refl before
  told-rest rest (Claiming since slot terms) does unread before = before
  told-rest rest (OpenConfirm peering) does unread before = told-fault rest _ (OpenConfirm peering) does refl before
  told-rest rest (Established peering) does unread before = told-fault rest _ (Established peering) does refl before
  told-rest rest Closed does unread before = before

  told-course : (octets : List ℕ) (phase : Phase) → is_closed phase ≡ false → Told (course_of roster now octets phase).does (course_of roster now octets phase).phase
  unfolding course_of
  told-course octets phase open_ =
      let handled = handle_all roster now (messages_in octets) phase in
      told-rest (rest_of octets) handled.phase handled.does handled.unread (told-all (messages_in octets) phase open_)

  told-seated : (octets : List ℕ) (peering : Peering) → Told (seated roster now octets peering).does (seated roster now octets peering).phase
  told-seated octets peering =
      told-then (OpenConfirm peering) _ (sending keepalive) _ refl
      (told-open (OpenConfirm peering) (sending keepalive) refl refl (refl, tt)) (told-course octets (OpenConfirm peering) refl)

  told-claim : (free : Bool) (octets : List ℕ) (phase : Phase) → is_closed phase ≡ false
      → Told (claim_answered roster free now octets phase).does (claim_answered roster free now octets phase).after.phase
  told-claim true octets (Claiming since slot terms) open_ = told-seated octets _
  told-claim false octets (Claiming since slot terms) open_ = record { ends = refl; sent = (refl, refl, ([], refl, tt)) }
  told-claim true octets (OpenSent since) open_ = told-nothing _ refl
  told-claim false octets (OpenSent since) open_ = told-nothing _ refl
  told-claim true octets (OpenConfirm peering) open_ = told-nothing _ refl
  told-claim false octets (OpenConfirm peering) open_ = told-nothing _ refl
  told-claim true octets (Established peering) open_ = told-nothing _ refl
  told-claim false octets (Established peering) open_ = told-nothing _ refl
  told-claim true octets Closed open_ = absurd cc
  told-claim false octets Closed open_ = absurd cc

-- ---- what comes

module _ (roster : RosterOf) where
  abbrev ToldAnswer : Answer → Type 0
  ToldAnswer a = Told a.does a.after.phase

  pub told-answer : (input : Input) (session : SessionState) → is_closed session.phase ≡ false → ToldAnswer (answer roster input session)
  told-answer (Octets piece now) session open_ =
      subst ToldAnswer (sym (answer-octets roster piece now session open_)) (told-course roster (moment_in session now) _ session.phase open_)
  told-answer (Seat free now) session open_ =
      subst ToldAnswer (sym (answer-seat roster free now session open_)) (told-claim roster (moment_in session now) free session.kept session.phase open_)
  told-answer (Moment now) session open_ =
      subst ToldAnswer (sym (answer-moment roster now session open_)) (told-tick (moment_in session now) session.phase open_)
  told-answer End session open_ =
      subst ToldAnswer (sym (answer-end roster session open_)) record { ends = refl; sent = tt }

  answers-closed : (inputs : List Input) (session : SessionState) → is_closed session.phase ≡ true → answers roster inputs session ≡ record { after = session; does = nothing }
  unfolding answers
  answers-closed [] session closed = refl
  answers-closed (input ∷ inputs) session closed = rw (answer-closed roster input session closed, answers-closed inputs session closed) refl

  told-answers : (inputs : List Input) (session : SessionState) → is_closed session.phase ≡ false → ToldAnswer (answers roster inputs session)
  unfolding answers
  told-answers [] session open_ = told-nothing session.phase open_
  told-answers (input ∷ inputs) session open_ =
      let first = answer roster input session in
      let before = told-answer input session open_ in
      elim (cases_Bool (is_closed first.after.phase)) [
        | inl closed ↦ rw (answers-closed inputs first.after closed, then-nothing first.does) before
        | inr still ↦ told-then first.after.phase _ first.does _ still before (told-answers inputs first.after still)
      ]

  pub end_told : (input : Input) (session : SessionState) → IsEndTold (answer roster input session).does
  end_told input session =
      elim (cases_Bool (is_closed session.phase)) [
        | inl closed ↦ rw (answer-closed roster input session closed) tt
        | inr open_ ↦ (told-answer input session open_).sent
      ]

  pub run_told : (inputs : List Input) (session : SessionState) → IsEndTold (answers roster inputs session).does
  run_told inputs session =
      elim (cases_Bool (is_closed session.phase)) [
        | inl closed ↦ rw (answers-closed inputs session closed) tt
        | inr open_ ↦ (told-answers inputs session open_).sent
      ]

  pub opened_told : (now : ℕ) (inputs : List Input) → IsEndTold (then_also (begun roster now).does (answers roster inputs (begun roster now).after).does)
  unfolding begun
  opened_told now inputs = told-before (begun roster now).does ((answers roster inputs (begun roster now).after).does) refl (refl, tt) (run_told inputs (begun roster now).after)

  pub established_told : (slot : ℕ) (inputs : List Input) → IsEndTold (then_also (begun_established slot).does (answers roster inputs (begun_established slot).after).does)
  unfolding begun_established
  established_told slot inputs = told-before (begun_established slot).does ((answers roster inputs (begun_established slot).after).does) refl tt (run_told inputs (begun_established slot).after)
