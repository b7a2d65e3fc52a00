-- A session that octets and times come to ends by a message, or by a timer that ran out.
use Rattle.std.proofs.Common.{◌≡◌, ◌≢◌, ℕ, ◌+◌, ◌-◌, ◌/◌, ◌≤◌, Bool, true, false, cond, max, inl, inr, List, [], ◌∷◌, drop, Option, Some, None, refl, sym, ap, ◌∙◌, subst, eqb, arith}
use Rattle.std.specs.Prelude.{IsTrue, ◌⊎◌, nat_le}
use Rattle.std.specs.List.{AllByRecursion}
use Rattle.std.proofs.lemmas.Bool.{cases_Bool, cond_both}
use Rattle.std.proofs.lemmas.Bool.Decides.{nat_tests}
use Rattle.rcp_base.specs.Roster.{RosterOf}
use Rattle.rcp_model.specs.Attributes.{number_width}
use Rattle.rcp_model.specs.Messages.{FaultOf, fault, header_fault, type_field, messages_in, rest_of}
use Rattle.rcp_model.specs.Updates.{update_fault}
use Rattle.rcp_model.specs.Sessions.{Negotiated, Peering, Phase, OpenSent, Claiming, OpenConfirm, Established, Closed, is_closed, reads, SessionState, Ending, Up, Doing, nothing, sending, telling, later_of, then_also, Step, step, failed, refused, notified, keepalive, opening_fault, opened, updated, read_at, handle, handle_all, fault_in_front, with_fault, with_rest, course_of, LARGE_HOLD, has_passed, expired, timed, tick, Input, Octets, Seat, Moment, End, Answer, moment_in, seated, claim_answered, answer, answers, begun}
use Rattle.rcp_model.proofs.SessionLemmas.{answer-closed, answer-octets, answer-seat, answer-moment}
use Rattle.session_times.specs.Times.{IsTimely, IsCourseOf, FarApart, EndsDue, claimed_hold}
use Rattle.session_times.proofs.FaultCodes.{IsOfMessage, of-header, of-open, of-update}

module _ (can_give : ℕ → Bool) (seconds : ℕ) where
  -- A timer runs since a time: the clock gave one not above it, and gave the latest time if it is above it.
  record RunsSince (latest since : ℕ) : Type 0 where
    first : ℕ
    given : IsTrue (can_give first)
    before : first ≤ since
    now : (latest ≤ since) ⊎ IsTrue (can_give latest)

  -- the timer in use runs so many seconds
  abbrev InTime : ℕ → Phase → Type 0
  InTime latest (OpenSent since) = (240 ≡ seconds) × RunsSince latest since
  InTime latest (Claiming since slot terms) = (240 ≡ seconds) × RunsSince latest since
  InTime latest (OpenConfirm peering) = (peering.negotiated.hold ≡ seconds) × RunsSince latest peering.read
  InTime latest (Established peering) = (peering.negotiated.hold ≡ seconds) × RunsSince latest peering.read
  InTime latest Closed = Unit {0}

  -- what was done on the way to a phase
  record Due (latest : ℕ) (does : Doing) (next : Phase) : Type 0 where
    time : InTime latest next
    ends : EndsDue can_give seconds does.closed

  due-then : (latest : ℕ) (first second : Doing) (next : Phase) → EndsDue can_give seconds first.closed → Due latest second next → Due latest (then_also first second) next
  due-then latest first second next f s = record { time = s.time; ends = either second.closed s.ends } where
    either : (end : Option Ending) → EndsDue can_give seconds end → EndsDue can_give seconds (later_of first.closed end)
    either None s = f
    either (Some end) s = s

  -- a time that the clock gave, which counts as the latest if that is later
  module _ (given-at : ℕ) (given : IsTrue (can_give given-at)) where
    later-runs : (latest since : ℕ) → RunsSince latest since → RunsSince (max latest given-at) since
    later-runs latest since runs = record { first = runs.first; given = runs.given; before = runs.before; now = by_order (nat_le given-at latest) refl } where
      by_order : (b : Bool) → nat_le given-at latest ≡ b → (max latest given-at ≤ since) ⊎ IsTrue (can_give (max latest given-at))
      by_order true is = let same : latest ≡ max latest given-at = grind (arith, nat_tests) in subst (λ n. (n ≤ since) ⊎ IsTrue (can_give n)) same runs.now
      by_order false is = let same : given-at ≡ max latest given-at = grind (arith, nat_tests) in inr (subst (λ n. IsTrue (can_give n)) same given)

    later-time : (latest : ℕ) (phase : Phase) → InTime latest phase → InTime (max latest given-at) phase
    later-time latest (OpenSent since) time = (time.0, later-runs latest since time.1)
    later-time latest (Claiming since slot terms) time = (time.0, later-runs latest since time.1)
    later-time latest (OpenConfirm peering) time = (time.0, later-runs latest peering.read time.1)
    later-time latest (Established peering) time = (time.0, later-runs latest peering.read time.1)
    later-time latest Closed time = tt

    -- a timer that begins now
    begins-now : (latest : ℕ) → given-at ≤ latest → RunsSince latest latest
    begins-now latest within = record { first = given-at; given = given; before = within; now = inl (omega arith) }

    module _ (roster : RosterOf) (latest : ℕ) (within : given-at ≤ latest) where
      due-nothing : (phase : Phase) → InTime latest phase → Due latest nothing phase
      due-nothing phase time = record { time = time; ends = tt }

      due-failed : (why : FaultOf) → why.code ≢ 4 → Due latest (failed why).does Closed
      due-failed why other = record { time = tt; ends = λ is. absurd (other is) }

      abbrev DueBy : Step → Type 0
      DueBy taken = Due latest taken.does taken.phase

      either : (test : Bool) (one other : Step) → DueBy one → DueBy other → DueBy (cond test one other)
      either test one other first second = cond_both test one other DueBy (λ _. first) (λ _. second)

      due-otherwise : (message : List ℕ) → DueBy (cond (eqb (type_field message) 3) (notified (drop 19 message)) refused)
      due-otherwise message = either (eqb (type_field message) 3) (notified (drop 19 message)) refused (record { time = tt; ends = tt }) (due-failed (fault 5 0 []) (λ e. omega arith))

      due-opened : (since : ℕ) (body : List ℕ) (found : Option FaultOf) → InTime latest (OpenSent since) → opening_fault roster body ≡ found → IsOfMessage found → DueBy (opened roster since body)
      due-opened since body (Some why) time is other = rw (is, opened) (due-failed why other)
      due-opened since body None time is other = rw (is, opened) (record { time = time; ends = tt })

      due-updated : (peering : Peering) (body : List ℕ) (found : Option FaultOf) → InTime latest (Established peering) → update_fault number_width body ≡ found → IsOfMessage found → DueBy (updated roster peering body)
      due-updated peering body (Some why) time is other = rw (is, updated) (due-failed why other)
      due-updated peering body None time is other = rw (is, updated) (record { time = time; ends = tt })

      due-handled : (message : List ℕ) (phase : Phase) → InTime latest phase → reads phase ≡ true → DueBy (handle roster latest message phase)
      unfolding handle
      due-handled message (OpenSent since) time r =
          either (eqb (type_field message) 1) (opened roster since (drop 19 message)) (cond (eqb (type_field message) 3) (notified (drop 19 message)) refused)
          (due-opened since (drop 19 message) (opening_fault roster (drop 19 message)) time refl (of-open _ _ (drop 19 message))) (due-otherwise message)
      due-handled message (OpenConfirm peering) time r =
          either (eqb (type_field message) 4) (step (Established (read_at latest peering)) (telling (Up ∷ []))) (cond (eqb (type_field message) 3) (notified (drop 19 message)) refused)
          (record { time = (time.0, begins-now latest within); ends = tt }) (due-otherwise message)
      due-handled message (Established peering) time r =
          let other = cond (eqb (type_field message) 3) (notified (drop 19 message)) refused in
          let alive = step (Established (read_at latest peering)) nothing in
          let read : InTime latest (Established (read_at latest peering)) = (time.0, begins-now latest within) in
          either (eqb (type_field message) 2) (updated roster (read_at latest peering) (drop 19 message)) (cond (eqb (type_field message) 4) alive other)
          (due-updated (read_at latest peering) (drop 19 message) (update_fault number_width (drop 19 message)) read refl (of-update number_width (drop 19 message)))
          (either (eqb (type_field message) 4) alive other (record { time = read; ends = tt }) (due-otherwise message))
      due-handled message (Claiming since slot terms) time r = absurd cc
      due-handled message Closed time r = absurd cc

      due-all : (messages : List (List ℕ)) (phase : Phase) → InTime latest phase → Due latest (handle_all roster latest messages phase).does (handle_all roster latest messages phase).phase
      unfolding handle_all
      due-all [] phase time = due-nothing phase time
      due-all (message ∷ messages) phase time = elim (cases_Bool (reads phase)) [
        | inl r ↦
            let first = due-handled message phase time r in
            rw (r) (due-then latest (handle roster latest message phase).does _ _ first.ends (due-all messages (handle roster latest message phase).phase first.time))
        | inr r ↦ rw (r) (due-nothing phase time)
      ]

      due-fault : (rest : List ℕ) (found : Option FaultOf) (phase : Phase) (does : Doing) → IsOfMessage found → Due latest does phase
          → Due latest (with_fault rest found phase does).does (with_fault rest found phase does).phase
      due-fault rest None phase does other before = before
      due-fault rest (Some why) phase does other before = due-then latest does _ Closed before.ends (due-failed why other)

      of-front : (octets : List ℕ) → IsOfMessage (fault_in_front octets)
      of-front octets = by_test _ where
        by_test : (b : Bool) → IsOfMessage (cond b (header_fault octets) None)
        by_test true = of-header octets
        by_test false = tt

      due-rest : (rest : List ℕ) (phase : Phase) (does : Doing) (unread : List (List ℕ)) → Due latest does phase → Due latest (with_rest rest phase does unread).does (with_rest rest phase does unread).phase
      due-rest rest (OpenSent since) does unread before = due-fault rest _ (OpenSent since) does (of-front rest) before
      due-rest rest (Claiming since slot terms) does unread before = record { time = before.time; ends = before.ends }
      due-rest rest (OpenConfirm peering) does unread before = due-fault rest _ (OpenConfirm peering) does (of-front rest) before
      due-rest rest (Established peering) does unread before = due-fault rest _ (Established peering) does (of-front rest) before
      due-rest rest Closed does unread before = before

      due-course : (octets : List ℕ) (phase : Phase) → InTime latest phase → Due latest (course_of roster latest octets phase).does (course_of roster latest octets phase).phase
      unfolding course_of
      due-course octets phase time =
          let handled = handle_all roster latest (messages_in octets) phase in
          due-rest (rest_of octets) handled.phase handled.does handled.unread (due-all (messages_in octets) phase time)

      due-seated : (octets : List ℕ) (peering : Peering) → InTime latest (OpenConfirm peering) → Due latest (seated roster latest octets peering).does (seated roster latest octets peering).phase
      due-seated octets peering time = due-then latest (sending keepalive) _ _ tt (due-course octets (OpenConfirm peering) time)

  -- ---- timers

  module _ (latest : ℕ) where
    abbrev TickDue : Step → Type 0
    TickDue taken = Due latest taken.does taken.phase

    tick-either : (test : Bool) (one other : Step) → (test ≡ true → TickDue one) → (test ≡ false → TickDue other) → TickDue (cond test one other)
    tick-either true one other first second = first refl
    tick-either false one other first second = second refl

    -- a timer that ran out
    ran-out : (since : ℕ) → RunsSince latest since → has_passed seconds since latest ≡ true → seconds ≢ 0 → TickDue expired
    ran-out since runs passed some = record { time = tt; ends = λ is. apart runs.now } where
      apart : (latest ≤ since) ⊎ IsTrue (can_give latest) → FarApart can_give seconds
      apart (inl none) = let no : seconds ≡ 0 = grind (arith, nat_tests) in absurd (some no)
      apart (inr given) = let before = runs.before in let far : runs.first + seconds ≤ latest = grind (arith, nat_tests) in (runs.first, latest, runs.given, given, far)

    module _ (phase : Peering → Phase) (in_time : (other : Peering) → (other.negotiated.hold ≡ seconds) × RunsSince latest other.read → InTime latest (phase other)) where
      due-timed : (peering : Peering) → (peering.negotiated.hold ≡ seconds) × RunsSince latest peering.read → TickDue (timed phase latest peering)
      due-timed peering time =
          let still : TickDue (step (phase peering) nothing) = record { time = in_time peering time; ends = tt } in
          tick-either (eqb peering.negotiated.hold 0) (step (phase peering) nothing) _ (λ none. still) (λ some.
          tick-either (has_passed peering.negotiated.hold peering.read latest) expired _
          (λ passed. ran-out peering.read time.1 (ap (λ n. has_passed n peering.read latest) (sym time.0) ∙ passed) (has_some peering.negotiated.hold time.0 some))
          (λ not_passed. tick-either (has_passed (peering.negotiated.hold / 3) peering.sent latest) (step (phase (record peering { sent = latest })) (sending keepalive)) (step (phase peering) nothing)
          (λ due. record { time = in_time (record peering { sent = latest }) (time.0, record { first = time.1.first; given = time.1.given; before = time.1.before; now = time.1.now }); ends = tt }) (λ early. still)))
        where
          has_some : (hold : ℕ) → hold ≡ seconds → eqb hold 0 ≡ false → seconds ≢ 0
          has_some hold is some none = grind (arith, nat_tests)

    due-waiting : (phase : Phase) (since : ℕ) → InTime latest phase → (240 ≡ seconds) × RunsSince latest since → TickDue (cond (has_passed 240 since latest) expired (step phase nothing))
    due-waiting phase since here time =
        tick-either (has_passed 240 since latest) expired (step phase nothing)
        (λ passed. ran-out since time.1 (ap (λ n. has_passed n since latest) (sym time.0) ∙ passed) (λ none. omega arith))
        (λ early. record { time = here; ends = tt })

    due-tick : (phase : Phase) → InTime latest phase → TickDue (tick latest phase)
    unfolding tick
    due-tick (OpenSent since) time = due-waiting (OpenSent since) since time time
    due-tick (Claiming since slot terms) time = due-waiting (Claiming since slot terms) since time time
    due-tick (OpenConfirm peering) time = due-timed OpenConfirm (λ other t. t) peering time
    due-tick (Established peering) time = due-timed Established (λ other t. t) peering time
    due-tick Closed time = record { time = tt; ends = tt }

  -- ---- what comes

  module _ (roster : RosterOf) where
    abbrev DueAnswer : Answer → Type 0
    DueAnswer a = Due a.after.latest a.does a.after.phase

    due-answer : (input : Input) (session : SessionState) → IsTimely can_give input → InTime session.latest session.phase → DueAnswer (answer roster input session)
    due-answer input session timely time = elim (cases_Bool (is_closed session.phase)) [
      | inl closed ↦ subst DueAnswer (sym (answer-closed roster input session closed)) (record { time = time; ends = tt })
      | inr open_ ↦ by_input input timely open_
    ] where
      by_input : (input : Input) → IsTimely can_give input → is_closed session.phase ≡ false → DueAnswer (answer roster input session)
      by_input (Octets piece now) given open_ =
          subst DueAnswer (sym (answer-octets roster piece now session open_))
          (due-course now given roster (moment_in session now) (omega arith) _ session.phase (later-time now given session.latest session.phase time))
      by_input (Moment now) given open_ =
          subst DueAnswer (sym (answer-moment roster now session open_))
          (due-tick (moment_in session now) session.phase (later-time now given session.latest session.phase time))
      by_input (Seat free now) never open_ = absurd never
      by_input End never open_ = absurd never

    due-answers : (inputs : List Input) (session : SessionState) → AllByRecursion (IsTimely can_give) inputs → InTime session.latest session.phase → DueAnswer (answers roster inputs session)
    unfolding answers
    due-answers [] session timely time = record { time = time; ends = tt }
    due-answers (input ∷ inputs) session timely time =
        let first = due-answer input session timely.0 time in
        due-then _ (answer roster input session).does _ _ first.ends (due-answers inputs (answer roster input session).after timely.1 first.time)

pub greeting_due : (roster : RosterOf) (can_give : ℕ → Bool) (start : ℕ) (inputs : List Input) → IsTrue (can_give start) → AllByRecursion (IsTimely can_give) inputs
    → EndsDue can_give LARGE_HOLD (answers roster inputs (begun roster start).after).does.closed
unfolding begun
greeting_due roster can_give start inputs given timely =
    (due-answers can_give 240 roster inputs (begun roster start).after timely (refl, begins-now can_give 240 start given start (omega arith))).ends

pub seated_due : (roster : RosterOf) (can_give : ℕ → Bool) (inputs : List Input) (session : SessionState) (since slot : ℕ) (terms : Negotiated)
    → session.phase ≡ Claiming since slot terms → IsCourseOf can_give inputs
    → EndsDue can_give (claimed_hold session.phase) (answers roster inputs session).does.closed
unfolding answers
seated_due roster can_give [] session since slot terms is course = tt
seated_due roster can_give (Octets piece now ∷ inputs) session since slot terms is course = absurd course
seated_due roster can_give (Moment now ∷ inputs) session since slot terms is course = absurd course
seated_due roster can_give (End ∷ inputs) session since slot terms is course = absurd course
seated_due roster can_give (Seat false now ∷ inputs) session since slot terms is course = let no : false ≡ true = course.0 in absurd cc
seated_due roster can_give (Seat true now ∷ inputs) session since slot terms is course =
    let m = moment_in session now in
    let peering : Peering = record { slot = slot; negotiated = terms; read = m; sent = m } in
    let within : now ≤ m = omega arith in
    let hold : terms.hold ≡ claimed_hold session.phase = ap claimed_hold (sym is) in
    let first_is : answer roster (Seat true now) session ≡ record { after = record { phase = (seated roster m session.kept peering).phase; kept = (seated roster m session.kept peering).kept; latest = m }; does = (seated roster m session.kept peering).does } =
    answer-seat roster true now session (ap is_closed is) ∙ ap (claim_answered roster true m session.kept) is in
    let first = due-seated can_give (claimed_hold session.phase) now course.1 roster m within session.kept peering (hold, begins-now can_give (claimed_hold session.phase) now course.1 m within) in
    let here = subst (λ (a : Answer). Due can_give (claimed_hold session.phase) a.after.latest a.does a.after.phase) (sym first_is) first in
    (due-then can_give (claimed_hold session.phase) _ (answer roster (Seat true now) session).does _ _ here.ends (due-answers can_give (claimed_hold session.phase) roster inputs (answer roster (Seat true now) session).after course.2 here.time)).ends
