-- A session that was opened claims one seat at most, with the first message that it reads, and sends nothing more before.
use Rattle.std.proofs.Common.{◌≡◌, ◌≢◌, ℕ, ◌+◌, ◌-◌, ◌<◌, Bool, false, cond, inl, inr, List, [], ◌∷◌, ◌++◌, length, drop, Option, Some, None, refl, sym, ap, ◌∙◌, subst, eqb, append-nil, arith}
use Rattle.std.specs.Prelude.{unwrap_or}
use Rattle.std.specs.List.{AllByRecursion}
use Rattle.std.proofs.lemmas.Bool.{cases_Bool, cond_both}
use Rattle.std.proofs.lemmas.List.Quantifiers.{position-Some}
use Rattle.rcp_base.specs.Roster.{RosterOf}
use Rattle.rcp_base.specs.declared.names.Member.{Member}
use Rattle.rcp_model.specs.Messages.{FaultOf, type_field, messages_in, rest_of}
use Rattle.rcp_model.specs.Opens.{open_fields}
use Rattle.rcp_model.specs.Sessions.{Negotiated, Phase, OpenSent, Claiming, OpenConfirm, Established, Closed, is_closed, reads, SessionState, Ending, Doing, nothing, later_of, then_also, Step, step, refused, notified, slot_by_identifier, opening_fault, opened, handle, Handled, handle_all, fault_in_front, with_fault, with_rest, course_of, has_passed, expired, tick, Input, Octets, Seat, Moment, End, Answer, moment_in, begun, answer, answers}
use Rattle.rcp_model.proofs.SessionLemmas.{later_of-none, nothing-then, then-nothing, then-assoc, course-claiming, answer-closed, answer-octets, answer-moment, closed-is}
use Rattle.session_core.specs.Counts.{handled_in, handled_at}
use Rattle.session_core.proofs.CountLemmas.{handled-none}
use Rattle.session_times.specs.Times.{IsTimely}
use Rattle.session_serve.specs.Deeds.{handled_by}

module _ (roster : RosterOf) where
  -- What is known of a phase by what was done: in OpenSent no seat is claimed, nothing was sent and no message was handled; in
  -- Claiming nothing was sent, one message was handled, and the seat is that of a router of the roster.
  abbrev pub IsOpening : Doing → ℕ → Phase → Type 0
  IsOpening does handled (OpenSent since) = (does.sent ≡ []) × (does.claim ≡ None) × (handled ≡ 0)
  IsOpening does handled (Claiming since slot terms) = (does.sent ≡ []) × (handled ≡ 1) × ((given : ℕ) → does.claim ≡ Some given → (given ≡ slot) × (slot < length roster.members))
  IsOpening does handled (OpenConfirm peering) = ⊥
  IsOpening does handled (Established peering) = ⊥
  IsOpening does handled Closed = does.closed ≢ None

  later-some : {A : Type 0} (first second : Option A) → second ≢ None → later_of first second ≢ None
  later-some first None some = absurd (some refl)
  later-some first (Some x) some = λ none. cc

  some-is : (end : Ending) → Some end ≢ None
  some-is end = λ none. cc

  -- ---- messages

  module _ (now : ℕ) where
    abbrev OpensBy : Step → Type 0
    OpensBy taken = IsOpening taken.does 1 taken.phase

    opens-either : (test : Bool) (one other : Step) → OpensBy one → OpensBy other → OpensBy (cond test one other)
    opens-either test one other first second = cond_both test one other OpensBy (λ _. first) (λ _. second)

    known-slot : (id given : ℕ) (found : Option ℕ) → slot_by_identifier roster.members id ≡ found → found ≡ Some given → (given ≡ unwrap_or found 0) × (unwrap_or found 0 < length roster.members)
    known-slot id given None is has = absurd (cc)
    known-slot id given (Some slot) is has = (let same : given ≡ slot = cc in same, (position-Some (λ (member : Member). eqb member.bgp_id id) roster.members slot no_member is).0) where
      no_member : Member
      no_member = record { router = 0; bgp_id = 0 }

    opens-opened : (since : ℕ) (body : List ℕ) (found : Option FaultOf) → opening_fault roster body ≡ found → OpensBy (opened roster since body)
    opens-opened since body (Some why) is = rw (is, opened) (some-is _)
    opens-opened since body None is = rw (is, opened) (refl, refl, λ given has. known-slot (open_fields body).id given _ refl has)

    opens-handled : (message : List ℕ) (since : ℕ) → OpensBy (handle roster now message (OpenSent since))
    unfolding handle
    opens-handled message since =
        opens-either (eqb (type_field message) 1) (opened roster since (drop 19 message)) (cond (eqb (type_field message) 3) (notified (drop 19 message)) refused)
        (opens-opened since (drop 19 message) (opening_fault roster (drop 19 message)) refl)
        (opens-either (eqb (type_field message) 3) (notified (drop 19 message)) refused (some-is _) (some-is _))

    stops : (does : Doing) (phase : Phase) → IsOpening does 1 phase → reads phase ≡ false
    stops does (OpenSent since) is = let one : 1 ≡ 0 = is.2 in absurd (omega arith)
    stops does (Claiming since slot terms) is = refl
    stops does (OpenConfirm peering) is = absurd is
    stops does (Established peering) is = absurd is
    stops does Closed is = refl

    stopped : (messages : List (List ℕ)) (phase : Phase) → reads phase ≡ false → handle_all roster now messages phase ≡ record { phase = phase; does = nothing; unread = messages }
    unfolding handle_all
    stopped [] phase stop = refl
    stopped (message ∷ messages) phase stop = rw (stop) refl

    opens-all : (messages : List (List ℕ)) (since : ℕ)
        → IsOpening (handle_all roster now messages (OpenSent since)).does (length messages - length (handle_all roster now messages (OpenSent since)).unread) (handle_all roster now messages (OpenSent since)).phase
    unfolding handle_all
    opens-all [] since = (refl, refl, omega arith)
    opens-all (message ∷ messages) since =
        let first = handle roster now message (OpenSent since) in
        let opens : OpensBy first = opens-handled message since in
        let count : 1 ≡ length (message ∷ messages) - length messages = omega arith in
        let Q : Handled → Type 0 = λ (h : Handled). IsOpening (then_also first.does h.does) (length (message ∷ messages) - length h.unread) h.phase in
        subst Q (sym (stopped messages first.phase (stops first.does first.phase opens)))
        (subst (λ (d : Doing). IsOpening d (length (message ∷ messages) - length messages) first.phase) (sym (then-nothing first.does))
        (subst (λ n. IsOpening first.does n first.phase) count opens))

    opens-fault : (rest : List ℕ) (found : Option FaultOf) (since n : ℕ) (does : Doing) → IsOpening does n (OpenSent since)
        → IsOpening (with_fault rest found (OpenSent since) does).does n (with_fault rest found (OpenSent since) does).phase
    opens-fault rest None since n does before = before
    opens-fault rest (Some why) since n does before = some-is _

    opens-rest : (rest : List ℕ) (phase : Phase) (n : ℕ) (does : Doing) (unread : List (List ℕ)) → IsOpening does n phase
        → IsOpening (with_rest rest phase does unread).does n (with_rest rest phase does unread).phase
    opens-rest rest (OpenSent since) n does unread before = opens-fault rest (fault_in_front rest) since n does before
    opens-rest rest (Claiming since slot terms) n does unread before = before
    opens-rest rest (OpenConfirm peering) n does unread before = absurd before
    opens-rest rest (Established peering) n does unread before = absurd before
    opens-rest rest Closed n does unread before = before

    opens-course : (octets : List ℕ) (since : ℕ)
        → IsOpening (course_of roster now octets (OpenSent since)).does (handled_in roster now octets (OpenSent since)) (course_of roster now octets (OpenSent since)).phase
    unfolding course_of handled_in
    opens-course octets since =
        let handled = handle_all roster now (messages_in octets) (OpenSent since) in
        opens-rest (rest_of octets) handled.phase _ handled.does handled.unread (opens-all (messages_in octets) since)

  -- ---- what comes

  module _ (done : Doing) (count : ℕ) where
    after-open : done.sent ≡ [] → done.claim ≡ None → count ≡ 0 → (d : Doing) (n : ℕ) (phase : Phase) → IsOpening d n phase → IsOpening (then_also done d) (count + n) phase
    after-open silent none zero d n (OpenSent since) is =
        (ap (λ (ms : List (List ℕ)). ms ++ d.sent) silent ∙ is.0, ap (λ (x : Option ℕ). later_of x d.claim) none ∙ later_of-none d.claim ∙ is.1, let so : n ≡ 0 = is.2 in omega arith)
    after-open silent none zero d n (Claiming since slot terms) is =
        (ap (λ (ms : List (List ℕ)). ms ++ d.sent) silent ∙ is.0, let so : n ≡ 1 = is.1 in omega arith, λ given has. is.2 given (sym (later_of-none d.claim) ∙ ap (λ (x : Option ℕ). later_of x d.claim) (sym none) ∙ has))
    after-open silent none zero d n (OpenConfirm peering) is = absurd is
    after-open silent none zero d n (Established peering) is = absurd is
    after-open silent none zero d n Closed is = later-some done.closed d.closed is

    opens-octets : (now : ℕ) (octets : List ℕ) (phase : Phase) → IsOpening done count phase → is_closed phase ≡ false
        → IsOpening (then_also done (course_of roster now octets phase).does) (count + handled_in roster now octets phase) (course_of roster now octets phase).phase
    opens-octets now octets (OpenSent since) is open_ = after-open is.0 is.1 is.2 (course_of roster now octets (OpenSent since)).does _ (course_of roster now octets (OpenSent since)).phase (opens-course now octets since)
    opens-octets now octets (Claiming since slot terms) is open_ =
        let none : handled_in roster now octets (Claiming since slot terms) ≡ 0 = handled-none roster now octets (Claiming since slot terms) refl in
        let one : count ≡ 1 = is.1 in
        rw (course-claiming roster now octets since slot terms) (append-nil done.sent ∙ is.0, omega arith, is.2)
    opens-octets now octets (OpenConfirm peering) is open_ = absurd is
    opens-octets now octets (Established peering) is open_ = absurd is
    opens-octets now octets Closed is open_ = absurd cc

    abbrev Ticks : Step → Type 0
    Ticks taken = IsOpening (then_also done taken.does) (count + 0) taken.phase

    ticks-either : (test : Bool) (one other : Step) → Ticks one → Ticks other → Ticks (cond test one other)
    ticks-either test one other first second = cond_both test one other Ticks (λ _. first) (λ _. second)

    opens-tick : (now : ℕ) (phase : Phase) → IsOpening done count phase → is_closed phase ≡ false → Ticks (tick now phase)
    unfolding tick
    opens-tick now (OpenSent since) is open_ =
        ticks-either (has_passed 240 since now) expired (step (OpenSent since) nothing) (some-is _) (append-nil done.sent ∙ is.0, is.1, let so : count ≡ 0 = is.2 in omega arith)
    opens-tick now (Claiming since slot terms) is open_ =
        ticks-either (has_passed 240 since now) expired (step (Claiming since slot terms) nothing) (some-is _) (append-nil done.sent ∙ is.0, let so : count ≡ 1 = is.1 in omega arith, is.2)
    opens-tick now (OpenConfirm peering) is open_ = absurd is
    opens-tick now (Established peering) is open_ = absurd is
    opens-tick now Closed is open_ = absurd cc

    still-closed : (n : ℕ) (phase : Phase) → phase ≡ Closed → IsOpening done count phase → IsOpening (then_also done nothing) n phase
    still-closed n phase is before = subst (λ (p : Phase). IsOpening (then_also done nothing) n p) (sym is) (subst (λ (p : Phase). IsOpening done count p) is before)

    abbrev OpensTo : ℕ → Answer → Type 0
    OpensTo n a = IsOpening (then_also done a.does) (count + n) a.after.phase

    -- octets or a time came
    pub opens-answer : (can_give : ℕ → Bool) (input : Input) (session : SessionState) → IsTimely can_give input → IsOpening done count session.phase
        → IsOpening (then_also done (answer roster input session).does) (count + handled_at roster input session) (answer roster input session).after.phase
    opens-answer can_give input session timely before = elim (cases_Bool (is_closed session.phase)) [
      | inl shut ↦ subst (OpensTo (handled_at roster input session)) (sym (answer-closed roster input session shut)) (still-closed (count + handled_at roster input session) session.phase (closed-is session.phase shut) before)
      | inr open_ ↦ by_input input timely open_
    ] where
      by_input : (other : Input) → IsTimely can_give other → is_closed session.phase ≡ false → OpensTo (handled_at roster other session) (answer roster other session)
      by_input (Octets piece now) given open_ =
          subst (OpensTo (handled_at roster (Octets piece now) session)) (sym (answer-octets roster piece now session open_)) (opens-octets (moment_in session now) (session.kept ++ piece) session.phase before open_)
      by_input (Moment now) given open_ =
          subst (OpensTo 0) (sym (answer-moment roster now session open_)) (opens-tick (moment_in session now) session.phase before open_)
      by_input (Seat free now) never open_ = absurd never
      by_input End never open_ = absurd never

  -- one input after another came
  opens-answers : (can_give : ℕ → Bool) (inputs : List Input) (done : Doing) (count : ℕ) (session : SessionState) → AllByRecursion (IsTimely can_give) inputs → IsOpening done count session.phase
      → IsOpening (then_also done (answers roster inputs session).does) (count + handled_by roster inputs session) (answers roster inputs session).after.phase
  unfolding answers handled_by
  opens-answers can_give [] done count session timely before =
      let same : count ≡ count + 0 = omega arith in
      subst (λ (d : Doing). IsOpening d (count + 0) session.phase) (sym (then-nothing done)) (subst (λ n. IsOpening done n session.phase) same before)
  opens-answers can_give (input ∷ inputs) done count session timely before =
      let a = answer roster input session in
      let here = handled_at roster input session in
      let rest = answers roster inputs a.after in
      let more = handled_by roster inputs a.after in
      let sum : count + here + more ≡ count + (here + more) = omega arith in
      let all = opens-answers can_give inputs (then_also done a.does) (count + here) a.after timely.1 (opens-answer done count can_give input session timely.0 before) in
      subst (λ (d : Doing). IsOpening d (count + (here + more)) rest.after.phase) (then-assoc done a.does rest.does) (subst (λ n. IsOpening (then_also (then_also done a.does) rest.does) n rest.after.phase) sum all)

  -- what came to a session that was opened at a time
  pub opens-begun : (can_give : ℕ → Bool) (start : ℕ) (inputs : List Input) → AllByRecursion (IsTimely can_give) inputs
      → IsOpening (answers roster inputs (begun roster start).after).does (handled_by roster inputs (begun roster start).after) (answers roster inputs (begun roster start).after).after.phase
  unfolding begun
  opens-begun can_give start inputs timely =
      let a = answers roster inputs (begun roster start).after in
      let n = handled_by roster inputs (begun roster start).after in
      let same : 0 + n ≡ n = omega arith in
      subst (λ (d : Doing). IsOpening d n a.after.phase) (nothing-then a.does)
      (subst (λ m. IsOpening (then_also nothing a.does) m a.after.phase) same (opens-answers can_give inputs nothing 0 (begun roster start).after timely (refl, refl, refl)))

  -- a claim that wasn't answered yet, of a session that isn't closed
  pub record ClaimsIn (does : Doing) (phase : Phase) (slot handled : ℕ) : Type 0 where
    pub since : ℕ
    pub terms : Negotiated
    pub claims : phase ≡ Claiming since slot terms
    pub known : slot < length roster.members
    pub one : handled ≡ 1
    pub silent : does.sent ≡ []

  pub claims-in : (does : Doing) (handled slot : ℕ) (phase : Phase) → IsOpening does handled phase → does.claim ≡ Some slot → does.closed ≡ None → ClaimsIn does phase slot handled
  claims-in does handled slot (OpenSent since) is has open_ = let none : does.claim ≡ None = is.1 in absurd cc
  claims-in does handled slot (Claiming since other terms) is has open_ =
      let same : slot ≡ other = (is.2 slot has).0 in
      record { since = since; terms = terms; claims = ap (λ n. Claiming since n terms) (sym same); known = subst (λ n. n < length roster.members) (sym same) (is.2 slot has).1; one = is.1; silent = is.0 }
  claims-in does handled slot (OpenConfirm peering) is has open_ = absurd is
  claims-in does handled slot (Established peering) is has open_ = absurd is
  claims-in does handled slot Closed is has open_ = absurd (is open_)
