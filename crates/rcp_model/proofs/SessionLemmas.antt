-- The course of a session: message by message, and however its octets are cut.
use Rattle.std.proofs.Common.{◌≡◌, ℕ, ◌≤◌, Bool, true, false, inl, inr, List, [], ◌∷◌, ◌++◌, length, map, take, drop, max, Option, Some, None, refl, sym, ap, ◌∙◌, arith, append_assoc, append-nil, take-append-drop, length-append, length-take-le, leb, le-leb, leb-true}
use Rattle.std.specs.Prelude.{if◌then◌else◌}
use Rattle.std.specs.List.{concat}
use Rattle.std.proofs.lemmas.Option.{none-some}
use Rattle.rcp_model.specs.Messages.{FaultOf, header_fault, message_size, messages_in, rest_of}
use Rattle.rcp_base.specs.Roster.{RosterOf}
use Rattle.rcp_model.specs.Sessions.{Phase, OpenSent, Claiming, OpenConfirm, Established, Closed, is_closed, reads, SessionState, Doing, nothing, later_of, then_also, failed, handle, handle_all, Course, fault_in_front, with_fault, with_rest, course_of, Input, Octets, Seat, Moment, End, Answer, moment_in, answered, stepped, claim_answered, tick, shut, answer, answers}
use Rattle.rcp_base.proofs.CutLemmas.{cut-stop}
use Rattle.rcp_model.proofs.ReadingLemmas.{header_fault-append, message_size-Some, message_size-None, IsMessage-seen, IsReading-cut, messages_in-cons, messages_in-later}

concat-append : (a b : List (List ℕ)) → concat (a ++ b) ≡ concat a ++ concat b
concat-append [] b = refl
concat-append (x ∷ a) b = ap (λ (xs : List ℕ). x ++ xs) (concat-append a b) ∙ sym (append_assoc x (concat a) (concat b))

-- ---- one thing after another

pub later_of-none : {A : Type 0} (a : Option A) → later_of None a ≡ a
later_of-none None = refl
later_of-none (Some x) = refl

later_of-assoc : {A : Type 0} (a b c : Option A) → later_of (later_of a b) c ≡ later_of a (later_of b c)
later_of-assoc a b None = refl
later_of-assoc a b (Some x) = refl

pub nothing-then : (d : Doing) → then_also nothing d ≡ d
nothing-then d = rw (later_of-none d.claim, later_of-none d.closed) refl

pub then-nothing : (d : Doing) → then_also d nothing ≡ d
then-nothing d = rw (append-nil d.sent, append-nil d.events) refl

pub then-assoc : (a b c : Doing) → then_also (then_also a b) c ≡ then_also a (then_also b c)
then-assoc a b c = rw (append_assoc a.sent b.sent c.sent, append_assoc a.events b.events c.events, later_of-assoc a.claim b.claim c.claim, later_of-assoc a.closed b.closed c.closed) refl

-- a course with something done before it
abbrev pub preceded : Doing → Course → Course
preceded does course = record course { does = then_also does course.does }

pub preceded-nothing : (c : Course) → preceded nothing c ≡ c
preceded-nothing c = rw (nothing-then c.does) refl

pub preceded-twice : (a b : Doing) (c : Course) → preceded a (preceded b c) ≡ preceded (then_also a b) c
preceded-twice a b c = rw (then-assoc a b c.does) refl

-- ---- the course of messages and a rest

module _ (roster : RosterOf) (now : ℕ) where
  abbrev whole_course : List (List ℕ) → List ℕ → Phase → Course
  whole_course messages rest phase =
      with_rest rest (handle_all roster now messages phase).phase (handle_all roster now messages phase).does (handle_all roster now messages phase).unread

  with_fault-preceded : (rest : List ℕ) (fault : Option FaultOf) (phase : Phase) (a b : Doing) → with_fault rest fault phase (then_also a b) ≡ preceded a (with_fault rest fault phase b)
  with_fault-preceded rest None phase a b = refl
  with_fault-preceded rest (Some why) phase a b = rw (then-assoc a b (failed why).does) refl

  with_rest-preceded : (rest : List ℕ) (phase : Phase) (a b : Doing) (unread : List (List ℕ)) → with_rest rest phase (then_also a b) unread ≡ preceded a (with_rest rest phase b unread)
  with_rest-preceded rest Closed a b unread = refl
  with_rest-preceded rest (Claiming since slot terms) a b unread = refl
  with_rest-preceded rest (OpenSent since) a b unread = with_fault-preceded rest (fault_in_front rest) (OpenSent since) a b
  with_rest-preceded rest (OpenConfirm peering) a b unread = with_fault-preceded rest (fault_in_front rest) (OpenConfirm peering) a b
  with_rest-preceded rest (Established peering) a b unread = with_fault-preceded rest (fault_in_front rest) (Established peering) a b

  -- a message that is read comes first
  whole_course-cons : (message : List ℕ) (messages : List (List ℕ)) (rest : List ℕ) (phase : Phase) → reads phase ≡ true
      → whole_course (message ∷ messages) rest phase ≡ preceded (handle roster now message phase).does (whole_course messages rest (handle roster now message phase).phase)
  unfolding handle_all
  whole_course-cons message messages rest phase reading =
      let first = handle roster now message phase in
      let others = handle_all roster now messages first.phase in
      rw (reading) (with_rest-preceded rest others.phase first.does others.does others.unread)

  -- ---- one message after another

  pub course-front : (octets : List ℕ) (n : ℕ) (phase : Phase) → message_size octets ≡ Some n → reads phase ≡ true
      → course_of roster now octets phase
      ≡ preceded (handle roster now (take n octets) phase).does (course_of roster now (drop n octets) (handle roster now (take n octets) phase).phase)
  unfolding course_of
  course-front octets n phase front reading =
      let whole : take n octets ++ drop n octets ≡ octets = take-append-drop n octets in
      let told : message_size (take n octets ++ drop n octets) ≡ Some (length (take n octets)) =
      ap message_size whole ∙ front ∙ ap Some (sym (length-take-le n octets (message_size-Some octets n front).within)) in
      let split = messages_in-cons (take n octets) (drop n octets) (IsMessage-seen (take n octets) (drop n octets) told) in
      let messages : messages_in octets ≡ take n octets ∷ messages_in (drop n octets) = ap messages_in (sym whole) ∙ split.0 in
      let rest : rest_of octets ≡ rest_of (drop n octets) = ap rest_of (sym whole) ∙ split.1 in
      ap (λ (ms : List (List ℕ)). whole_course ms (rest_of octets) phase) messages
      ∙ ap (λ (r : List ℕ). whole_course (take n octets ∷ messages_in (drop n octets)) r phase) rest
      ∙ whole_course-cons (take n octets) (messages_in (drop n octets)) (rest_of (drop n octets)) phase reading

  -- nothing is whole in front
  pub course-stop : (octets : List ℕ) (phase : Phase) → message_size octets ≡ None → course_of roster now octets phase ≡ with_rest octets phase nothing []
  unfolding course_of handle_all
  course-stop octets phase stop = ap (λ (r : List (List ℕ) × List ℕ). whole_course r.0 r.1 phase) (cut-stop message_size octets stop)

  -- what waits is kept
  pub course-claiming : (octets : List ℕ) (since slot : ℕ) (terms : _) → course_of roster now octets (Claiming since slot terms) ≡ record { phase = Claiming since slot terms; kept = octets; does = nothing }
  unfolding course_of handle_all
  course-claiming octets since slot terms = kept (messages_in octets) (rest_of octets) (sym (IsReading-cut octets).whole) where
    kept : (messages : List (List ℕ)) (rest : List ℕ) → concat messages ++ rest ≡ octets
        → whole_course messages rest (Claiming since slot terms) ≡ record { phase = Claiming since slot terms; kept = octets; does = nothing }
    kept [] rest e = rw (e) refl
    kept (message ∷ messages) rest e = rw (e) refl

  pub whole-closed : (messages : List (List ℕ)) (rest : List ℕ) → whole_course messages rest Closed ≡ record { phase = Closed; kept = []; does = nothing }
  unfolding handle_all
  whole-closed [] rest = refl
  whole-closed (message ∷ messages) rest = refl

  pub course-closed : (octets : List ℕ) → course_of roster now octets Closed ≡ record { phase = Closed; kept = []; does = nothing }
  unfolding course_of
  course-closed octets = whole-closed (messages_in octets) (rest_of octets)

  -- ---- any cut

  -- a faulty header in front is faulty whatever comes later, and no message
  fault-stays : (rest more : List ℕ) (why : FaultOf) → fault_in_front rest ≡ Some why
      → (message_size (rest ++ more) ≡ None) × (fault_in_front (rest ++ more) ≡ Some why)
  fault-stays rest more why is = by (leb 19 (length rest)) refl is where
    by : (long : Bool) → leb 19 (length rest) ≡ long → (if long then header_fault rest else None) ≡ Some why
        → (message_size (rest ++ more) ≡ None) × (fault_in_front (rest ++ more) ≡ Some why)
    by false e f = absurd (none-some why f)
    by true e f =
        let long : 19 ≤ length rest = leb-true _ _ e in
        let same : header_fault (rest ++ more) ≡ Some why = header_fault-append rest more long ∙ f in
        let longer : leb 19 (length (rest ++ more)) ≡ true = le-leb _ _ (omega (arith, length-append rest more)) in
        (message_size-None (rest ++ more) (inr (inl (λ none. none-some why (sym none ∙ same)))), rw (longer) same)

  -- the course of a rest and what comes later, where the rest is read
  later-read : (rest more : List ℕ) (phase : Phase) (fault : Option FaultOf) → fault_in_front rest ≡ fault → reads phase ≡ true
      → ((octets : List ℕ) → with_rest octets phase nothing [] ≡ with_fault octets (fault_in_front octets) phase nothing)
      → course_of roster now (rest ++ more) phase
      ≡ preceded (with_fault rest fault phase nothing).does (course_of roster now ((with_fault rest fault phase nothing).kept ++ more) (with_fault rest fault phase nothing).phase)
  later-read rest more phase None is reading plain = sym (preceded-nothing (course_of roster now (rest ++ more) phase))
  later-read rest more phase (Some why) is reading plain =
      let stays = fault-stays rest more why is in
      let told = then_also nothing (failed why).does in
      course-stop (rest ++ more) phase stays.0 ∙ plain (rest ++ more)
      ∙ ap (λ (f : Option FaultOf). with_fault (rest ++ more) f phase nothing) stays.1
      ∙ sym (ap (preceded told) (course-closed ([] ++ more)) ∙ rw (then-nothing told) refl)

  -- what a course keeps is read again with what comes later
  abbrev Continues : List (List ℕ) → List ℕ → List ℕ → Phase → Type 0
  Continues messages rest more phase =
      whole_course (messages ++ messages_in (rest ++ more)) (rest_of (rest ++ more)) phase
      ≡ preceded (whole_course messages rest phase).does (course_of roster now ((whole_course messages rest phase).kept ++ more) (whole_course messages rest phase).phase)

  step-continues : (message : List ℕ) (messages : List (List ℕ)) (rest more : List ℕ) (phase : Phase) → reads phase ≡ true
      → Continues messages rest more (handle roster now message phase).phase → Continues (message ∷ messages) rest more phase
  step-continues message messages rest more phase reading others =
      let first = handle roster now message phase in
      let course = whole_course messages rest first.phase in
      whole_course-cons message (messages ++ messages_in (rest ++ more)) (rest_of (rest ++ more)) phase reading
      ∙ ap (preceded first.does) others
      ∙ preceded-twice first.does course.does (course_of roster now (course.kept ++ more) course.phase)
      ∙ ap (λ (c : Course). preceded c.does (course_of roster now (c.kept ++ more) c.phase)) (sym (whole_course-cons message messages rest phase reading))

  claiming-continues : (messages : List (List ℕ)) (rest more : List ℕ) → concat (messages ++ messages_in (rest ++ more)) ++ rest_of (rest ++ more) ≡ (concat messages ++ rest) ++ more
  claiming-continues messages rest more =
      ap (λ (xs : List ℕ). xs ++ rest_of (rest ++ more)) (concat-append messages (messages_in (rest ++ more)))
      ∙ append_assoc (concat messages) (concat (messages_in (rest ++ more))) (rest_of (rest ++ more))
      ∙ ap (λ (xs : List ℕ). concat messages ++ xs) (sym (IsReading-cut (rest ++ more)).whole)
      ∙ sym (append_assoc (concat messages) rest more)

  continues : (messages : List (List ℕ)) (rest more : List ℕ) (phase : Phase) → Continues messages rest more phase
  unfolding course_of handle_all
  continues [] rest more (OpenSent since) = later-read rest more (OpenSent since) (fault_in_front rest) refl refl (λ octets. refl)
  continues [] rest more (OpenConfirm peering) = later-read rest more (OpenConfirm peering) (fault_in_front rest) refl refl (λ octets. refl)
  continues [] rest more (Established peering) = later-read rest more (Established peering) (fault_in_front rest) refl refl (λ octets. refl)
  continues [] rest more (Claiming since slot terms) = sym (preceded-nothing (course_of roster now (rest ++ more) (Claiming since slot terms)))
  continues [] rest more Closed = whole-closed (messages_in (rest ++ more)) (rest_of (rest ++ more)) ∙ sym (ap (preceded nothing) (course-closed more))
  continues (message ∷ messages) rest more (OpenSent since) = step-continues message messages rest more (OpenSent since) refl (continues messages rest more (handle roster now message (OpenSent since)).phase)
  continues (message ∷ messages) rest more (OpenConfirm peering) = step-continues message messages rest more (OpenConfirm peering) refl (continues messages rest more (handle roster now message (OpenConfirm peering)).phase)
  continues (message ∷ messages) rest more (Established peering) = step-continues message messages rest more (Established peering) refl (continues messages rest more (handle roster now message (Established peering)).phase)
  continues (message ∷ messages) rest more (Claiming since slot terms) =
      ap (λ (xs : List ℕ). record { phase = Claiming since slot terms; kept = xs; does = nothing }) (claiming-continues (message ∷ messages) rest more)
      ∙ sym (ap (preceded nothing) (course-claiming ((concat (message ∷ messages) ++ rest) ++ more) since slot terms))
  continues (message ∷ messages) rest more Closed = sym (ap (preceded nothing) (course-closed more))

  -- octets that come later are read after those that were kept
  pub course-later : (octets more : List ℕ) (phase : Phase)
      → course_of roster now (octets ++ more) phase
      ≡ preceded (course_of roster now octets phase).does (course_of roster now ((course_of roster now octets phase).kept ++ more) (course_of roster now octets phase).phase)
  unfolding course_of
  course-later octets more phase =
      let later = messages_in-later octets more in
      ap (λ (ms : List (List ℕ)). whole_course ms (rest_of (octets ++ more)) phase) later.0
      ∙ ap (λ (r : List ℕ). whole_course (messages_in octets ++ messages_in (rest_of octets ++ more)) r phase) later.1
      ∙ continues (messages_in octets) (rest_of octets) more phase

  with_fault-closed : (rest : List ℕ) (fault : Option FaultOf) (phase : Phase) (does : Doing) → is_closed phase ≡ false → is_closed (with_fault rest fault phase does).phase ≡ true → (with_fault rest fault phase does).kept ≡ []
  with_fault-closed rest None phase does open_ closed = absurd (cc)
  with_fault-closed rest (Some why) phase does open_ closed = refl

  with_rest-closed : (rest : List ℕ) (phase : Phase) (does : Doing) (unread : List (List ℕ)) → is_closed (with_rest rest phase does unread).phase ≡ true → (with_rest rest phase does unread).kept ≡ []
  with_rest-closed rest Closed does unread closed = refl
  with_rest-closed rest (Claiming since slot terms) does unread closed = absurd (cc)
  with_rest-closed rest (OpenSent since) does unread closed = with_fault-closed rest (fault_in_front rest) (OpenSent since) does refl closed
  with_rest-closed rest (OpenConfirm peering) does unread closed = with_fault-closed rest (fault_in_front rest) (OpenConfirm peering) does refl closed
  with_rest-closed rest (Established peering) does unread closed = with_fault-closed rest (fault_in_front rest) (Established peering) does refl closed

  -- a session that is closed keeps nothing
  pub course-keeps : (octets : List ℕ) (phase : Phase) → is_closed (course_of roster now octets phase).phase ≡ true → (course_of roster now octets phase).kept ≡ []
  unfolding course_of
  course-keeps octets phase closed = with_rest-closed (rest_of octets) _ _ _ closed

-- ---- the octets that come to a session

pub answer-closed : (roster : RosterOf) (input : Input) (session : SessionState) → is_closed session.phase ≡ true → answer roster input session ≡ record { after = session; does = nothing }
unfolding answer
answer-closed roster input session closed = rw (closed) refl

pub answer-octets : (roster : RosterOf) (piece : List ℕ) (now : ℕ) (session : SessionState) → is_closed session.phase ≡ false
    → answer roster (Octets piece now) session ≡ answered (moment_in session now) (course_of roster (moment_in session now) (session.kept ++ piece) session.phase)
unfolding answer
answer-octets roster piece now session open_ = rw (open_) refl

pub answer-seat : (roster : RosterOf) (free : Bool) (now : ℕ) (session : SessionState) → is_closed session.phase ≡ false
    → answer roster (Seat free now) session ≡ claim_answered roster free (moment_in session now) session.kept session.phase
unfolding answer
answer-seat roster free now session open_ = rw (open_) refl

pub answer-moment : (roster : RosterOf) (now : ℕ) (session : SessionState) → is_closed session.phase ≡ false
    → answer roster (Moment now) session ≡ stepped (moment_in session now) session.kept (tick (moment_in session now) session.phase)
unfolding answer
answer-moment roster now session open_ = rw (open_) refl

pub answer-end : (roster : RosterOf) (session : SessionState) → is_closed session.phase ≡ false → answer roster End session ≡ stepped session.latest session.kept shut
unfolding answer
answer-end roster session open_ = rw (open_) refl

pub closed-is : (phase : Phase) → is_closed phase ≡ true → phase ≡ Closed
closed-is Closed closed = refl
closed-is (Claiming since slot terms) closed = absurd (cc)
closed-is (OpenSent since) closed = absurd (cc)
closed-is (OpenConfirm peering) closed = absurd (cc)
closed-is (Established peering) closed = absurd (cc)

-- one answer and then another
abbrev followed : Answer → Answer → Answer
followed first second = record second { does = then_also first.does second.does }

module _ (roster : RosterOf) (now : ℕ) where
  octets-more : (m : ℕ) (octets more : List ℕ) (phase : Phase) (c : Course) → course_of roster m octets phase ≡ c → max m now ≡ m → (closed : Bool) → is_closed c.phase ≡ closed
      → answered m (course_of roster m (octets ++ more) phase) ≡ followed (answered m c) (answer roster (Octets more now) (answered m c).after)
  octets-more m octets more phase c is late true closed =
      let shut : c.phase ≡ Closed = closed-is c.phase closed in
      let empty : c.kept ≡ [] = ap (λ (d : Course). d.kept) (sym is) ∙ course-keeps roster m octets phase (ap (λ (d : Course). is_closed d.phase) is ∙ closed) in
      let rest : course_of roster m (c.kept ++ more) c.phase ≡ record { phase = c.phase; kept = c.kept; does = nothing } =
      ap (λ (p : Phase). course_of roster m (c.kept ++ more) p) shut ∙ course-closed roster m (c.kept ++ more) ∙ rw (shut, empty) refl in
      ap (answered m) (course-later roster m octets more phase ∙ ap (λ (d : Course). preceded d.does (course_of roster m (d.kept ++ more) d.phase)) is ∙ ap (preceded c.does) rest)
      ∙ sym (ap (followed (answered m c)) (answer-closed roster (Octets more now) (answered m c).after closed))
  octets-more m octets more phase c is late false open_ =
      ap (answered m) (course-later roster m octets more phase ∙ ap (λ (d : Course). preceded d.does (course_of roster m (d.kept ++ more) d.phase)) is)
      ∙ sym (ap (followed (answered m c)) (answer-octets roster more now (answered m c).after open_
      ∙ ap (λ (n : ℕ). answered n (course_of roster n (c.kept ++ more) c.phase)) late))

  -- octets that come in two pieces
  pub two-pieces : (first second : List ℕ) (session : SessionState)
      → answer roster (Octets (first ++ second) now) session
      ≡ followed (answer roster (Octets first now) session) (answer roster (Octets second now) (answer roster (Octets first now) session).after)
  two-pieces first second session = by (is_closed session.phase) refl where
    m : ℕ
    m = moment_in session now

    by : (closed : Bool) → is_closed session.phase ≡ closed
        → answer roster (Octets (first ++ second) now) session
        ≡ followed (answer roster (Octets first now) session) (answer roster (Octets second now) (answer roster (Octets first now) session).after)
    by true closed =
        answer-closed roster (Octets (first ++ second) now) session closed
        ∙ sym (ap (λ (a : Answer). followed a (answer roster (Octets second now) a.after)) (answer-closed roster (Octets first now) session closed)
        ∙ ap (followed (record { after = session; does = nothing })) (answer-closed roster (Octets second now) session closed))
    by false open_ =
        answer-octets roster (first ++ second) now session open_
        ∙ ap (λ (xs : List ℕ). answered m (course_of roster m xs session.phase)) (sym (append_assoc session.kept first second))
        ∙ octets-more m (session.kept ++ first) second session.phase (course_of roster m (session.kept ++ first) session.phase) refl (omega arith) _ refl
        ∙ ap (λ (a : Answer). followed a (answer roster (Octets second now) a.after)) (sym (answer-octets roster first now session open_))

  -- octets that come in any pieces, of which there is one at least
  pub any_pieces : (piece : List ℕ) (pieces : List (List ℕ)) (session : SessionState)
      → answers roster (map (λ p. Octets p now) (piece ∷ pieces)) session ≡ answer roster (Octets (concat (piece ∷ pieces)) now) session
  unfolding answers
  any_pieces piece [] session =
      rw (append-nil piece, then-nothing (answer roster (Octets piece now) session).does) refl
  any_pieces piece (next ∷ pieces) session =
      let first = answer roster (Octets piece now) session in
      ap (followed first) (any_pieces next pieces first.after)
      ∙ sym (two-pieces piece (concat (next ∷ pieces)) session)
