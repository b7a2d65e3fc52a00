-- What a session does for the route control server: it reports routes and prefixes in form, keeps its seat, and sends no UPDATE.
use Rattle.std.proofs.Common.{◌≡◌, ℕ, ◌<◌, ◌/◌, Bool, true, false, cond, inl, inr, List, [], ◌∷◌, ◌++◌, map, drop, Option, Some, None, refl, sym, ap, ◌∙◌, subst, arith, eqb}
use Rattle.std.specs.Prelude.{is_some, unwrap_or}
use Rattle.std.specs.List.{list_any, AllByRecursion}
use Rattle.std.specs.Int.{w16, w32, to_be_bytes}
use Rattle.std.proofs.lemmas.Bool.{cases_Bool, cond_both, or_from, both_ways}
use Rattle.std.proofs.lemmas.List.Folds.{list_any-append}
use Rattle.std.proofs.lemmas.List.Elements.{All-append, All-drop}
use Rattle.rcp_base.specs.IpPrefix.{IpPrefix}
use Rattle.rcp_model.specs.Attributes.{number_width}
use Rattle.rcp_model.specs.Messages.{FaultOf, fault, type_field, IsMessage, message_size, messages_in, rest_of}
use Rattle.rcp_model.specs.Routes.{RouteFields, route_of}
use Rattle.rcp_model.specs.Updates.{Changes, update_fault, changes_of}
use Rattle.rcp_model.specs.Opens.{VERSION}
use Rattle.rcp_base.specs.Roster.{RosterOf}
use Rattle.rcp_base.specs.Octets.{AreOctets}
use Rattle.rcp_model.specs.Telling.{IsTold}
use Rattle.rcp_model.specs.Sessions.{Negotiated, Peering, Phase, OpenSent, Claiming, OpenConfirm, Established, Closed, is_closed, reads, SessionState, Ending, SessionEvent, Up, Announce, Withdraw, Doing, nothing, sending, telling, later_of, then_also, Step, step, failed, refused, notified, keepalive, opening_fault, negotiated, opened, changes_events, updated, read_at, handle, handle_all, with_fault, with_rest, course_of, LARGE_HOLD, has_passed, expired, timed, tick, Octets, Seat, Moment, End, Answer, moment_in, seat_taken, seated, claim_answered, answer, own_open, begun, seat_of, slot_in}
use Rattle.rcp_base.proofs.CutLemmas.{cut-All}
use Rattle.rcp_model.proofs.ReadingLemmas.{IsSize-message_size, IsMessage-message_octets}
use Rattle.rcp_model.proofs.AllLemmas.{all-append}
use Rattle.rcp_model.proofs.SessionLemmas.{later_of-none, then-nothing, answer-octets, answer-seat, answer-moment, answer-end}
use Rattle.rcp_model.proofs.ToldLemmas.{told-changes}

-- ---- what is shown

-- a whole message that is no UPDATE
pub record IsQuiet (message : List ℕ) : Type 0 where
  pub whole : IsMessage message
  pub other : eqb (type_field message) 2 ≡ false

abbrev pub is_up : SessionEvent → Bool
is_up Up = true
is_up (Announce p route) = false
is_up (Withdraw p) = false

-- what is reported while the connected slot goes from one to another
abbrev pub Shape : Option ℕ → Option ℕ → List SessionEvent → Type 0
Shape None None events = events ≡ []
Shape None (Some slot) events = (changes : List SessionEvent) × (events ≡ Up ∷ changes) × (list_any is_up changes ≡ false)
Shape (Some slot) (Some other) events = (slot ≡ other) × (list_any is_up events ≡ false)
Shape (Some slot) None events = ⊥

-- a session went from one phase to another, and did this
pub record Goes (as_number : ℕ) (phase : Phase) (does : Doing) (next : Phase) : Type 0 where
  pub told : AllByRecursion (IsTold as_number) does.events
  pub ends : is_closed next ≡ is_some does.closed
  pub seat : is_closed next ≡ false → seat_of next ≡ seat_of phase
  pub quiet : does.closed ≡ None → AllByRecursion IsQuiet does.sent
  pub shape : is_closed next ≡ false → Shape (slot_in phase) (slot_in next) does.events
  pub claim : (slot : ℕ) → does.claim ≡ Some slot → (since : ℕ) × (terms : Negotiated) × (next ≡ Claiming since slot terms)

-- ---- phases

reads-open : (phase : Phase) → reads phase ≡ true → is_closed phase ≡ false
reads-open (OpenSent since) r = refl
reads-open (Claiming since slot terms) r = refl
reads-open (OpenConfirm peering) r = refl
reads-open (Established peering) r = refl
reads-open Closed r = absurd cc

-- where messages are read nothing is claimed, and the session hasn't ended
module _ (as_number : ℕ) (phase next : Phase) (does : Doing) (goes : Goes as_number phase does next) where
  claims-none : ((since slot : ℕ) (terms : Negotiated) → next ≡ Claiming since slot terms → ⊥) → does.claim ≡ None
  claims-none other = by_claim does.claim refl where
    by_claim : (found : Option ℕ) → does.claim ≡ found → does.claim ≡ None
    by_claim None e = e
    by_claim (Some slot) e = let made = goes.claim slot e in absurd (other made.0 slot made.1 made.2)

  reads-claims_none : reads next ≡ true → does.claim ≡ None
  reads-claims_none r = claims-none (λ since slot terms e. let waits : reads next ≡ false = ap reads e in both_ways (reads next) waits r)

  open-ends_none : is_closed next ≡ false → does.closed ≡ None
  open-ends_none open_ = by_end does.closed refl where
    by_end : (found : Option Ending) → does.closed ≡ found → does.closed ≡ None
    by_end None e = e
    by_end (Some ending) e = let shut_ : is_closed next ≡ true = goes.ends ∙ ap is_some e in absurd (both_ways (is_closed next) open_ shut_)

-- ---- one thing and then another

Shape-then : (a b c : Option ℕ) (first second : List SessionEvent) → Shape a b first → Shape b c second → Shape a c (first ++ second)
Shape-then None None None first second f s = rw (f) s
Shape-then None None (Some slot) first second f s = rw (f) s
Shape-then None (Some slot) None first second f s = absurd s
Shape-then None (Some slot) (Some other) first second f s =
    (f.0 ++ second, ap (λ (events : List SessionEvent). events ++ second) f.1, list_any-append is_up f.0 second ∙ or_from (list_any is_up f.0) (list_any is_up second) f.2 s.1)
Shape-then (Some slot) None c first second f s = absurd f
Shape-then (Some slot) (Some other) None first second f s = absurd s
Shape-then (Some slot) (Some other) (Some third) first second f s =
    (f.0 ∙ s.0, list_any-append is_up first second ∙ or_from (list_any is_up first) (list_any is_up second) f.1 s.1)

Shape-same : (slot : Option ℕ) → Shape slot slot []
Shape-same None = refl
Shape-same (Some slot) = (refl, refl)

module _ (as_number : ℕ) where
  pub goes-then : (phase middle next : Phase) (first second : Doing) → reads middle ≡ true → Goes as_number phase first middle → Goes as_number middle second next → Goes as_number phase (then_also first second) next
  goes-then phase middle next first second r before after =
      let open_ : is_closed middle ≡ false = reads-open middle r in
      let none : first.closed ≡ None = open-ends_none as_number phase middle first before open_ in
      let unclaimed : first.claim ≡ None = reads-claims_none as_number phase middle first before r in
      let ended : later_of first.closed second.closed ≡ second.closed = ap (λ (end : Option Ending). later_of end second.closed) none ∙ later_of-none second.closed in
      let claim : later_of first.claim second.claim ≡ second.claim = ap (λ (slot : Option ℕ). later_of slot second.claim) unclaimed ∙ later_of-none second.claim in
      record {
        told = all-append (IsTold as_number) first.events second.events before.told after.told;
        ends = after.ends ∙ ap is_some (sym ended);
        seat = λ still. after.seat still ∙ before.seat open_;
        quiet = λ going. all-append IsQuiet first.sent second.sent (before.quiet none) (after.quiet (sym ended ∙ going));
        shape = λ still. Shape-then (slot_in phase) (slot_in middle) (slot_in next) first.events second.events (before.shape open_) (after.shape still);
        claim = λ slot e. after.claim slot (sym claim ∙ e);
      }

  -- ---- single steps

  -- an end
  goes-ended : (phase : Phase) (sent : List (List ℕ)) (end : Ending) → Goes as_number phase (record nothing { sent = sent; closed = Some end }) Closed
  goes-ended phase sent end = record {
    told = tt;
    ends = refl;
    seat = λ still. absurd cc;
    quiet = λ none. absurd cc;
    shape = λ still. absurd cc;
    claim = λ slot e. absurd cc;
  }

  goes-failed : (phase : Phase) (why : FaultOf) → Goes as_number phase (failed why).does Closed
  goes-failed phase why = goes-ended phase _ _

  -- nothing is reported, and the seat and the slot stay
  goes-sent : (phase next : Phase) (sent : List (List ℕ)) → is_closed next ≡ false → seat_of next ≡ seat_of phase → slot_in next ≡ slot_in phase → AllByRecursion IsQuiet sent
      → Goes as_number phase (record nothing { sent = sent }) next
  goes-sent phase next sent open_ seat slot quiet = record {
    told = tt;
    ends = open_;
    seat = λ still. seat;
    quiet = λ none. quiet;
    shape = λ still. subst (λ (found : Option ℕ). Shape (slot_in phase) found []) (sym slot) (Shape-same (slot_in phase));
    claim = λ slot e. absurd cc;
  }

  goes-nothing : (phase : Phase) → is_closed phase ≡ false → Goes as_number phase nothing phase
  goes-nothing phase open_ = goes-sent phase phase [] open_ refl refl tt

-- ---- messages that are sent

IsQuiet-keepalive : IsQuiet keepalive
IsQuiet-keepalive = record { whole = IsMessage-message_octets 4 [] (omega arith) refl refl; other = refl }

IsQuiet-own_open : (roster : RosterOf) → IsQuiet (own_open roster)
IsQuiet-own_open roster =
    let body = VERSION ∷ (to_be_bytes w16 roster.as_number ++ to_be_bytes w16 roster.hold ++ to_be_bytes w32 roster.id ++ 0 ∷ []) in
    record { whole = IsMessage-message_octets 1 body (omega arith) refl refl; other = refl }

-- ---- how sessions begin

pub goes-begun : (roster : RosterOf) (now : ℕ) → Goes roster.as_number (OpenSent now) (begun roster now).does (begun roster now).after.phase
unfolding begun
goes-begun roster now = goes-sent roster.as_number (OpenSent now) (OpenSent now) (own_open roster ∷ []) refl refl refl (IsQuiet-own_open roster, tt)

-- ---- timers

-- a step from a phase
abbrev GoesBy : ℕ → Phase → Step → Type 0
GoesBy as_number phase taken = Goes as_number phase taken.does taken.phase

either : (as_number : ℕ) (phase : Phase) (test : Bool) (one other : Step) → GoesBy as_number phase one → GoesBy as_number phase other → GoesBy as_number phase (cond test one other)
either as_number phase test one other first second = cond_both test one other (GoesBy as_number phase) (λ _. first) (λ _. second)

module _ (as_number now : ℕ) where
  goes-expired : (phase : Phase) → GoesBy as_number phase expired
  goes-expired phase = goes-failed as_number phase (fault 4 0 [])

  goes-timed : (phase : Peering → Phase) (peering : Peering) → ((other : Peering) → is_closed (phase other) ≡ false)
      → seat_of (phase (record peering { sent = now })) ≡ seat_of (phase peering) → slot_in (phase (record peering { sent = now })) ≡ slot_in (phase peering)
      → GoesBy as_number (phase peering) (timed phase now peering)
  goes-timed phase peering open_ seat slot =
      let same = step (phase peering) nothing in
      let beat = step (phase (record peering { sent = now })) (sending keepalive) in
      let later = cond (has_passed (peering.negotiated.hold / 3) peering.sent now) beat same in
      let still : GoesBy as_number (phase peering) same = goes-nothing as_number (phase peering) (open_ peering) in
      either as_number (phase peering) (eqb peering.negotiated.hold 0) same (cond (has_passed peering.negotiated.hold peering.read now) expired later) still
      (either as_number (phase peering) (has_passed peering.negotiated.hold peering.read now) expired later (goes-expired (phase peering))
      (either as_number (phase peering) (has_passed (peering.negotiated.hold / 3) peering.sent now) beat same
      (goes-sent as_number (phase peering) (phase (record peering { sent = now })) (keepalive ∷ []) (open_ (record peering { sent = now })) seat slot (IsQuiet-keepalive, tt)) still))

  goes-waiting : (phase : Phase) (since : ℕ) → is_closed phase ≡ false → GoesBy as_number phase (cond (has_passed LARGE_HOLD since now) expired (step phase nothing))
  goes-waiting phase since open_ = either as_number phase (has_passed LARGE_HOLD since now) expired (step phase nothing) (goes-expired phase) (goes-nothing as_number phase open_)

  goes-tick : (phase : Phase) → is_closed phase ≡ false → GoesBy as_number phase (tick now phase)
  unfolding tick
  goes-tick (OpenSent since) open_ = goes-waiting (OpenSent since) since refl
  goes-tick (Claiming since slot terms) open_ = goes-waiting (Claiming since slot terms) since refl
  goes-tick (OpenConfirm peering) open_ = goes-timed OpenConfirm peering (λ other. refl) refl refl
  goes-tick (Established peering) open_ = goes-timed Established peering (λ other. refl) refl refl
  goes-tick Closed open_ = absurd cc

pub goes-moment : (roster : RosterOf) (now : ℕ) (session : SessionState) → is_closed session.phase ≡ false
    → Goes roster.as_number session.phase (answer roster (Moment now) session).does (answer roster (Moment now) session).after.phase
goes-moment roster now session open_ =
    subst (λ (a : Answer). Goes roster.as_number session.phase a.does a.after.phase) (sym (answer-moment roster now session open_))
    (goes-tick roster.as_number (moment_in session now) session.phase open_)

pub goes-end : (roster : RosterOf) (session : SessionState) → is_closed session.phase ≡ false
    → Goes roster.as_number session.phase (answer roster End session).does (answer roster End session).after.phase
goes-end roster session open_ =
    subst (λ (a : Answer). Goes roster.as_number session.phase a.does a.after.phase) (sym (answer-end roster session open_))
    (goes-ended roster.as_number session.phase [] _)

-- ---- messages that are read

no_up-withdrawn : (ps : List IpPrefix) → list_any is_up (map Withdraw ps) ≡ false
no_up-withdrawn [] = refl
no_up-withdrawn (p ∷ ps) = no_up-withdrawn ps

no_up-announced : (route : RouteFields) (ps : List IpPrefix) → list_any is_up (map (λ p. Announce p route) ps) ≡ false
no_up-announced route [] = refl
no_up-announced route (p ∷ ps) = no_up-announced route ps

no_up-changes : (as_number : ℕ) (changes : Changes) → list_any is_up (changes_events as_number changes) ≡ false
no_up-changes as_number changes =
    let route = route_of number_width as_number changes.attributes in
    list_any-append is_up (map Withdraw changes.withdrawn) (map (λ p. Announce p route) changes.announced)
    ∙ or_from (list_any is_up (map Withdraw changes.withdrawn)) (list_any is_up (map (λ p. Announce p route) changes.announced)) (no_up-withdrawn changes.withdrawn) (no_up-announced route changes.announced)

module _ (roster : RosterOf) (now : ℕ) where
  goes-opened : (since : ℕ) (body : List ℕ) (found : Option FaultOf) → opening_fault roster body ≡ found → GoesBy roster.as_number (OpenSent since) (opened roster since body)
  goes-opened since body (Some why) is = rw (is, opened) (goes-failed roster.as_number (OpenSent since) why)
  goes-opened since body None is = rw (is, opened) record {
    told = tt;
    ends = refl;
    seat = λ still. refl;
    quiet = λ none. tt;
    shape = λ still. refl;
    claim = λ slot e. (since, negotiated roster body, ap (λ (found : Option ℕ). Claiming since (unwrap_or found 0) (negotiated roster body)) e);
  }

  goes-updated : (phase : Phase) (peering : Peering) (body : List ℕ) (found : Option FaultOf) → update_fault number_width body ≡ found → AreOctets body
      → seat_of phase ≡ Some peering.slot → slot_in phase ≡ Some peering.slot → GoesBy roster.as_number phase (updated roster peering body)
  goes-updated phase peering body (Some why) is octets seat slot = rw (is, updated) (goes-failed roster.as_number phase why)
  goes-updated phase peering body None is octets seat slot = rw (is, updated) record {
    told = told-changes roster.as_number body octets is;
    ends = refl;
    seat = λ still. sym seat;
    quiet = λ none. tt;
    shape = λ still. subst (λ (found : Option ℕ). Shape found (Some peering.slot) (changes_events roster.as_number (changes_of body))) (sym slot) (refl, no_up-changes roster.as_number (changes_of body));
    claim = λ slot e. absurd cc;
  }

  goes-notified : (phase : Phase) (body : List ℕ) → GoesBy roster.as_number phase (notified body)
  goes-notified phase body = goes-ended roster.as_number phase [] _

  goes-refused : (phase : Phase) → GoesBy roster.as_number phase refused
  goes-refused phase = goes-failed roster.as_number phase (fault 5 0 [])

  -- a NOTIFICATION, or a message that the phase doesn't take
  goes-otherwise : (phase : Phase) (message : List ℕ) → GoesBy roster.as_number phase (cond (eqb (type_field message) 3) (notified (drop 19 message)) refused)
  goes-otherwise phase message =
      either roster.as_number phase (eqb (type_field message) 3) (notified (drop 19 message)) refused (goes-notified phase (drop 19 message)) (goes-refused phase)

  goes-handled : (message : List ℕ) (phase : Phase) → reads phase ≡ true → AreOctets message → GoesBy roster.as_number phase (handle roster now message phase)
  unfolding handle
  goes-handled message (OpenSent since) r octets =
      either roster.as_number (OpenSent since) (eqb (type_field message) 1) (opened roster since (drop 19 message)) (cond (eqb (type_field message) 3) (notified (drop 19 message)) refused)
      (goes-opened since (drop 19 message) (opening_fault roster (drop 19 message)) refl) (goes-otherwise (OpenSent since) message)
  goes-handled message (OpenConfirm peering) r octets =
      either roster.as_number (OpenConfirm peering) (eqb (type_field message) 4) (step (Established (read_at now peering)) (telling (Up ∷ []))) (cond (eqb (type_field message) 3) (notified (drop 19 message)) refused)
      record { told = (tt, tt); ends = refl; seat = λ still. refl; quiet = λ none. tt; shape = λ still. ([], refl, refl); claim = λ slot e. absurd cc }
      (goes-otherwise (OpenConfirm peering) message)
  goes-handled message (Established peering) r octets =
      let other = cond (eqb (type_field message) 3) (notified (drop 19 message)) refused in
      let alive = step (Established (read_at now peering)) nothing in
      either roster.as_number (Established peering) (eqb (type_field message) 2) (updated roster (read_at now peering) (drop 19 message)) (cond (eqb (type_field message) 4) alive other)
      (goes-updated (Established peering) (read_at now peering) (drop 19 message) (update_fault number_width (drop 19 message)) refl (All-drop (λ o. o < 256) 19 message octets) refl refl)
      (either roster.as_number (Established peering) (eqb (type_field message) 4) alive other
      (goes-sent roster.as_number (Established peering) (Established (read_at now peering)) [] refl refl refl tt)
      (goes-otherwise (Established peering) message))
  goes-handled message (Claiming since slot terms) r octets = absurd cc
  goes-handled message Closed r octets = absurd cc

  -- ---- messages one after another

  -- where messages aren't read all stay
  handled-waiting : (messages : List (List ℕ)) (phase : Phase) → reads phase ≡ false → handle_all roster now messages phase ≡ record { phase = phase; does = nothing; unread = messages }
  unfolding handle_all
  handled-waiting [] phase waits = refl
  handled-waiting (message ∷ messages) phase waits = rw (waits) refl

  abbrev GoesAll : List (List ℕ) → Phase → Type 0
  GoesAll messages phase = Goes roster.as_number phase (handle_all roster now messages phase).does (handle_all roster now messages phase).phase

  goes-on : (messages : List (List ℕ)) (phase middle : Phase) (does : Doing) → Goes roster.as_number phase does middle → (is_closed middle ≡ false → GoesAll messages middle)
      → Goes roster.as_number phase (then_also does (handle_all roster now messages middle).does) (handle_all roster now messages middle).phase
  goes-on messages phase middle does before later =
      elim (cases_Bool (reads middle)) [
        | inl r ↦ goes-then roster.as_number phase middle _ does _ r before (later (reads-open middle r))
        | inr r ↦ rw (handled-waiting messages middle r, then-nothing does) before
      ]

  goes-all : (messages : List (List ℕ)) (phase : Phase) → is_closed phase ≡ false → AllByRecursion AreOctets messages → GoesAll messages phase
  unfolding handle_all
  goes-all [] phase open_ octets = goes-nothing roster.as_number phase open_
  goes-all (message ∷ messages) phase open_ octets =
      let first = handle roster now message phase in
      elim (cases_Bool (reads phase)) [
        | inl r ↦ rw (r) (goes-on messages phase first.phase first.does (goes-handled message phase r octets.0) (λ still. goes-all messages first.phase still octets.1))
        | inr r ↦ rw (r) (goes-nothing roster.as_number phase open_)
      ]

  -- ---- octets

  goes-fault : (rest : List ℕ) (found : Option FaultOf) (phase middle : Phase) (does : Doing) → reads middle ≡ true → Goes roster.as_number phase does middle
      → Goes roster.as_number phase (with_fault rest found middle does).does (with_fault rest found middle does).phase
  goes-fault rest None phase middle does r before = before
  goes-fault rest (Some why) phase middle does r before = goes-then roster.as_number phase middle Closed does _ r before (goes-failed roster.as_number middle why)

  goes-rest : (rest : List ℕ) (phase middle : Phase) (does : Doing) (unread : List (List ℕ)) → Goes roster.as_number phase does middle
      → Goes roster.as_number phase (with_rest rest middle does unread).does (with_rest rest middle does unread).phase
  goes-rest rest phase (OpenSent since) does unread before = goes-fault rest _ phase (OpenSent since) does refl before
  goes-rest rest phase (Claiming since slot terms) does unread before = before
  goes-rest rest phase (OpenConfirm peering) does unread before = goes-fault rest _ phase (OpenConfirm peering) does refl before
  goes-rest rest phase (Established peering) does unread before = goes-fault rest _ phase (Established peering) does refl before
  goes-rest rest phase Closed does unread before = before

  pub goes-course : (octets : List ℕ) (phase : Phase) → is_closed phase ≡ false → AreOctets octets → Goes roster.as_number phase (course_of roster now octets phase).does (course_of roster now octets phase).phase
  unfolding course_of
  goes-course octets phase open_ all =
      let handled = handle_all roster now (messages_in octets) phase in
      goes-rest (rest_of octets) phase handled.phase handled.does handled.unread
      (goes-all (messages_in octets) phase open_ (cut-All message_size IsSize-message_size (λ o. o < 256) octets all))

  pub goes-seated : (octets : List ℕ) (peering : Peering) → AreOctets octets → Goes roster.as_number (OpenConfirm peering) (seated roster now octets peering).does (seated roster now octets peering).phase
  goes-seated octets peering all =
      goes-then roster.as_number (OpenConfirm peering) (OpenConfirm peering) _ (sending keepalive) _ refl
      (goes-sent roster.as_number (OpenConfirm peering) (OpenConfirm peering) (keepalive ∷ []) refl refl refl (IsQuiet-keepalive, tt)) (goes-course octets (OpenConfirm peering) refl all)

-- ---- what comes

pub goes-octets : (roster : RosterOf) (piece : List ℕ) (now : ℕ) (session : SessionState) → is_closed session.phase ≡ false → AreOctets session.kept → AreOctets piece
    → Goes roster.as_number session.phase (answer roster (Octets piece now) session).does (answer roster (Octets piece now) session).after.phase
goes-octets roster piece now session open_ kept octets =
    subst (λ (a : Answer). Goes roster.as_number session.phase a.does a.after.phase) (sym (answer-octets roster piece now session open_))
    (goes-course roster (moment_in session now) (session.kept ++ piece) session.phase open_ (All-append (λ o. o < 256) session.kept piece kept octets))

-- the session of a slot from when it has its seat on
abbrev pub seated_peering : ℕ → Negotiated → ℕ → Peering
seated_peering slot terms now = record { slot = slot; negotiated = terms; read = now; sent = now }

module _ (roster : RosterOf) (now : ℕ) (session : SessionState) (since slot : ℕ) (terms : Negotiated) (waits : session.phase ≡ Claiming since slot terms) where
  answer-claiming : (free : Bool) → answer roster (Seat free now) session ≡ claim_answered roster free (moment_in session now) session.kept (Claiming since slot terms)
  answer-claiming free = answer-seat roster free now session (ap is_closed waits) ∙ ap (claim_answered roster free (moment_in session now) session.kept) waits

  pub goes-seat-free : AreOctets session.kept
      → Goes roster.as_number (OpenConfirm (seated_peering slot terms (moment_in session now))) (answer roster (Seat true now) session).does (answer roster (Seat true now) session).after.phase
  goes-seat-free kept =
      let peering = seated_peering slot terms (moment_in session now) in
      subst (λ (a : Answer). Goes roster.as_number (OpenConfirm peering) a.does a.after.phase) (sym (answer-claiming true)) (goes-seated roster (moment_in session now) session.kept peering kept)

  -- a seat that is taken ends the session, and nothing is reported
  pub goes-seat-taken : ((answer roster (Seat false now) session).after.phase ≡ Closed) × ((answer roster (Seat false now) session).does.events ≡ []) × ((answer roster (Seat false now) session).does ≡ seat_taken.does)
  goes-seat-taken =
      let same = answer-claiming false in
      (ap (λ (a : Answer). a.after.phase) same, ap (λ (a : Answer). a.does.events) same, ap (λ (a : Answer). a.does) same)
