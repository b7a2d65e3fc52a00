-- A session keeps the seat of its router until it ends, and claims one only of a router of the roster.
use Rattle.std.proofs.Common.{◌≡◌, ℕ, ◌<◌, ◌/◌, Bool, true, false, cond, ◌==◌, List, [], ◌∷◌, ◌++◌, length, Option, Some, None, ◌⊎◌, inl, inr, refl, sym, ap, subst, ◌∙◌}
use Rattle.std.proofs.lemmas.List.Quantifiers.{position-Some}
use Rattle.rcp_base.specs.Roster.{RosterOf}
use Rattle.rcp_base.specs.declared.names.Member.{Member}
use Rattle.rcp_model.specs.Attributes.{number_width}
use Rattle.rcp_model.specs.Messages.{FaultOf, messages_in, rest_of, type_field}
use Rattle.rcp_model.specs.Opens.{open_fields}
use Rattle.rcp_model.specs.Updates.{update_fault, changes_of}
use Rattle.rcp_model.specs.Sessions.{Negotiated, Peering, Phase, OpenSent, Claiming, OpenConfirm, Established, Closed, is_closed, reads, seat_of, SessionState, Up, Doing, nothing, sending, telling, later_of, then_also, Step, step, failed, refused, notified, OPEN, UPDATE, NOTIFICATION, KEEPALIVE, keepalive, body_of, slot_by_identifier, opening_fault, negotiated, claimed, opened, changes_events, updated, read_at, handle, handle_all, Handled, fault_in_front, with_fault, with_rest, course_of, has_passed, LARGE_HOLD, expired, timed, tick, Octets, Seat, Moment, End, Answer, answered, stepped, moment_in, claim_answered, shut, answer}

-- the slot whose seat is claimed
abbrev pub claim_in : Phase → Option ℕ
claim_in (Claiming since slot terms) = Some slot
claim_in phase = None

module _ (roster : RosterOf) where
  -- From the one phase to the other a seat is kept or given up. What is claimed is the seat of a router of the roster, for which the session waits.
  pub record Follows (before : Phase) (does : Doing) (after : Phase) : Type 0 where
    pub seat : (seat_of after ≡ None) ⊎ (seat_of after ≡ seat_of before)
    pub claim : (slot : ℕ) → does.claim ≡ Some slot → (slot < length roster.members) × (claim_in after ≡ Some slot)

  no_claim : (does : Doing) (after : Phase) → does.claim ≡ None → (slot : ℕ) → does.claim ≡ Some slot → (slot < length roster.members) × (claim_in after ≡ Some slot)
  no_claim does after none slot is = let no : None ≡ Some slot = sym none ∙ is in absurd cc

  ends : (before : Phase) (does : Doing) → does.claim ≡ None → Follows before does Closed
  ends before does none = record { seat = inl refl; claim = no_claim does Closed none }

  stays : (before after : Phase) (does : Doing) → does.claim ≡ None → seat_of after ≡ seat_of before → Follows before does after
  stays before after does none same = record { seat = inr same; claim = no_claim does after none }

  -- ---- one message

  is_router : (id slot : ℕ) → slot_by_identifier roster.members id ≡ Some slot → slot < length roster.members
  is_router id slot is = (position-Some (λ (m : Member). m.bgp_id == id) roster.members slot (record { router = 0; bgp_id = 0 }) is).0

  same_some : (s slot : ℕ) → Some s ≡ Some slot → s ≡ slot
  same_some s slot e = cc

  claims : (since id : ℕ) (terms : Negotiated) (o : Option ℕ) → slot_by_identifier roster.members id ≡ o → Follows (OpenSent since) (claimed since terms o).does (claimed since terms o).phase
  claims since id terms None is = record { seat = inl refl; claim = λ slot e. absurd cc }
  claims since id terms (Some s) is = record { seat = inl refl; claim = λ slot e. (subst (λ (n : ℕ). n < length roster.members) (same_some s slot e) (is_router id s is), e) }

  opens : (since : ℕ) (body : List ℕ) → Follows (OpenSent since) (opened roster since body).does (opened roster since body).phase
  opens since body = at_fault (opening_fault roster body) where
    at_fault : (o : Option FaultOf) → (let s : Step = elim o [ Some why ↦ failed why | None ↦ claimed since (negotiated roster body) (slot_by_identifier roster.members (open_fields body).id) ] in Follows (OpenSent since) s.does s.phase)
    at_fault (Some why) = ends (OpenSent since) (failed why).does refl
    at_fault None = claims since (open_fields body).id (negotiated roster body) (slot_by_identifier roster.members (open_fields body).id) refl

  updates : (now : ℕ) (peering : Peering) (body : List ℕ) → Follows (Established peering) (updated roster (read_at now peering) body).does (updated roster (read_at now peering) body).phase
  updates now peering body = at_fault (update_fault number_width body) where
    at_fault : (o : Option FaultOf) → (let s : Step = elim o [ Some why ↦ failed why | None ↦ step (Established (read_at now peering)) (telling (changes_events roster.as_number (changes_of body))) ] in Follows (Established peering) s.does s.phase)
    at_fault (Some why) = ends (Established peering) (failed why).does refl
    at_fault None = stays (Established peering) (Established (read_at now peering)) (telling (changes_events roster.as_number (changes_of body))) refl refl

  handled : (now : ℕ) (message : List ℕ) (phase : Phase) → Follows phase (handle roster now message phase).does (handle roster now message phase).phase
  unfolding handle
  handled now message (OpenSent since) = at_tests (type_field message == OPEN) (type_field message == NOTIFICATION) where
    at_tests : (a b : Bool) → (let s : Step = cond a (opened roster since (body_of message)) (cond b (notified (body_of message)) refused) in Follows (OpenSent since) s.does s.phase)
    at_tests true b = opens since (body_of message)
    at_tests false true = ends (OpenSent since) (notified (body_of message)).does refl
    at_tests false false = ends (OpenSent since) refused.does refl
  handled now message (OpenConfirm peering) = at_tests (type_field message == KEEPALIVE) (type_field message == NOTIFICATION) where
    at_tests : (a b : Bool) → (let s : Step = cond a (step (Established (read_at now peering)) (telling (Up ∷ []))) (cond b (notified (body_of message)) refused) in Follows (OpenConfirm peering) s.does s.phase)
    at_tests true b = stays (OpenConfirm peering) (Established (read_at now peering)) (telling (Up ∷ [])) refl refl
    at_tests false true = ends (OpenConfirm peering) (notified (body_of message)).does refl
    at_tests false false = ends (OpenConfirm peering) refused.does refl
  handled now message (Established peering) = at_tests (type_field message == UPDATE) (type_field message == KEEPALIVE) (type_field message == NOTIFICATION) where
    at_tests : (a b c : Bool) → (let s : Step = cond a (updated roster (read_at now peering) (body_of message)) (cond b (step (Established (read_at now peering)) nothing) (cond c (notified (body_of message)) refused)) in Follows (Established peering) s.does s.phase)
    at_tests true b c = updates now peering (body_of message)
    at_tests false true c = stays (Established peering) (Established (read_at now peering)) nothing refl refl
    at_tests false false true = ends (Established peering) (notified (body_of message)).does refl
    at_tests false false false = ends (Established peering) refused.does refl
  handled now message (Claiming since slot terms) = stays (Claiming since slot terms) (Claiming since slot terms) nothing refl refl
  handled now message Closed = stays Closed Closed nothing refl refl

  -- ---- messages, one after another

  waits : (now : ℕ) (messages : List (List ℕ)) (phase : Phase) (slot : ℕ) → claim_in phase ≡ Some slot
      → ((handle_all roster now messages phase).phase ≡ phase) × ((handle_all roster now messages phase).does.claim ≡ None)
  unfolding handle_all
  waits now [] phase slot is = (refl, refl)
  waits now (message ∷ messages) (Claiming since s terms) slot is = (refl, refl)
  waits now (message ∷ messages) (OpenSent since) slot is = absurd cc
  waits now (message ∷ messages) (OpenConfirm peering) slot is = absurd cc
  waits now (message ∷ messages) (Established peering) slot is = absurd cc
  waits now (message ∷ messages) Closed slot is = absurd cc

  then_seat : (p q r : Phase) → (seat_of q ≡ None) ⊎ (seat_of q ≡ seat_of p) → (seat_of r ≡ None) ⊎ (seat_of r ≡ seat_of q) → (seat_of r ≡ None) ⊎ (seat_of r ≡ seat_of p)
  then_seat p q r first (inl none) = inl none
  then_seat p q r (inl none) (inr same) = inl (same ∙ none)
  then_seat p q r (inr first) (inr same) = inr (same ∙ first)

  then_follows : (p q r : Phase) (a b : Doing) → Follows p a q → Follows q b r → ((slot : ℕ) → claim_in q ≡ Some slot → (r ≡ q) × (b.claim ≡ None)) → Follows p (then_also a b) r
  then_follows p q r a b first second waiting = record {
    seat = then_seat p q r first.seat second.seat;
    claim = at_claim b.claim refl;
  } where
    at_claim : (o : Option ℕ) → b.claim ≡ o → (slot : ℕ) → later_of a.claim o ≡ Some slot → (slot < length roster.members) × (claim_in r ≡ Some slot)
    at_claim (Some s) is slot e = second.claim slot (is ∙ e)
    at_claim None is slot e =
        let one = first.claim slot e in
        (one.0, ap claim_in (waiting slot one.1).0 ∙ one.1)

  handled_all : (now : ℕ) (messages : List (List ℕ)) (phase : Phase) → Follows phase (handle_all roster now messages phase).does (handle_all roster now messages phase).phase
  unfolding handle_all
  handled_all now [] phase = stays phase phase nothing refl refl
  handled_all now (message ∷ messages) phase =
      at_reads (reads phase)
      (then_follows phase (handle roster now message phase).phase (handle_all roster now messages (handle roster now message phase).phase).phase
      (handle roster now message phase).does (handle_all roster now messages (handle roster now message phase).phase).does
      (handled now message phase) (handled_all now messages (handle roster now message phase).phase) (waits now messages (handle roster now message phase).phase)) where
        at_reads : (b : Bool) → (let first = handle roster now message phase in let others = handle_all roster now messages first.phase in Follows phase (then_also first.does others.does) others.phase)
            → (let first = handle roster now message phase in let others = handle_all roster now messages first.phase in
            let all : Handled = cond b (record others { does = then_also first.does others.does }) (record { phase = phase; does = nothing; unread = message ∷ messages }) in
            Follows phase all.does all.phase)
        at_reads true h = h
        at_reads false h = stays phase phase nothing refl refl

  -- ---- octets

  with_faulty : (p q : Phase) (does : Doing) (rest : List ℕ) (o : Option FaultOf) → claim_in q ≡ None → Follows p does q → Follows p (with_fault rest o q does).does (with_fault rest o q does).phase
  with_faulty p q does rest None none h = h
  with_faulty p q does rest (Some why) none h = record {
    seat = inl refl;
    claim = λ slot is. let no : None ≡ Some slot = sym none ∙ (h.claim slot is).1 in absurd cc;
  }

  with_all : (p q : Phase) (does : Doing) (rest : List ℕ) (unread : List (List ℕ)) → Follows p does q → Follows p (with_rest rest q does unread).does (with_rest rest q does unread).phase
  with_all p Closed does rest unread h = h
  with_all p (Claiming since slot terms) does rest unread h = h
  with_all p (OpenSent since) does rest unread h = with_faulty p (OpenSent since) does rest (fault_in_front rest) refl h
  with_all p (OpenConfirm peering) does rest unread h = with_faulty p (OpenConfirm peering) does rest (fault_in_front rest) refl h
  with_all p (Established peering) does rest unread h = with_faulty p (Established peering) does rest (fault_in_front rest) refl h

  course_follows : (now : ℕ) (octets : List ℕ) (phase : Phase) → Follows phase (course_of roster now octets phase).does (course_of roster now octets phase).phase
  unfolding course_of
  course_follows now octets phase =
      let all = handle_all roster now (messages_in octets) phase in
      with_all phase all.phase all.does (rest_of octets) all.unread (handled_all now (messages_in octets) phase)

  -- ---- time

  timed_follows : (phase : Peering → Phase) (now : ℕ) (peering : Peering) → ((p : Peering) → seat_of (phase p) ≡ Some p.slot) → (seat_of (timed phase now peering).phase ≡ None) ⊎ (seat_of (timed phase now peering).phase ≡ seat_of (phase peering))
  timed_follows phase now peering holds = at_tests (peering.negotiated.hold == 0) (has_passed peering.negotiated.hold peering.read now) (has_passed (peering.negotiated.hold / 3) peering.sent now) where
    at_tests : (a b c : Bool) → (let s : Step = cond a (step (phase peering) nothing) (cond b expired (cond c (step (phase (record peering { sent = now })) (sending keepalive)) (step (phase peering) nothing))) in
        (seat_of s.phase ≡ None) ⊎ (seat_of s.phase ≡ seat_of (phase peering)))
    at_tests true b c = inr refl
    at_tests false true c = inl refl
    at_tests false false true = inr (holds (record peering { sent = now }) ∙ sym (holds peering))
    at_tests false false false = inr refl

  ticked : (now : ℕ) (phase : Phase) → (seat_of (tick now phase).phase ≡ None) ⊎ (seat_of (tick now phase).phase ≡ seat_of phase)
  unfolding tick
  ticked now (OpenSent since) = at_test (has_passed LARGE_HOLD since now) where
    at_test : (b : Bool) → (let s : Step = cond b expired (step (OpenSent since) nothing) in (seat_of s.phase ≡ None) ⊎ (seat_of s.phase ≡ None))
    at_test true = inl refl
    at_test false = inl refl
  ticked now (Claiming since slot terms) = at_test (has_passed LARGE_HOLD since now) where
    at_test : (b : Bool) → (let s : Step = cond b expired (step (Claiming since slot terms) nothing) in (seat_of s.phase ≡ None) ⊎ (seat_of s.phase ≡ None))
    at_test true = inl refl
    at_test false = inl refl
  ticked now (OpenConfirm peering) = timed_follows OpenConfirm now peering (λ p. refl)
  ticked now (Established peering) = timed_follows Established now peering (λ p. refl)
  ticked now Closed = inl refl

  -- ---- answers

  pub octets_follow : (octets : List ℕ) (now : ℕ) (session : SessionState) → (let a = answer roster (Octets octets now) session in Follows session.phase a.does a.after.phase)
  unfolding answer
  octets_follow octets now session = at_closed (is_closed session.phase) where
    at_closed : (b : Bool) → (let a : Answer = cond b (record { after = session; does = nothing }) (answered (moment_in session now) (course_of roster (moment_in session now) (session.kept ++ octets) session.phase)) in Follows session.phase a.does a.after.phase)
    at_closed true = stays session.phase session.phase nothing refl refl
    at_closed false = course_follows (moment_in session now) (session.kept ++ octets) session.phase

  pub time_keeps : (now : ℕ) (session : SessionState) → (let a = answer roster (Moment now) session in (seat_of a.after.phase ≡ None) ⊎ (seat_of a.after.phase ≡ seat_of session.phase))
  unfolding answer
  time_keeps now session = at_closed (is_closed session.phase) where
    at_closed : (b : Bool) → (let a : Answer = cond b (record { after = session; does = nothing }) (stepped (moment_in session now) session.kept (tick (moment_in session now) session.phase)) in
        (seat_of a.after.phase ≡ None) ⊎ (seat_of a.after.phase ≡ seat_of session.phase))
    at_closed true = inr refl
    at_closed false = ticked (moment_in session now) session.phase

  pub end_keeps : (session : SessionState) → (let a = answer roster End session in (seat_of a.after.phase ≡ None) ⊎ (seat_of a.after.phase ≡ seat_of session.phase))
  unfolding answer
  end_keeps session = at_closed (is_closed session.phase) where
    at_closed : (b : Bool) → (let a : Answer = cond b (record { after = session; does = nothing }) (stepped session.latest session.kept shut) in
        (seat_of a.after.phase ≡ None) ⊎ (seat_of a.after.phase ≡ seat_of session.phase))
    at_closed true = inr refl
    at_closed false = inl refl

  -- a claim that is answered gives its seat, where it is free
  claim_keeps : (free : Bool) (now : ℕ) (kept : List ℕ) (since slot : ℕ) (terms : Negotiated)
      → (let a = claim_answered roster free now kept (Claiming since slot terms) in (seat_of a.after.phase ≡ None) ⊎ ((free ≡ true) × (seat_of a.after.phase ≡ Some slot)))
  claim_keeps true now kept since slot terms =
      elim (course_follows now kept (OpenConfirm (record { slot = slot; negotiated = terms; read = now; sent = now }))).seat [ inl none ↦ inl none | inr same ↦ inr (refl, same) ]
  claim_keeps false now kept since slot terms = inl refl

  pub seat_given : (free : Bool) (now slot : ℕ) (session : SessionState) → claim_in session.phase ≡ Some slot
      → (let a = answer roster (Seat free now) session in (seat_of a.after.phase ≡ None) ⊎ ((free ≡ true) × (seat_of a.after.phase ≡ Some slot)))
  unfolding answer
  seat_given free now slot session is = at_phase session.phase refl is where
    at_phase : (phase : Phase) → session.phase ≡ phase → claim_in phase ≡ Some slot
        → (let a : Answer = cond (is_closed phase) (record { after = session; does = nothing }) (claim_answered roster free (moment_in session now) session.kept phase) in (seat_of a.after.phase ≡ None) ⊎ ((free ≡ true) × (seat_of a.after.phase ≡ Some slot)))
    at_phase (Claiming since s terms) same is = subst (λ (n : ℕ). (let a = claim_answered roster free (moment_in session now) session.kept (Claiming since s terms) in (seat_of a.after.phase ≡ None) ⊎ ((free ≡ true) × (seat_of a.after.phase ≡ Some n))))
        (same_some s slot is) (claim_keeps free (moment_in session now) session.kept since s terms)
    at_phase (OpenSent since) same is = absurd cc
    at_phase (OpenConfirm peering) same is = absurd cc
    at_phase (Established peering) same is = absurd cc
    at_phase Closed same is = absurd cc
