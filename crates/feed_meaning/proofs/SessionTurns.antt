-- The turns of a record keep what is kept.
use Rattle.std.proofs.Common.{◌≡◌, ℕ, ◌≤◌, ◌<◌, Bool, true, false, cond, not, eqb, ltb, List, [], ◌∷◌, ◌++◌, map, Option, Some, None, refl, sym, ap, subst, ◌∙◌, inl, inr, arith, append_assoc}
use Rattle.std.specs.Prelude.{is_some}
use Rattle.std.specs.List.{list_any, flat_map, AllByRecursion}
use Rattle.std.proofs.lemmas.Bool.{cases_Bool, eq-eqb, both_ways, not-true, ltb-true, ltb-false, or_parts}
use Rattle.std.proofs.lemmas.List.{append-nil}
use Rattle.std.proofs.lemmas.List.Elements.{All-nil}
use Rattle.rcp_base.specs.declared.kinds.Kind.{Kind}
use Rattle.rcp_base.specs.declared.kinds.Kind.TheVariants as kind
use Rattle.rcp_base.specs.Feed.{FeedRecord, OutRecord, begins, moment_of}
use Rattle.rcp_base.specs.Roster.{RosterOf}
use Rattle.rcp_base.specs.Maps.{get_at, set_at}
use Rattle.rcp_model.specs.LinkState.{same_number}
use Rattle.rcp_model.specs.Sessions.{Doing, Ending, Phase, OpenSent, Claiming, Negotiated, SessionState, Answer, Octets, Seat, Moment, End, later_of, answer, begun, begun_established, is_closed, seat_taken, stepped, then_also, seat_of, slot_in}
use Rattle.rcp_base.specs.Octets.{AreOctets}
use Rattle.rcp_model.specs.Telling.{IsTold}
use Rattle.feed_meaning.specs.Platform.{Connections, Platform}
use Rattle.feed_meaning.specs.SessionTurns.{is_slot, is_free, Turn, turn, simple_turn, claim_turn, octets_turn, connection_at, ready_turn, slot_named, turns_of, after_turn, after_turns, turn_output, noted, record_turns}
use Rattle.rcp_base.proofs.MapLemmas.{get_at-set_at_other}
use Rattle.rcp_model.proofs.ServerLemmas.{number_test, number-other}
use Rattle.rcp_model.proofs.AllLemmas.{all-append}
use Rattle.feed_meaning.proofs.RunLemmas.{Replays-nothing}
use Rattle.rcp_model.proofs.SessionLemmas.{later_of-none}
use Rattle.rcp_model.proofs.CourseLemmas.{IsQuiet, Shape, Goes, goes-begun, goes-moment, goes-end, goes-octets, goes-seat-free, goes-seat-taken}
use Rattle.rcp_model.proofs.KeptLemmas.{kept-octets}
use Rattle.feed_meaning.proofs.TurnLemmas.{Distinct, Kept, IsTurn, kept-turn}

-- ---- turns that are lists

-- the number of a connection that is there isn't above the last
number-begun : (platform : Platform) (outs : List OutRecord) (last n : ℕ) (s : SessionState) → Kept platform outs last → get_at same_number n platform.connections ≡ Some s → n ≤ last
number-begun platform outs last n s h is =
    elim (cases_Bool (ltb last n)) [
      | inl e ↦ let no : None ≡ Some s = sym (h.absent n (ltb-true last n e)) ∙ is in absurd cc
      | inr e ↦ omega (arith, ltb-false last n e)
    ]

-- what an input does in a phase is a turn from there
goes-turn : (roster : RosterOf) (n : ℕ) (s : SessionState) (a : Answer) → Goes roster.as_number s.phase a.does a.after.phase → AreOctets a.after.kept
    → IsTurn roster.as_number s.phase (turn n (seat_of s.phase) a)
goes-turn roster n s a goes octets = record { good = goes.told; ends = goes.ends; seat = goes.seat; quiet = goes.quiet; shape = goes.shape; octets = octets }

-- the turn of a connection that is there
kept-own : (platform : Platform) (outs : List OutRecord) (last n : ℕ) (s : SessionState) (a : Answer) → get_at same_number n platform.connections ≡ Some s
    → Goes platform.roster.as_number s.phase a.does a.after.phase → AreOctets a.after.kept
    → Kept platform outs last → Kept (after_turn (turn n (seat_of s.phase) a) platform) (outs ++ turn_output (turn n (seat_of s.phase) a)) last
kept-own platform outs last n s a is goes octets h =
    kept-turn platform outs last s.phase (turn n (seat_of s.phase) a) (goes-turn platform.roster n s a goes octets) (h.told n s is)
    (λ m slot t is_m seat other. h.seats m n slot t s is_m is other seat)
    (number-begun platform outs last n s h is) h

-- ---- a time

-- each entry of a list is the session of its connection
abbrev AreThere : Connections → Connections → Type 0
AreThere es connections = AllByRecursion (λ (e : ℕ × SessionState). get_at same_number e.0 connections ≡ Some e.1) es

there-besides : (es others : Connections) (number : ℕ) (value : Option SessionState) → get_at same_number number es ≡ None → AreThere es others
    → AreThere es (set_at same_number number value others)
there-besides [] others number value none there = tt
there-besides (e ∷ es) others number value none there =
    elim (cases_Bool (eqb number e.0)) [
      | inl t ↦ let no : Some e.1 ≡ None = rw t at none in absurd cc
      | inr f ↦ (
        get_at-set_at_other same_number number_test number e.0 value others (number-other number e.0 f) f ∙ there.0,
        there-besides es others number value (rw f at none) there.1,
      )
    ]

there-itself : (es : Connections) → Distinct es → AreThere es es
there-itself [] d = tt
there-itself (e ∷ es) d = (rw (eq-eqb e.0 e.0 refl) refl, behind es (there-itself es d.1) (none-of es d.0)) where
  -- no entry has the number in front
  none-of : (rest : Connections) → get_at same_number e.0 rest ≡ None → AllByRecursion (λ (o : ℕ × SessionState). eqb o.0 e.0 ≡ false) rest
  none-of [] none = tt
  none-of (o ∷ rest) none =
      elim (cases_Bool (eqb e.0 o.0)) [
        | inl t ↦ let no : Some o.1 ≡ None = rw t at none in absurd cc
        | inr f ↦ (number-other e.0 o.0 f, none-of rest (rw f at none))
      ]

  behind : (rest : Connections) → AreThere rest es → AllByRecursion (λ (o : ℕ × SessionState). eqb o.0 e.0 ≡ false) rest → AreThere rest (e ∷ es)
  behind [] there others = tt
  behind (o ∷ rest) there others = (rw others.0 there.0, behind rest there.1 others.1)

kept-moment : (es : Connections) (platform : Platform) (outs : List OutRecord) (last now : ℕ) → Distinct es → AreThere es platform.connections → Kept platform outs last
    → Kept (after_turns (map (simple_turn platform.roster (Moment now)) es) platform) (outs ++ flat_map turn_output (map (simple_turn platform.roster (Moment now)) es)) last
kept-moment [] platform outs last now d there h = rw (append-nil outs) h
kept-moment (e ∷ es) platform outs last now d there h =
    let first = simple_turn platform.roster (Moment now) e in
    let is_open = h.are_open e.0 e.1 there.0 in
    let octets = h.octets e.0 e.1 there.0 in
    let one = kept-own platform outs last e.0 e.1 (answer platform.roster (Moment now) e.1) there.0 (goes-moment platform.roster now e.1 is_open) (kept-octets platform.roster (Moment now) e.1 octets tt) h in
    rw (← append_assoc outs (turn_output first) (flat_map turn_output (map (simple_turn platform.roster (Moment now)) es)))
    (kept-moment es (after_turn first platform) (outs ++ turn_output first) last now d.1 (there-besides es platform.connections e.0 _ d.0 there.1) one)

-- ---- octets and ends

-- the connection of a number, as it is found
found : ℕ → Option SessionState → Connections
found n None = []
found n (Some s) = (n, s) ∷ []

connection-found : (es : Connections) (n : ℕ) (o : Option SessionState) → get_at same_number n es ≡ o → connection_at es n ≡ found n o
unfolding found
connection-found es n o is = subst (λ (o : Option SessionState). connection_at es n ≡ found n o) is (at (get_at same_number n es)) where
  at : (o : Option SessionState) → elim o [ None ↦ [] | Some s ↦ (n, s) ∷ [] ] ≡ found n o
  at None = refl
  at (Some s) = refl

connection-none : (es : Connections) (n : ℕ) → get_at same_number n es ≡ None → connection_at es n ≡ []
unfolding found
connection-none es n is = connection-found es n None is

connection-some : (es : Connections) (n : ℕ) (s : SessionState) → get_at same_number n es ≡ Some s → connection_at es n ≡ (n, s) ∷ []
unfolding found
connection-some es n s is = connection-found es n (Some s) is

-- one turn, of the platform as it is
kept-one : (platform : Platform) (outs : List OutRecord) (last : ℕ) (one : Turn) → Kept (after_turn one platform) (outs ++ turn_output one) last
    → Kept (after_turns (one ∷ []) platform) (outs ++ flat_map turn_output (one ∷ [])) last
kept-one platform outs last one h = rw (append-nil (turn_output one)) h

kept-end : (platform : Platform) (outs : List OutRecord) (last n : ℕ) (found : Option SessionState) → get_at same_number n platform.connections ≡ found → Kept platform outs last
    → Kept (after_turns (map (simple_turn platform.roster End) (connection_at platform.connections n)) platform) (outs ++ flat_map turn_output (map (simple_turn platform.roster End) (connection_at platform.connections n))) last
kept-end platform outs last n None is h = rw (connection-none platform.connections n is, append-nil outs) h
kept-end platform outs last n (Some s) is h =
    let is_open = h.are_open n s is in
    let octets = h.octets n s is in
    rw (connection-some platform.connections n s is) (kept-one platform outs last (simple_turn platform.roster End (n, s))
    (kept-own platform outs last n s (answer platform.roster End s) is (goes-end platform.roster s is_open) (kept-octets platform.roster End s octets tt) h))

-- ---- a claim

none_some : {X : Type 0} {x : X} → None ≡ Some x → ⊥
none_some e = cc

-- no connection holds a seat that is free
free-alone : (es : Connections) (slot n : ℕ) (s : SessionState) → is_free es slot ≡ true → get_at same_number n es ≡ Some s → seat_of s.phase ≡ Some slot → ⊥
free-alone [] slot n s free is seat = absurd (none_some is)
free-alone (e ∷ es) slot n s free is seat =
    let parts = or_parts (is_slot slot (seat_of e.1.phase)) (list_any (λ (o : ℕ × SessionState). is_slot slot (seat_of o.1.phase)) es) (not-true (list_any (λ (o : ℕ × SessionState). is_slot slot (seat_of o.1.phase)) (e ∷ es)) free) in
    elim (cases_Bool (eqb n e.0)) [
      | inl t ↦
          let same : Some e.1 ≡ Some s = rw t at is in
          let s_is : e.1 ≡ s = cc in
          let held : is_slot slot (seat_of e.1.phase) ≡ true = rw (s_is, seat) (eq-eqb slot slot refl) in
          both_ways (is_slot slot (seat_of e.1.phase)) parts.0 held
      | inr f ↦ free-alone es slot n s (ap not parts.1) (rw f at is) seat
    ]

module _ (platform : Platform) (outs : List OutRecord) (last n : ℕ) (s : SessionState) (body : List ℕ)
    (is : get_at same_number n platform.connections ≡ Some s) (small : AreOctets body) (h : Kept platform outs last) where
  first : Answer
  first = answer platform.roster (Octets body platform.moment) s

  goes : Goes platform.roster.as_number s.phase first.does first.after.phase
  unfolding first
  goes = goes-octets platform.roster body platform.moment s (h.are_open n s is) (h.octets n s is) small

  first-kept : AreOctets first.after.kept
  unfolding first
  first-kept = kept-octets platform.roster (Octets body platform.moment) s (h.octets n s is) small

  module _ (since slot : ℕ) (terms : Negotiated) (waits : first.after.phase ≡ Claiming since slot terms) where
    still : is_closed first.after.phase ≡ false
    still = ap is_closed waits

    unended : first.does.closed ≡ None
    unended = by_end first.does.closed refl where
      by_end : (found : Option Ending) → first.does.closed ≡ found → first.does.closed ≡ None
      by_end None e = e
      by_end (Some ending) e = let shut : is_closed first.after.phase ≡ true = goes.ends ∙ ap is_some e in absurd (both_ways (is_closed first.after.phase) still shut)

    -- where a claim is made no slot was connected, and nothing was reported
    quiet-shape : (was : Option ℕ) → Shape was None first.does.events → (was ≡ None) × (first.does.events ≡ [])
    quiet-shape None shape = (refl, shape)
    quiet-shape (Some old) shape = absurd shape

    before-claim : (slot_in s.phase ≡ None) × (first.does.events ≡ [])
    before-claim = quiet-shape (slot_in s.phase) (subst (λ (p : Phase). Shape (slot_in s.phase) (slot_in p) first.does.events) waits (goes.shape still))

    second : Bool → Answer
    second free = answer platform.roster (Seat free platform.moment) first.after

    joined : Bool → Answer
    joined free = record (second free) { does = then_also first.does (second free).does }

    seated : IsTurn platform.roster.as_number s.phase (turn n (Some slot) (joined true))
    unfolding second joined
    seated =
        let goes_on = goes-seat-free platform.roster platform.moment first.after since slot terms waits first-kept in
        record {
          good = all-append (IsTold platform.roster.as_number) first.does.events (second true).does.events goes.told goes_on.told;
          ends = goes_on.ends ∙ ended_by;
          seat = λ is_open. goes_on.seat is_open;
          quiet = λ none. all-append IsQuiet first.does.sent (second true).does.sent (goes.quiet unended) (goes_on.quiet (sym closed_by ∙ none));
          shape = λ is_open. rw (before-claim.0, before-claim.1) (goes_on.shape is_open);
          octets = kept-octets platform.roster (Seat true platform.moment) first.after first-kept tt;
        }
      where
        closed_by : (joined true).does.closed ≡ (second true).does.closed
        closed_by = ap (λ (c : Option Ending). later_of c (second true).does.closed) unended ∙ later_of-none (second true).does.closed

        ended_by : is_some (second true).does.closed ≡ is_some (joined true).does.closed
        ended_by = ap is_some (sym closed_by)

    refused : IsTurn platform.roster.as_number s.phase (turn n None (joined false))
    unfolding second joined
    refused =
        let shut = goes-seat-taken platform.roster platform.moment first.after since slot terms waits in
        let is_shut : is_closed (second false).after.phase ≡ true = ap is_closed shut.0 in
        record {
          good = all-append (IsTold platform.roster.as_number) first.does.events (second false).does.events goes.told (subst (AllByRecursion (IsTold platform.roster.as_number)) (sym shut.1) tt);
          ends = is_shut ∙ ended_by shut.2;
          seat = λ is_open. absurd (both_ways (is_closed (second false).after.phase) is_open is_shut);
          quiet = λ none. absurd (none_some (sym none ∙ by_cease shut.2));
          shape = λ is_open. absurd (both_ways (is_closed (second false).after.phase) is_open is_shut);
          octets = kept-octets platform.roster (Seat false platform.moment) first.after first-kept tt;
        }
      where
        by_cease : (second false).does ≡ seat_taken.does → (joined false).does.closed ≡ seat_taken.does.closed
        by_cease e = ap (λ (c : Option Ending). later_of c (second false).does.closed) unended ∙ later_of-none (second false).does.closed ∙ ap (λ (d : Doing). d.closed) e

        ended_by : (second false).does ≡ seat_taken.does → true ≡ is_some (joined false).does.closed
        ended_by e = ap is_some (sym (by_cease e))

    kept-answered : Kept (after_turn (claim_turn platform n (seat_of s.phase) first (Some slot)) platform) (outs ++ turn_output (claim_turn platform n (seat_of s.phase) first (Some slot))) last
    unfolding second joined
    kept-answered =
        elim (cases_Bool (is_free platform.connections slot)) [
          | inl free ↦ rw free
              (kept-turn platform outs last s.phase (turn n (Some slot) (joined true)) seated (h.told n s is)
              (λ m other t is_m seat held. absurd (taken other m t free is_m seat held))
              (number-begun platform outs last n s h is) h)
          | inr busy ↦ rw busy
              (kept-turn platform outs last s.phase (turn n None (joined false)) refused (h.told n s is)
              (λ m other t is_m seat held. absurd (none_some seat))
              (number-begun platform outs last n s h is) h)
        ]
      where
        taken : (other m : ℕ) (t : SessionState) → is_free platform.connections slot ≡ true → get_at same_number m platform.connections ≡ Some t → Some slot ≡ Some other → seat_of t.phase ≡ Some other → ⊥
        taken other m t free is_m seat held = let other_is : slot ≡ other = cc in free-alone platform.connections slot m t free is_m (held ∙ ap Some (sym other_is))

  kept-claim : (claim : Option ℕ) → first.does.claim ≡ claim
      → Kept (after_turn (claim_turn platform n (seat_of s.phase) first claim) platform) (outs ++ turn_output (claim_turn platform n (seat_of s.phase) first claim)) last
  kept-claim None claimed = kept-own platform outs last n s first is goes first-kept h
  kept-claim (Some slot) claimed = let made = goes.claim slot claimed in kept-answered made.0 slot made.1 made.2

  kept-heard : Kept (after_turn (octets_turn platform body (n, s)) platform) (outs ++ turn_output (octets_turn platform body (n, s))) last
  unfolding first
  kept-heard = kept-claim first.does.claim refl

kept-octets_turn : (platform : Platform) (outs : List OutRecord) (last n : ℕ) (body : List ℕ) (found : Option SessionState) → get_at same_number n platform.connections ≡ found → AreOctets body → Kept platform outs last
    → Kept (after_turns (map (octets_turn platform body) (connection_at platform.connections n)) platform) (outs ++ flat_map turn_output (map (octets_turn platform body) (connection_at platform.connections n))) last
kept-octets_turn platform outs last n body None is small h = rw (connection-none platform.connections n is, append-nil outs) h
kept-octets_turn platform outs last n body (Some s) is small h =
    rw (connection-some platform.connections n s is) (kept-one platform outs last (octets_turn platform body (n, s)) (kept-heard platform outs last n s body is small h))

-- ---- connections that begin

-- the turn of a new connection, from a phase in which nothing is connected
kept-new : (platform : Platform) (outs : List OutRecord) (last number : ℕ) (phase : Phase) (one : Turn) → last < number → one.number ≡ number → slot_in phase ≡ None
    → IsTurn platform.roster.as_number phase one
    → ((m slot : ℕ) (t : SessionState) → get_at same_number m platform.connections ≡ Some t → one.seat ≡ Some slot → seat_of t.phase ≡ Some slot → m ≡ one.number)
    → Kept platform outs number → Kept platform outs last
    → Kept (after_turns (one ∷ []) platform) (outs ++ flat_map turn_output (one ∷ [])) number
kept-new platform outs last number phase one above number_is quiet is_turn alone later h =
    kept-one platform outs number one
    (kept-turn platform outs number phase one is_turn
    (rw (quiet, number_is, h.unsent number above) Replays-nothing)
    alone (omega (arith, number_is)) later)

raw-turn : (roster : RosterOf) (now number : ℕ) → IsTurn roster.as_number (OpenSent now) (turn number None (begun roster now))
unfolding begun
raw-turn roster now number =
    let goes = goes-begun roster now in
    record { good = goes.told; ends = goes.ends; seat = goes.seat; quiet = goes.quiet; shape = goes.shape; octets = All-nil (λ o. o < 256) }

kept-raw : (platform : Platform) (outs : List OutRecord) (last number : ℕ) → last < number → Kept platform outs number → Kept platform outs last
    → Kept (after_turns (turn number None (begun platform.roster platform.moment) ∷ []) platform) (outs ++ flat_map turn_output (turn number None (begun platform.roster platform.moment) ∷ [])) number
kept-raw platform outs last number above later h =
    kept-new platform outs last number (OpenSent platform.moment) (turn number None (begun platform.roster platform.moment)) above refl refl
    (raw-turn platform.roster platform.moment number) (λ m slot t is seat held. absurd (none_some seat)) later h

ready-turn : (as_number slot number : ℕ) → IsTurn as_number (OpenSent 0) (turn number (Some slot) (begun_established slot))
unfolding begun_established
ready-turn as_number slot number = record {
  good = (tt, tt);
  ends = refl;
  seat = λ is_open. refl;
  quiet = λ none. tt;
  shape = λ is_open. ([], refl, refl);
  octets = All-nil (λ o. o < 256);
}

cease-turn : (as_number number : ℕ) → IsTurn as_number (OpenSent 0) (turn number None (stepped 0 [] seat_taken))
cease-turn as_number number = record {
  good = tt;
  ends = refl;
  seat = λ is_open. absurd (both_ways true is_open refl);
  quiet = λ none. absurd (none_some (sym none));
  shape = λ is_open. absurd (both_ways true is_open refl);
  octets = All-nil (λ o. o < 256);
}

kept-ready : (platform : Platform) (outs : List OutRecord) (last number : ℕ) (found : Option ℕ) → last < number → Kept platform outs number → Kept platform outs last
    → Kept (after_turns (ready_turn platform number found) platform) (outs ++ flat_map turn_output (ready_turn platform number found)) number
kept-ready platform outs last number None above later h = rw (append-nil outs) later
kept-ready platform outs last number (Some slot) above later h =
    elim (cases_Bool (is_free platform.connections slot)) [
      | inl free ↦ rw free
          (kept-new platform outs last number (OpenSent 0) (turn number (Some slot) (begun_established slot)) above refl refl (ready-turn platform.roster.as_number slot number)
          (λ m other t is seat held. absurd (taken other m t free is seat held)) later h)
      | inr busy ↦ rw busy
          (kept-new platform outs last number (OpenSent 0) (turn number None (stepped 0 [] seat_taken)) above refl refl (cease-turn platform.roster.as_number number)
          (λ m other t is seat held. absurd (none_some seat)) later h)
    ]
  where
    taken : (other m : ℕ) (t : SessionState) → is_free platform.connections slot ≡ true → get_at same_number m platform.connections ≡ Some t → Some slot ≡ Some other → seat_of t.phase ≡ Some other → ⊥
    taken other m t free is seat held = let other_is : slot ≡ other = cc in free-alone platform.connections slot m t free is (held ∙ ap Some (sym other_is))

-- ---- the turns of a record

-- a later number may be the last
pub kept-later : (platform : Platform) (outs : List OutRecord) (last later : ℕ) → last ≤ later → Kept platform outs last → Kept platform outs later
kept-later platform outs last later more h = record {
  settled = h.settled;
  rising = h.rising;
  distinct = h.distinct;
  seats = h.seats;
  are_open = h.are_open;
  octets = h.octets;
  told = h.told;
  absent = λ n above. h.absent n (omega (arith, more, above));
  unsent = λ n above. h.unsent n (omega (arith, more, above));
}

-- the time is of no account
kept-at : (platform : Platform) (outs : List OutRecord) (last now : ℕ) → Kept platform outs last → Kept (record platform { moment = now }) outs last
kept-at platform outs last now h = record {
  settled = h.settled;
  rising = h.rising;
  distinct = h.distinct;
  seats = h.seats;
  are_open = h.are_open;
  octets = h.octets;
  told = h.told;
  absent = h.absent;
  unsent = h.unsent;
}

-- the turns of a kind, with the greatest number afterwards
by_kind : (platform : Platform) (outs : List OutRecord) (last number : ℕ) (body : List ℕ) (k : Kind) → AreOctets body → (begins k ≡ true → last < number) → Kept platform outs last
    → Kept (after_turns (turns_of platform number body k) (noted (record { kind = k; source = number; body = body }) platform)) (outs ++ flat_map turn_output (turns_of platform number body k)) (cond (begins k) number last)
by_kind platform outs last number body kind.Ready small rises h =
    kept-ready platform outs last number (slot_named platform.roster body) (rises refl) (kept-later platform outs last number (omega (arith, rises refl)) h) h
by_kind platform outs last number body kind.Raw small rises h = kept-raw platform outs last number (rises refl) (kept-later platform outs last number (omega (arith, rises refl)) h) h
by_kind platform outs last number body kind.Octets small rises h = kept-octets_turn platform outs last number body (get_at same_number number platform.connections) refl small h
by_kind platform outs last number body kind.Closed small rises h = kept-end platform outs last number (get_at same_number number platform.connections) refl h
by_kind platform outs last number body kind.Time small rises h =
    kept-moment platform.connections (record platform { moment = moment_of body }) outs last (moment_of body) h.distinct (there-itself platform.connections h.distinct) (kept-at platform outs last (moment_of body) h)
by_kind platform outs last number body kind.Roster small rises h = rw (append-nil outs) h
by_kind platform outs last number body kind.Links small rises h = rw (append-nil outs) h
by_kind platform outs last number body kind.Slice small rises h = rw (append-nil outs) h
by_kind platform outs last number body kind.Drain small rises h = rw (append-nil outs) h
by_kind platform outs last number body kind.Finish small rises h = rw (append-nil outs) h

pub turns-keep : (platform : Platform) (outs : List OutRecord) (last : ℕ) (item : FeedRecord) → AreOctets item.body → (begins item.kind ≡ true → last < item.source) → Kept platform outs last
    → Kept (after_turns (record_turns platform item) (noted item platform)) (outs ++ flat_map turn_output (record_turns platform item)) (cond (begins item.kind) item.source last)
turns-keep platform outs last item small rises h = by_kind platform outs last item.source item.body item.kind small rises h
