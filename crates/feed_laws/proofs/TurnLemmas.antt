-- Octets that come on a connection in two records at one time: its turns are one.
use Rattle.std.proofs.Common.{◌≡◌, ℕ, Bool, true, false, cond, not, ◌||◌, eqb, max, List, [], ◌∷◌, ◌++◌, map, Option, Some, None, refl, sym, ap, subst, ◌∙◌, ◌⊎◌, inl, inr, append_assoc, append-nil, arith}
use Rattle.std.specs.List.{list_any}
use Rattle.std.proofs.lemmas.Bool.{cases_Bool}
use Rattle.std.proofs.lemmas.List.{map-append}
use Rattle.rcp_base.specs.Roster.{RosterOf}
use Rattle.rcp_base.specs.Maps.{get_at, put_at, set_at}
use Rattle.rcp_model.specs.LinkState.{same_number}
use Rattle.rcp_model.specs.RouteServer.{ServerEvent}
use Rattle.rcp_model.specs.Sessions.{Negotiated, Phase, Claiming, OpenConfirm, is_closed, SessionState, SessionEvent, Ending, Doing, nothing, sending, keepalive, later_of, then_also, seat_of, Octets, Seat, Answer, moment_in, answered, stepped, seat_taken, claim_answered, answer, course_of}
use Rattle.feed_meaning.specs.Platform.{Connections, Platform}
use Rattle.feed_meaning.specs.SessionTurns.{is_slot, is_free, Turn, turn, claim_turn, octets_turn, server_event, end_events, seat_events, turn_events, if_open, after_turn}
use Rattle.rcp_model.proofs.SessionLemmas.{later_of-none, then-nothing, then-assoc, answer-closed, answer-octets, answer-seat, course-claiming, two-pieces}
use Rattle.feed_laws.proofs.StayLemmas.{stays-octets}

none_some : {X : Type 0} {x : X} → None ≡ Some x → ⊥
none_some e = cc

-- ---- what is shown

-- one answer and then another
abbrev followed : Answer → Answer → Answer
followed first second = record second { does = then_also first.does second.does }

-- two turns of a connection, of which the first doesn't end the session, come to a third
pub record Joins (first second whole : Turn) : Type 0 where
  pub second_number : second.number ≡ first.number
  pub whole_number : whole.number ≡ first.number
  pub going : first.answer.does.closed ≡ None
  pub after : whole.answer.after ≡ second.answer.after
  pub does : whole.answer.does ≡ then_also first.answer.does second.answer.does
  pub events : turn_events whole ≡ turn_events first ++ turn_events second

-- The turn of the octets of two records: that of the first where it ends the session; else both turns come to it.
abbrev pub Continues : Platform → ℕ → List ℕ → SessionState → Turn → Turn → Type 0
Continues platform number more session first whole =
    ((is_closed first.answer.after.phase ≡ true) × (whole ≡ first))
    ⊎ ((is_closed first.answer.after.phase ≡ false) × Joins first (octets_turn (after_turn first platform) more (number, first.answer.after)) whole)

-- ---- events

-- what is done first has no end
events_join : (seat : Option ℕ) (first second : Doing) → first.closed ≡ None → seat_events seat (then_also first second) ≡ seat_events seat first ++ seat_events seat second
events_join None first second going = refl
events_join (Some slot) first second going =
    let ended : later_of first.closed second.closed ≡ second.closed = ap (λ (end : Option Ending). later_of end second.closed) going ∙ later_of-none second.closed in
    let plain : end_events slot first.closed ≡ [] = ap (end_events slot) going in
    ap (λ (es : List ServerEvent). es ++ end_events slot (later_of first.closed second.closed)) (map-append (server_event slot) first.events second.events)
    ∙ ap (λ (end : Option Ending). (map (server_event slot) first.events ++ map (server_event slot) second.events) ++ end_events slot end) ended
    ∙ append_assoc (map (server_event slot) first.events) (map (server_event slot) second.events) (end_events slot second.closed)
    ∙ ap (λ (es : List ServerEvent). es ++ seat_events (Some slot) second) (sym (append-nil (map (server_event slot) first.events)) ∙ ap (λ (es : List ServerEvent). map (server_event slot) first.events ++ es) (sym plain))

-- where there was no event before, the seat is of no account for it
events_later : (seat : Option ℕ) (first second : Doing) → first.closed ≡ None → first.events ≡ [] → seat_events seat (then_also first second) ≡ seat_events None first ++ seat_events seat second
events_later None first second going quiet = refl
events_later (Some slot) first second going quiet =
    events_join (Some slot) first second going
    ∙ ap (λ (es : List ServerEvent). es ++ seat_events (Some slot) second)
    (ap (λ (es : List SessionEvent). map (server_event slot) es ++ end_events slot first.closed) quiet ∙ ap (end_events slot) going)

-- ---- seats

-- a session that takes the place of another with the same seat leaves the others free as they are
same_free : (es : Connections) (number slot : ℕ) (session after : SessionState) → get_at same_number number es ≡ Some session → seat_of after.phase ≡ seat_of session.phase
    → is_free (put_at same_number number after es) slot ≡ is_free es slot
same_free [] number slot session after is seat = absurd (none_some is)
same_free (e ∷ es) number slot session after is seat =
    elim (cases_Bool (eqb number e.0)) [
      | inl t ↦
          let found : Some e.1 ≡ Some session = rw t at is in
          let same : e.1 ≡ session = cc in
          rw (t, seat, same) refl
      | inr f ↦
          let later : is_free (put_at same_number number after es) slot ≡ is_free es slot = same_free es number slot session after (rw f at is) seat in
          rw (f) (free_later (is_slot slot (seat_of e.1.phase)) (list_any (λ (entry : ℕ × SessionState). is_slot slot (seat_of entry.1.phase)) (put_at same_number number after es))
          (list_any (λ (entry : ℕ × SessionState). is_slot slot (seat_of entry.1.phase)) es) later)
    ]
  where
    free_later : (a b c : Bool) → not b ≡ not c → not (a || b) ≡ not (a || c)
    free_later true b c e = refl
    free_later false b c e = e

-- ---- one session

module _ (roster : RosterOf) (now : ℕ) where
  -- octets that come to a session that has ended
  followed_closed : (first : Answer) (more : List ℕ) → is_closed first.after.phase ≡ true → followed first (answer roster (Octets more now) first.after) ≡ first
  followed_closed first more shut = rw (answer-closed roster (Octets more now) first.after shut, then-nothing first.does) refl

  -- the session of a slot once it has its seat, before the octets that waited are read
  abbrev confirmed : ℕ → ℕ → Negotiated → SessionState
  confirmed at slot terms = record { phase = OpenConfirm (record { slot = slot; negotiated = terms; read = at; sent = at }); kept = []; latest = at }

  -- octets that are read then
  abbrev heard : ℕ → ℕ → Negotiated → List ℕ → Answer
  heard at slot terms octets = answer roster (Octets octets now) (confirmed at slot terms)

  abbrev begins : Answer → Answer
  begins first = record first { does = then_also (sending keepalive) first.does }

  seat_given : (session : SessionState) (since slot : ℕ) (terms : Negotiated) → session.phase ≡ Claiming since slot terms
      → answer roster (Seat true now) session ≡ begins (heard (moment_in session now) slot terms session.kept)
  seat_given session since slot terms waits =
      let late : max (moment_in session now) now ≡ moment_in session now = omega arith in
      answer-seat roster true now session (ap is_closed waits)
      ∙ ap (claim_answered roster true (moment_in session now) session.kept) waits
      ∙ sym (ap begins (answer-octets roster session.kept now (confirmed (moment_in session now) slot terms) refl ∙ rw late refl))

  seat_refused : (session : SessionState) (since slot : ℕ) (terms : Negotiated) → session.phase ≡ Claiming since slot terms
      → answer roster (Seat false now) session ≡ stepped (moment_in session now) [] seat_taken
  seat_refused session since slot terms waits =
      answer-seat roster false now session (ap is_closed waits) ∙ ap (claim_answered roster false (moment_in session now) session.kept) waits

  -- the session that waits, with more octets
  abbrev waiting : SessionState → ℕ → ℕ → Negotiated → List ℕ → SessionState
  waiting session since slot terms more = record { phase = Claiming since slot terms; kept = session.kept ++ more; latest = moment_in session now }

  octets_wait : (session : SessionState) (since slot : ℕ) (terms : Negotiated) (more : List ℕ) → session.phase ≡ Claiming since slot terms
      → answer roster (Octets more now) session ≡ record { after = waiting session since slot terms more; does = nothing }
  octets_wait session since slot terms more waits =
      answer-octets roster more now session (ap is_closed waits)
      ∙ ap (λ (phase : Phase). answered (moment_in session now) (course_of roster (moment_in session now) (session.kept ++ more) phase)) waits
      ∙ ap (answered (moment_in session now)) (course-claiming roster (moment_in session now) (session.kept ++ more) since slot terms)

  -- octets that come after the seat is given are read as if they had waited for it
  seat_then_octets : (session : SessionState) (since slot : ℕ) (terms : Negotiated) (more : List ℕ) → session.phase ≡ Claiming since slot terms
      → answer roster (Seat true now) (waiting session since slot terms more)
      ≡ followed (answer roster (Seat true now) session) (answer roster (Octets more now) (answer roster (Seat true now) session).after)
  seat_then_octets session since slot terms more waits =
      let at = moment_in session now in
      let late : max at now ≡ at = omega arith in
      let first = heard at slot terms session.kept in
      seat_given (waiting session since slot terms more) since slot terms refl
      ∙ ap (λ (k : ℕ). begins (heard k slot terms (session.kept ++ more))) late
      ∙ ap begins (two-pieces roster now session.kept more (confirmed at slot terms))
      ∙ rw (← then-assoc (sending keepalive) first.does (answer roster (Octets more now) first.after).does) refl
      ∙ sym (ap (λ (a : Answer). followed a (answer roster (Octets more now) a.after)) (seat_given session since slot terms waits))

  -- where the seat is given, the session goes on with it, unless it ends
  record Seated (slot : ℕ) (session : SessionState) : Type 0 where
    ends : is_closed (answer roster (Seat true now) session).after.phase ≡ false → (answer roster (Seat true now) session).does.closed ≡ None
    seat : is_closed (answer roster (Seat true now) session).after.phase ≡ false → seat_of (answer roster (Seat true now) session).after.phase ≡ Some slot

  seated_on : (session : SessionState) (since slot : ℕ) (terms : Negotiated) → session.phase ≡ Claiming since slot terms → Seated slot session
  seated_on session since slot terms waits =
      let at = moment_in session now in
      let same = seat_given session since slot terms waits in
      let stays = stays-octets roster session.kept now (confirmed at slot terms) refl in
      record {
        ends = λ still.
            let going : is_closed (heard at slot terms session.kept).after.phase ≡ false = ap (λ (a : Answer). is_closed a.after.phase) (sym same) ∙ still in
            ap (λ (a : Answer). a.does.closed) same ∙ later_of-none (heard at slot terms session.kept).does.closed ∙ stays.ends going;
        seat = λ still.
            let going : is_closed (heard at slot terms session.kept).after.phase ≡ false = ap (λ (a : Answer). is_closed a.after.phase) (sym same) ∙ still in
            ap (λ (a : Answer). seat_of a.after.phase) same ∙ stays.seat going;
      }

-- ---- the turns

module _ (platform : Platform) (number : ℕ) (session : SessionState) (piece more : List ℕ) where
  abbrev after_octets : List ℕ → SessionState → Answer
  after_octets octets state = answer platform.roster (Octets octets platform.moment) state

  abbrev first : Answer
  first = after_octets piece session

  abbrev both : Answer
  both = after_octets (piece ++ more) session

  abbrev whole : Turn
  whole = octets_turn platform (piece ++ more) (number, session)

  both_is : both ≡ followed first (after_octets more first.after)
  both_is = two-pieces platform.roster platform.moment piece more session

  -- the turn of an answer, whatever it claims
  abbrev turn_for : Platform → Option ℕ → Answer → Turn
  turn_for now seat done = claim_turn now number seat done done.does.claim

  plain_turn : (now : Platform) (seat : Option ℕ) (done : Answer) → done.does.claim ≡ None → turn_for now seat done ≡ turn number seat done
  plain_turn now seat done none = ap (claim_turn now number seat done) none

  -- the turn of an answer that claims a slot's seat, where that is free or not
  abbrev claim_by : ℕ → Bool → Answer → Turn
  claim_by slot free done =
      let second = answer platform.roster (Seat free platform.moment) done.after in
      turn number (cond free (Some slot) None) (record second { does = then_also done.does second.does })

  claims_turn : (seat : Option ℕ) (slot : ℕ) (done : Answer) → done.does.claim ≡ Some slot → turn_for platform seat done ≡ claim_by slot (is_free platform.connections slot) done
  claims_turn seat slot done some = ap (claim_turn platform number seat done) some

  -- ---- a session that has ended

  continues_ended : is_closed session.phase ≡ true → Continues platform number more session (octets_turn platform piece (number, session)) whole
  continues_ended shut =
      let one = answer-closed platform.roster (Octets piece platform.moment) session shut in
      let two = answer-closed platform.roster (Octets (piece ++ more) platform.moment) session shut in
      let same : both ≡ first = two ∙ sym one in
      inl (
        ap (λ (a : Answer). is_closed (turn_for platform (seat_of session.phase) a).answer.after.phase) one ∙ shut,
        ap (turn_for platform (seat_of session.phase)) same,
      )

  -- ---- the first octets claim nothing

  module _ (open_ : is_closed session.phase ≡ false) (none : first.does.claim ≡ None) where
    unclaimed_ended : is_closed first.after.phase ≡ true → whole ≡ turn number (seat_of session.phase) first
    unclaimed_ended shut =
        let same : both ≡ first = both_is ∙ followed_closed platform.roster platform.moment first more shut in
        ap (turn_for platform (seat_of session.phase)) same ∙ plain_turn platform (seat_of session.phase) first none

    module _ (going : is_closed first.after.phase ≡ false) (there : get_at same_number number platform.connections ≡ Some session) where
      abbrev second : Answer
      second = after_octets more first.after

      abbrev second_turn : Turn
      second_turn = octets_turn (after_turn (turn number (seat_of session.phase) first) platform) more (number, first.after)

      unended : first.does.closed ≡ None
      unended = (stays-octets platform.roster piece platform.moment session open_).ends going

      same_seat : seat_of first.after.phase ≡ seat_of session.phase
      same_seat = (stays-octets platform.roster piece platform.moment session open_).seat going

      second_claims : later_of first.does.claim second.does.claim ≡ second.does.claim
      second_claims = ap (λ (found : Option ℕ). later_of found second.does.claim) none ∙ later_of-none second.does.claim

      joins_plain : second.does.claim ≡ None → Joins (turn number (seat_of session.phase) first) second_turn whole
      joins_plain quiet =
          let later : second_turn ≡ turn number (seat_of session.phase) second =
          plain_turn (after_turn (turn number (seat_of session.phase) first) platform) (seat_of first.after.phase) second quiet ∙ ap (λ (s : Option ℕ). turn number s second) same_seat in
          let all : whole ≡ turn number (seat_of session.phase) (followed first second) =
          ap (turn_for platform (seat_of session.phase)) both_is ∙ plain_turn platform (seat_of session.phase) (followed first second) (second_claims ∙ quiet) in
          subst (λ (t : Turn). Joins (turn number (seat_of session.phase) first) t whole) (sym later)
          (subst (λ (t : Turn). Joins (turn number (seat_of session.phase) first) (turn number (seat_of session.phase) second) t) (sym all)
          (record { second_number = refl; whole_number = refl; going = unended; after = refl; does = refl; events = events_join (seat_of session.phase) first.does second.does unended }))

      -- the second octets claim a seat
      module _ (slot : ℕ) (claims : second.does.claim ≡ Some slot) where
        no_seat : seat_of session.phase ≡ None
        no_seat =
            let stays = stays-octets platform.roster more platform.moment first.after going in
            let made = stays.claim slot claims in
            let still : is_closed second.after.phase ≡ false = ap is_closed made.2 in
            sym (sym (ap seat_of made.2) ∙ stays.seat still ∙ same_seat)

        eventless : first.does.events ≡ []
        eventless = (stays-octets platform.roster piece platform.moment session open_).eventless going no_seat

        as_free : is_free (set_at same_number number (if_open first.after) platform.connections) slot ≡ is_free platform.connections slot
        as_free =
            ap (λ (closed : Bool). is_free (set_at same_number number (cond closed None (Some first.after)) platform.connections) slot) going
            ∙ same_free platform.connections number slot session first.after there same_seat

        joins_by : (free : Bool) → Joins (turn number (seat_of session.phase) first) (claim_by slot free second) (claim_by slot free (followed first second))
        joins_by free =
            let third = answer platform.roster (Seat free platform.moment) second.after in
            let assoc : then_also (then_also first.does second.does) third.does ≡ then_also first.does (then_also second.does third.does) = then-assoc first.does second.does third.does in
            record {
              second_number = refl;
              whole_number = refl;
              going = unended;
              after = refl;
              does = assoc;
              events =
                  ap (seat_events (cond free (Some slot) None)) assoc
                  ∙ events_later (cond free (Some slot) None) first.does (then_also second.does third.does) unended eventless
                  ∙ ap (λ (s : Option ℕ). seat_events s first.does ++ seat_events (cond free (Some slot) None) (then_also second.does third.does)) (sym no_seat);
            }

        joins_claim : Joins (turn number (seat_of session.phase) first) second_turn whole
        joins_claim =
            let free = is_free platform.connections slot in
            let later : second_turn ≡ claim_by slot free second =
            ap (claim_turn (after_turn (turn number (seat_of session.phase) first) platform) number (seat_of first.after.phase) second) claims
            ∙ ap (λ (f : Bool). claim_by slot f second) as_free in
            let all : whole ≡ claim_by slot free (followed first second) =
            ap (turn_for platform (seat_of session.phase)) both_is ∙ claims_turn (seat_of session.phase) slot (followed first second) (second_claims ∙ claims) in
            subst (λ (t : Turn). Joins (turn number (seat_of session.phase) first) t whole) (sym later)
            (subst (λ (t : Turn). Joins (turn number (seat_of session.phase) first) (claim_by slot free second) t) (sym all) (joins_by free))

      joins_unclaimed : (claim : Option ℕ) → second.does.claim ≡ claim → Joins (turn number (seat_of session.phase) first) second_turn whole
      joins_unclaimed None quiet = joins_plain quiet
      joins_unclaimed (Some slot) claims = joins_claim slot claims

    continues_unclaimed : get_at same_number number platform.connections ≡ Some session → Continues platform number more session (turn number (seat_of session.phase) first) whole
    continues_unclaimed there =
        elim (cases_Bool (is_closed first.after.phase)) [
          | inl shut ↦ inl (shut, unclaimed_ended shut)
          | inr going ↦ inr (going, joins_unclaimed going there (after_octets more first.after).does.claim refl)
        ]

  -- ---- the first octets claim a seat

  module _ (open_ : is_closed session.phase ≡ false) (slot : ℕ) (claims : first.does.claim ≡ Some slot)
      (since : ℕ) (terms : Negotiated) (waits : first.after.phase ≡ Claiming since slot terms) where
    unended_first : first.does.closed ≡ None
    unended_first = (stays-octets platform.roster piece platform.moment session open_).ends (ap is_closed waits)

    -- the later octets wait with those that do
    abbrev held : Answer
    held = record { after = waiting platform.roster platform.moment first.after since slot terms more; does = first.does }

    both_held : both ≡ held
    both_held =
        both_is
        ∙ ap (followed first) (octets_wait platform.roster platform.moment first.after since slot terms more waits)
        ∙ rw (then-nothing first.does) refl

    whole_is : whole ≡ claim_by slot (is_free platform.connections slot) held
    whole_is = ap (turn_for platform (seat_of session.phase)) both_held ∙ claims_turn (seat_of session.phase) slot held claims

    -- the seat is given
    abbrev given : Answer
    given = answer platform.roster (Seat true platform.moment) first.after

    abbrev one_given : Turn
    one_given = claim_by slot true first

    given_more : answer platform.roster (Seat true platform.moment) held.after ≡ followed given (after_octets more given.after)
    given_more = seat_then_octets platform.roster platform.moment first.after since slot terms more waits

    abbrev given_turn : Answer → Turn
    given_turn second = turn number (Some slot) (record second { does = then_also first.does second.does })

    given_ended : is_closed given.after.phase ≡ true → claim_by slot true held ≡ one_given
    given_ended shut = ap given_turn (given_more ∙ followed_closed platform.roster platform.moment given more shut)

    module _ (going : is_closed given.after.phase ≡ false) where
      abbrev last : Answer
      last = after_octets more given.after

      on : Seated platform.roster platform.moment slot first.after
      on = seated_on platform.roster platform.moment first.after since slot terms waits

      quiet : last.does.claim ≡ None
      quiet = by_claim last.does.claim refl where
        by_claim : (found : Option ℕ) → last.does.claim ≡ found → last.does.claim ≡ None
        by_claim None e = e
        by_claim (Some other) e =
            let stays = stays-octets platform.roster more platform.moment given.after going in
            let made = stays.claim other e in
            let still : is_closed last.after.phase ≡ false = ap is_closed made.2 in
            absurd (none_some (sym (ap seat_of made.2) ∙ stays.seat still ∙ on.seat going))

      joins_given : Joins one_given (octets_turn (after_turn one_given platform) more (number, given.after)) (claim_by slot true held)
      joins_given =
          let later : octets_turn (after_turn one_given platform) more (number, given.after) ≡ turn number (Some slot) last =
          plain_turn (after_turn one_given platform) (seat_of given.after.phase) last quiet ∙ ap (λ (s : Option ℕ). turn number s last) (on.seat going) in
          let all : claim_by slot true held ≡ given_turn (followed given last) = ap given_turn given_more in
          let unended : later_of first.does.closed given.does.closed ≡ None =
          ap (λ (end : Option Ending). later_of end given.does.closed) unended_first ∙ later_of-none given.does.closed ∙ on.ends going in
          let assoc : then_also first.does (then_also given.does last.does) ≡ then_also (then_also first.does given.does) last.does = sym (then-assoc first.does given.does last.does) in
          subst (λ (t : Turn). Joins one_given t (claim_by slot true held)) (sym later)
          (subst (λ (t : Turn). Joins one_given (turn number (Some slot) last) t) (sym all)
          (record {
            second_number = refl;
            whole_number = refl;
            going = unended;
            after = refl;
            does = assoc;
            events = ap (seat_events (Some slot)) assoc ∙ events_join (Some slot) (then_also first.does given.does) last.does unended;
          }))

    -- the seat is taken
    refused_same : answer platform.roster (Seat false platform.moment) held.after ≡ answer platform.roster (Seat false platform.moment) first.after
    refused_same =
        let late : max (moment_in first.after platform.moment) platform.moment ≡ moment_in first.after platform.moment = omega arith in
        seat_refused platform.roster platform.moment held.after since slot terms refl
        ∙ ap (λ (k : ℕ). stepped k [] seat_taken) late
        ∙ sym (seat_refused platform.roster platform.moment first.after since slot terms waits)

    refused_shut : is_closed (answer platform.roster (Seat false platform.moment) first.after).after.phase ≡ true
    refused_shut = ap (λ (a : Answer). is_closed a.after.phase) (seat_refused platform.roster platform.moment first.after since slot terms waits)

    continues_by : (free : Bool) → Continues platform number more session (claim_by slot free first) (claim_by slot free held)
    continues_by true =
        elim (cases_Bool (is_closed given.after.phase)) [
          | inl shut ↦ inl (shut, given_ended shut)
          | inr going ↦ inr (going, joins_given going)
        ]
    continues_by false =
        inl (refused_shut, ap (λ (second : Answer). turn number None (record second { does = then_also first.does second.does })) refused_same)

    continues_claimed : Continues platform number more session (claim_by slot (is_free platform.connections slot) first) whole
    continues_claimed = subst (Continues platform number more session (claim_by slot (is_free platform.connections slot) first)) (sym whole_is) (continues_by (is_free platform.connections slot))

  -- ---- both

  continues_on : is_closed session.phase ≡ false → get_at same_number number platform.connections ≡ Some session → (claim : Option ℕ) → first.does.claim ≡ claim
      → Continues platform number more session (octets_turn platform piece (number, session)) whole
  continues_on open_ there None none =
      subst (λ (t : Turn). Continues platform number more session t whole) (sym (plain_turn platform (seat_of session.phase) first none)) (continues_unclaimed open_ none there)
  continues_on open_ there (Some slot) claims =
      let made = (stays-octets platform.roster piece platform.moment session open_).claim slot claims in
      subst (λ (t : Turn). Continues platform number more session t whole) (sym (claims_turn (seat_of session.phase) slot first claims))
      (continues_claimed open_ slot claims made.0 made.1 made.2)

  pub continues : get_at same_number number platform.connections ≡ Some session → Continues platform number more session (octets_turn platform piece (number, session)) whole
  continues there =
      elim (cases_Bool (is_closed session.phase)) [
        | inl shut ↦ continues_ended shut
        | inr open_ ↦ continues_on open_ there first.does.claim refl
      ]
