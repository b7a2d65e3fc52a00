-- After each step the session goes on, or it ended.
use Rattle.std.proofs.Common.{◌≡◌, ℕ, ◌-◌, ◌≤◌, Bool, true, false, ◌⊎◌, inl, inr, List, [], ◌∷◌, ◌++◌, length, map, Option, None, Some, refl, sym, ap, ◌∙◌, subst, append_assoc, append-nil, arith, length-append, nat_lt}
use Rattle.std.specs.Prelude.{filter, ◌||◌, ◌==◌, IsTrue, Result, Ok, Err}
use Rattle.std.proofs.lemmas.Bool.{both_ways, cases_Bool}
use Rattle.std.proofs.lemmas.List.{length-map}
use Rattle.std.proofs.lemmas.Bool.Decides.{nat_tests}
use Rattle.rcp_base.specs.Roster.{RosterOf}
use Rattle.rcp_model.specs.Routes.{OfferFields}
use Rattle.rcp_model.specs.Sessions as sessions
use Rattle.rcp_model.specs.Sessions.{Phase, Claiming, OpenConfirm, Negotiated, is_closed, moment_in, seated, course_of, claim_answered, SessionState, Ending, ending, Faulted, Received, Doing, Answer, Input, Seat, later_of, then_also, keepalive, answer, answers}
use Rattle.rcp_model.proofs.SessionLemmas.{later_of-none, answer-seat}
use Rattle.session_core.specs.Held.{Held}
use Rattle.session_core.specs.Counts.{handled_at}
use Rattle.session_times.specs.Times.{IsCourseOf}
use Rattle.outside.specs.Told.{behind, behind-nil, Rose}
use Rattle.outbox.specs.Wires.{WireOf, HasRisen}
use Rattle.outbox.specs.Outs.{OutOf, front, counted_on, empty}
use Rattle.outbox.proofs.Writing.{risen-same, then-rose}
use Rattle.seats.specs.Seats.{SeatOf, sent_at}
use Rattle.shard_mail.specs.Puts.{Puts, mails_of, reached_up}
use Rattle.shard_mail.specs.Batches.{Takes, TookAll, own_offers, updates_of}
use Rattle.shard_mail.proofs.Putting.{same-seat}
use Rattle.session_serve.specs.declared.ends.EndWhy.{EndWhy}
use Rattle.session_serve.specs.declared.ends.EndWhy.TheVariants as why
use Rattle.session_serve.specs.Deeds.{Deeds, Piece, Said, Offered, no_deeds, handled_by, batches_in, octets_in, pieces_in, WantedNothing}
use Rattle.session_serve.specs.Ended.{HadMemory, IsCauseOf, HasTaken, TookOffers, Closes}
use Rattle.session_serve.specs.Running.{Start, start_at, At, HasOffers, Done, Runs, HasBegun, Ends, Goes, Acts, does_by}
use Rattle.session_serve.proofs.PieceLemmas.{batches-append, said-batches, answers-more}
use Rattle.session_serve.proofs.DoneLemmas.{gone_on, answered_by, done-writes, done-answered, done-pushed, done-read, took_by, done-took, packed_by, packed-pieces, done-packed}

-- a count that only falls was above 0 before
pub was_some : (old new n : ℕ) → new ≡ old - n → nat_lt 0 new ≡ true → nat_lt 0 old ≡ true
was_some old new n is some = grind (arith, nat_tests)

-- ---- ends

-- an end that says nothing of offers
pub took-fault : (up : Bool) (took : List (ℕ × OfferFields)) (before after code sub : ℕ) → TookOffers up took before after (why.Fault code sub)
took-fault true took before after code sub = tt
took-fault false took before after code sub = tt

pub took-received : (up : Bool) (took : List (ℕ × OfferFields)) (before after code sub : ℕ) → TookOffers up took before after (why.Received code sub)
took-received true took before after code sub = tt
took-received false took before after code sub = tt

pub took-none : (up : Bool) (took : List (ℕ × OfferFields)) (before after : ℕ) → TookOffers up took before after why.NoMemory
took-none true took before after = tt
took-none false took before after = tt

-- ---- an answer was done

module _ (start : Start) (deeds : Deeds) (at : At) (runs : Runs start deeds at) (input : Input) (course : IsCourseOf start.can_give (deeds.inputs ++ input ∷ []))
    (held : Held) (seat : SeatOf) (middle wire : WireOf) (out : OutOf) (up : Bool) (messages : ℕ) (does : Doing) where
  abbrev answered : Answer
  answered = answer start.roster input at.held.state

  abbrev now : At
  now = record { held = held; out = out; seat = seat; wire = wire; up = up; messages = messages }

  abbrev deeds_then : List (List ℕ) → List (List ℕ) → Deeds
  deeds_then gone unqueued = record (gone_on gone (answered_by input answered.does deeds)) { unqueued = unqueued }

  same_answer : answered ≡ answer start.roster input (answers start.roster deeds.inputs start.session).after
  same_answer = ap (answer start.roster input) runs.after

  then_closed : (gone unqueued : List (List ℕ)) → (does_by start (deeds_then gone unqueued)).closed ≡ answered.does.closed
  then_closed gone unqueued =
      ap (λ (r : Answer). r.does.closed) (answers-more start.roster deeds.inputs input start.session)
      ∙ ap (λ (a : Answer). later_of (does_by start deeds).closed a.does.closed) (sym same_answer)
      ∙ ap (λ (end : Option Ending). later_of end answered.does.closed) runs.going
      ∙ later_of-none answered.does.closed

  pub acts-goes : HasBegun (answered_by input answered.does deeds) → does ≡ answered.does → held.spent ≡ false → held.state ≡ answered.after
      → Puts (mails_of at.seat does.events) at.seat seat
      → middle.given ≡ behind at.wire.given (octets_in (input ∷ [])) → middle.taken ≡ at.wire.taken → HasRisen at.wire middle
      → up ≡ (at.up || reached_up does.events)
      → messages ≡ counted_on at.messages (handled_at start.roster input at.held.state)
      → (result : Result (Unit {0}) EndWhy) → Acts does at.out out middle wire result → Goes start now result
  acts-goes begun does_is unspent after puts given taken risen up_is messages_are result acts = by_result result acts.closes where
    first : Done start (answered_by input answered.does deeds) (record { held = held; out = at.out; seat = seat; wire = middle; up = up; messages = messages })
    first = done-answered start deeds at runs.done runs.wanted input answered same_answer course held seat middle up messages
        (subst (λ (d : Doing). Puts (mails_of at.seat d.events) at.seat seat) does_is puts) given taken risen
        (up_is ∙ ap (λ (d : Doing). at.up || reached_up d.events) does_is)
        (messages_are ∙ ap (λ (s : SessionState). counted_on at.messages (handled_at start.roster input s)) runs.after)

    done : Done start (deeds_then acts.written.0 acts.unqueued) now
    done = done-pushed start (gone_on acts.written.0 (answered_by input answered.does deeds)) (record { held = held; out = acts.between; seat = seat; wire = wire; up = up; messages = messages }) out acts.queued acts.unqueued
        (ap (λ (d : Doing). d.sent) (sym does_is) ∙ acts.all) acts.pushed acts.same_front
        (done-writes start (answered_by input answered.does deeds) (record { held = held; out = at.out; seat = seat; wire = middle; up = up; messages = messages }) acts.written.0 acts.written.1 acts.between wire acts.written.2 first)

    wanted : acts.unqueued ≡ [] → WantedNothing (deeds_then acts.written.0 acts.unqueued)
    wanted none = record { unheard = runs.wanted.unheard; unqueued = none; unpacked = runs.wanted.unpacked }

    begun_then : HasBegun (deeds_then acts.written.0 acts.unqueued)
    begun_then = record { now = begun.now; inputs = begun.inputs; more = begun.more; claim = begun.claim; first = begun.first }

    to_last : out.to_last_update ≡ at.out.to_last_update - length acts.written.0
    to_last = ap (λ (o : OutOf). o.to_last_update) acts.pushed ∙ acts.written.2.to_last_update

    closed_by : (end : Option Ending) → does.closed ≡ end → (does_by start (deeds_then acts.written.0 acts.unqueued)).closed ≡ end
    closed_by end is = then_closed acts.written.0 acts.unqueued ∙ ap (λ (d : Doing). d.closed) (sym does_is) ∙ is

    ended : (end : EndWhy) → (HadMemory end → acts.unqueued ≡ []) → IsCauseOf (does_by start (deeds_then acts.written.0 acts.unqueued)).closed start.may_stop start.wire wire end → TookOffers up deeds.took start.seat.offers.empties seat.offers.empties end → Ends start (deeds_then acts.written.0 acts.unqueued) now end
    ended end had cause took = record { done = done; wanted = λ memory. wanted (had memory); begun = λ memory. begun_then; cause = cause; took = took }

    goes_on : does.closed ≡ None → acts.unqueued ≡ [] → Runs start (deeds_then acts.written.0 acts.unqueued) now
    goes_on none queued = record {
      done = done;
      wanted = wanted queued;
      unspent = unspent;
      after = after ∙ ap (λ (a : Answer). a.after) same_answer ∙ ap (λ (r : Answer). r.after) (sym (answers-more start.roster deeds.inputs input start.session));
      going = closed_by None none;
      waits = record {
        up_to_batch = runs.waits.up_to_batch;
        others = runs.waits.others ++ map Said answered.does.sent;
        all = ap (λ (ps : List Piece). ps ++ map Said answered.does.sent) runs.waits.all ∙ append_assoc runs.waits.up_to_batch runs.waits.others (map Said answered.does.sent);
        none = batches-append runs.waits.others (map Said answered.does.sent) ∙ ap (λ (bs : List (List OfferFields)). bs ++ batches_in (map Said answered.does.sent)) runs.waits.none ∙ said-batches answered.does.sent;
        within = omega (arith, runs.waits.within, to_last, length-append deeds.gone acts.written.0);
      };
      offers = λ some. subst (λ n. HasTaken deeds.took start.seat.offers.empties n) (ap (λ o. o.empties) (sym puts.offers)) (runs.offers (was_some at.out.to_last_update out.to_last_update (length acts.written.0) to_last some));
    }

    by_result : (result : Result (Unit {0}) EndWhy) → Closes does.closed acts.unqueued result → Goes start now result
    by_result (Ok done) closes = (deeds_then acts.written.0 acts.unqueued, goes_on closes.0 closes.1, begun_then)
    by_result (Err (why.Fault code sub)) closes = (deeds_then acts.written.0 acts.unqueued, ended (why.Fault code sub) (λ memory. closes.1) (closed_by (Some (ending Faulted code sub)) closes.0) (took-fault up _ _ _ code sub))
    by_result (Err (why.Received code sub)) closes = (deeds_then acts.written.0 acts.unqueued, ended (why.Received code sub) (λ memory. closes.1) (closed_by (Some (ending Received code sub)) closes.0) (took-received up _ _ _ code sub))
    by_result (Err why.NoMemory) closes = (deeds_then acts.written.0 acts.unqueued, ended why.NoMemory (λ no. absurd no) tt (took-none up _ _ _))
    by_result (Err why.PeerClosed) closes = absurd closes
    by_result (Err (why.SeatOut out)) closes = absurd closes
    by_result (Err why.LinkFault) closes = absurd closes
    by_result (Err why.Stopped) closes = absurd closes

-- ---- the beginning

pub runs-open : (roster : RosterOf) (can_give : ℕ → Bool) (may_stop : Bool) (held : Held) (seat : SeatOf) (wire : WireOf) → held.spent ≡ false
    → Runs (start_at roster can_give may_stop held.state seat wire) no_deeds (record { held = held; out = empty; seat = seat; wire = wire; up = false; messages = 0 })
unfolding answers handled_by
runs-open roster can_give may_stop held seat wire unspent = record {
  done = record {
    course = tt;
    read = sym (behind-nil wire.given);
    messages = omega arith;
    same = same-seat seat;
    put = λ shard here. sym (append-nil (sent_at shard seat));
    up = refl;
    said = refl;
    queue = refl;
    taken = sym (behind-nil wire.taken);
    updates = omega arith;
    received = sym (append-nil seat.offers.received);
    batches = refl;
    small = tt;
    after_up = λ none. refl;
    settled = omega arith;
    last = omega arith;
    risen = risen-same wire;
    failed = λ failed. absurd cc;
    empties = omega arith;
  };
  wanted = record { unheard = refl; unqueued = refl; unpacked = refl };
  unspent = unspent;
  after = refl;
  going = refl;
  waits = record { up_to_batch = []; others = []; all = refl; none = refl; within = omega arith };
  offers = λ some. absurd cc;
}

-- the first answer is that to the claim: a KEEPALIVE and what was kept
pub begins : (roster : RosterOf) (state : SessionState) (now since slot : ℕ) (terms : Negotiated) → state.phase ≡ Claiming since slot terms
    → HasBegun (answered_by (Seat true now) (answer roster (Seat true now) state).does no_deeds)
begins roster state now since slot terms claims =
    let m = moment_in state now in
    let course = seated roster m state.kept (record { slot = slot; negotiated = terms; read = m; sent = m }) in
    let is : answer roster (Seat true now) state ≡ sessions.answered m course = answer-seat roster true now state (ap is_closed claims) ∙ ap (claim_answered roster true m state.kept) claims in
    record {
      now = now;
      inputs = [];
      more = map Said (course_of roster m state.kept (OpenConfirm (record { slot = slot; negotiated = terms; read = m; sent = m }))).does.sent;
      claim = refl;
      first = ap (λ (a : Answer). map Said a.does.sent) is;
    }

-- what began goes on
pub begun-more : (deeds : Deeds) (input : Input) (does : Doing) → HasBegun deeds → HasBegun (answered_by input does deeds)
begun-more deeds input does begun = record {
  now = begun.now;
  inputs = begun.inputs ++ input ∷ [];
  more = begun.more ++ map Said does.sent;
  claim = ap (λ (is : List Input). is ++ input ∷ []) begun.claim;
  first = sym (append_assoc deeds.settled deeds.recent (map Said does.sent)) ∙ ap (λ (ps : List Piece). ps ++ map Said does.sent) begun.first;
}

pub begun-same : (deeds other : Deeds) → other.inputs ≡ deeds.inputs → pieces_in other ≡ pieces_in deeds → HasBegun deeds → HasBegun other
begun-same deeds other inputs pieces begun = record { now = begun.now; inputs = begun.inputs; more = begun.more; claim = inputs ∙ begun.claim; first = pieces ∙ begun.first }

-- ---- ends from outside

took-closed : (up : Bool) (took : List (ℕ × OfferFields)) (before after : ℕ) → (up ≡ true → HasTaken took before after) → TookOffers up took before after why.PeerClosed
took-closed true took before after has = has refl
took-closed false took before after has = tt

took-stopped : (up : Bool) (took : List (ℕ × OfferFields)) (before after : ℕ) → (up ≡ true → HasTaken took before after) → TookOffers up took before after why.Stopped
took-stopped true took before after has = has refl
took-stopped false took before after has = tt

took-fault_of_link : (up : Bool) (took : List (ℕ × OfferFields)) (before after : ℕ) → TookOffers up took before after why.LinkFault
took-fault_of_link true took before after = tt
took-fault_of_link false took before after = tt

module _ (start : Start) (deeds : Deeds) (at : At) (runs : Runs start deeds at) (begun : HasBegun deeds) where
  module _ (held : Held) (wire : WireOf) (given : wire.given ≡ at.wire.given) (taken : wire.taken ≡ at.wire.taken) (risen : HasRisen at.wire wire) where
    abbrev ended_at : At
    ended_at = record at { held = held; wire = wire }

    ended : Done start (record deeds { unheard = [] }) ended_at
    ended = done-read start deeds at runs.wanted held wire [] (given ∙ sym (behind-nil at.wire.given)) taken risen runs.done

    all_wanted : WantedNothing (record deeds { unheard = [] })
    all_wanted = record { unheard = refl; unqueued = runs.wanted.unqueued; unpacked = runs.wanted.unpacked }

    has_begun : HasBegun (record deeds { unheard = [] })
    has_begun = begun-same deeds (record deeds { unheard = [] }) refl refl begun

    pub ends-closed : HasOffers start deeds at → Rose at.wire.ends wire.ends → Ends start (record deeds { unheard = [] }) ended_at why.PeerClosed
    ends-closed offers rose = record {
      done = ended;
      wanted = λ memory. all_wanted;
      begun = λ memory. has_begun;
      cause = (runs.going, then-rose start.wire.ends at.wire.ends wire.ends runs.done.risen.ends rose);
      took = took-closed at.up _ _ _ offers;
    }

    pub ends-fault : Rose at.wire.faults wire.faults → Ends start (record deeds { unheard = [] }) ended_at why.LinkFault
    ends-fault rose = record {
      done = ended;
      wanted = λ memory. all_wanted;
      begun = λ memory. has_begun;
      cause = (runs.going, then-rose start.wire.faults at.wire.faults wire.faults runs.done.risen.faults rose);
      took = took-fault_of_link at.up _ _ _;
    }

  -- nothing came
  pub rests-goes : (wire : WireOf) → wire.given ≡ at.wire.given → wire.taken ≡ at.wire.taken → HasRisen at.wire wire → (done : Unit {0}) → Goes start (record at { wire = wire }) (Ok done)
  rests-goes wire given taken risen done = (
    record deeds { unheard = [] },
    record {
      done = ended at.held wire given taken risen;
      wanted = all_wanted at.held wire given taken risen;
      unspent = runs.unspent;
      after = runs.after;
      going = runs.going;
      waits = record { up_to_batch = runs.waits.up_to_batch; others = runs.waits.others; all = runs.waits.all; none = runs.waits.none; within = runs.waits.within };
      offers = runs.offers;
    },
    has_begun at.held wire given taken risen,
  )

  -- a write failed
  pub ends-failed : at.out.failed ≡ true → Ends start deeds at why.LinkFault
  ends-failed failed = record {
    done = runs.done;
    wanted = λ memory. runs.wanted;
    begun = λ memory. begun;
    cause = (runs.going, runs.done.failed failed);
    took = took-fault_of_link at.up _ _ _;
  }

  pub ends-stopped : HasOffers start deeds at → IsTrue start.may_stop → Ends start deeds at why.Stopped
  ends-stopped offers stop = record {
    done = runs.done;
    wanted = λ memory. runs.wanted;
    begun = λ memory. begun;
    cause = (runs.going, stop);
    took = took-stopped at.up _ _ _ offers;
  }

-- no memory for octets that were read, or for a message
pub ends-unheard : (start : Start) (deeds : Deeds) (at : At) → WantedNothing deeds → Done start deeds at → (held : Held) (wire : WireOf) (octets : List ℕ)
    → wire.given ≡ behind at.wire.given octets → wire.taken ≡ at.wire.taken → HasRisen at.wire wire
    → Ends start (record deeds { unheard = octets }) (record at { held = held; wire = wire }) why.NoMemory
ends-unheard start deeds at wanted done held wire octets given taken risen = record {
  done = done-read start deeds at wanted held wire octets given taken risen done;
  wanted = λ never. absurd never;
  begun = λ never. absurd never;
  cause = tt;
  took = took-none at.up _ _ _;
}

-- ---- offers

filter-short : {X : Type 0} (p : X → Bool) (xs : List X) → length (filter p xs) ≤ length xs
filter-short p [] = omega arith
filter-short p (x ∷ xs) = elim (cases_Bool (p x)) [
  | inl is ↦ rw (is) (omega (arith, filter-short p xs))
  | inr is ↦ rw (is) (omega (arith, filter-short p xs))
]

own-few : (generation : ℕ) (taken : List (ℕ × OfferFields)) → length taken ≤ 1024 → length (own_offers generation taken) ≤ 1024
own-few generation taken few = omega (arith, filter-short (λ (offer : OfferFields). offer.generation == generation) (map (λ (t : ℕ × OfferFields). t.1) taken), length-map taken (λ (t : ℕ × OfferFields). t.1))

module _ (start : Start) (deeds : Deeds) (at : At) (runs : Runs start deeds at) (begun : HasBegun deeds) where
  -- the session isn't up, or UPDATEs wait
  pub offers-kept : ((at.up ≡ false) ⊎ (nat_lt 0 at.out.to_last_update ≡ true)) → HasOffers start deeds at
  offers-kept (inl down) up = absurd (both_ways at.up down up)
  offers-kept (inr some) up = runs.offers some

  module _ (taken : List (ℕ × OfferFields)) (seat : SeatOf) (takes : Takes taken at.seat seat) where
    batch : List OfferFields
    batch = own_offers start.seat.generation taken

    pub ends-unpacked : (out : OutOf) → out ≡ at.out → Ends start (took_by start taken deeds) (record at { seat = seat; out = out }) why.NoMemory
    ends-unpacked out same = subst (λ (o : OutOf). Ends start (took_by start taken deeds) (record at { seat = seat; out = o }) why.NoMemory) (sym same) (record {
      done = done-took start deeds at runs.wanted taken seat takes runs.done;
      wanted = λ never. absurd never;
      begun = λ never. absurd never;
      cause = tt;
      took = took-none at.up _ _ _;
    })

    pub offers-added : (out : OutOf) → at.up ≡ true → nat_lt 0 at.out.to_last_update ≡ false → TookAll taken at.seat seat
        → out ≡ record at.out { waiting = at.out.waiting ++ updates_of (own_offers start.seat.generation taken); to_last_update = length (at.out.waiting ++ updates_of (own_offers start.seat.generation taken)) } → front out ≡ front at.out
        → (after : Deeds) × Runs start after (record at { out = out; seat = seat }) × HasBegun after × HasOffers start after (record at { out = out; seat = seat })
    offers-added out up none all out_is same_front =
        let now : Deeds = packed_by runs.waits.up_to_batch runs.waits.others (own_offers start.seat.generation taken) (took_by start taken deeds) in
        let at_end : nat_lt 0 at.out.to_last_update ≡ false → at.out.to_last_update ≡ 0 = λ none. grind (arith, nat_tests) in
        let zero_wait : at.out.to_last_update ≡ 0 = at_end none in
        let took_done = done-took start deeds at runs.wanted taken seat takes runs.done in
        let took_at : At = record at { seat = seat } in
        let has : HasTaken (deeds.took ++ taken) start.seat.offers.empties seat.offers.empties = has_taken all in
        let done = done-packed start (took_by start taken deeds) took_at runs.wanted.unqueued runs.waits.up_to_batch runs.waits.others runs.waits.all runs.waits.none (own_offers start.seat.generation taken) out refl
        (own-few start.seat.generation taken takes.few) (sym runs.done.up ∙ up) (omega (arith, runs.waits.within)) out_is same_front took_done in (
          now,
          record {
            done = done;
            wanted = record { unheard = runs.wanted.unheard; unqueued = runs.wanted.unqueued; unpacked = refl };
            unspent = runs.unspent;
            after = runs.after;
            going = runs.going;
            waits = record {
              up_to_batch = runs.waits.others ++ Offered (own_offers start.seat.generation taken) ∷ [];
              others = [];
              all = sym (append-nil (runs.waits.others ++ Offered (own_offers start.seat.generation taken) ∷ []));
              none = refl;
              within = omega (arith, ap length done.queue, length-append deeds.gone (out.waiting ++ deeds.unqueued), length-append out.waiting deeds.unqueued, ap length runs.wanted.unqueued, ap (λ (o : OutOf). o.to_last_update) out_is, ap (λ (o : OutOf). length o.waiting) out_is);
            };
            offers = λ some. has;
          },
          begun_more,
          λ is_up. has,
        ) where
          has_taken : TookAll taken at.seat seat → HasTaken (deeds.took ++ taken) start.seat.offers.empties seat.offers.empties
          has_taken (inl many) = inl (omega (arith, length-append deeds.took taken))
          has_taken (inr rose) = inr (then-rose start.seat.offers.empties at.seat.offers.empties seat.offers.empties runs.done.empties rose)

          begun_more : HasBegun (packed_by runs.waits.up_to_batch runs.waits.others (own_offers start.seat.generation taken) (took_by start taken deeds))
          begun_more = record {
            now = begun.now;
            inputs = begun.inputs;
            more = begun.more ++ Offered (own_offers start.seat.generation taken) ∷ [];
            claim = begun.claim;
            first = packed-pieces start (took_by start taken deeds) (record at { seat = seat }) runs.wanted.unqueued runs.waits.up_to_batch runs.waits.others runs.waits.all runs.waits.none (own_offers start.seat.generation taken)
                ∙ ap (λ (ps : List Piece). ps ++ Offered (own_offers start.seat.generation taken) ∷ []) begun.first;
          }
