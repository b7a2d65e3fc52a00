-- What each step adds to what a session has done.
use Rattle.std.proofs.Common.{◌≡◌, ℕ, ◌+◌, ◌-◌, ◌≤◌, Bool, true, false, ◌⊎◌, inl, inr, List, [], ◌∷◌, ◌++◌, length, map, refl, sym, ap, ◌∙◌, subst, append_assoc, append-nil, arith, length-append, nat_lt}
use Rattle.std.specs.Prelude.{flat_map, ◌||◌}
use Rattle.std.specs.List.{concat, AllByRecursion}
use Rattle.std.specs.Prelude.{◌==◌, filter, slice_index_or}
use Rattle.std.proofs.lemmas.Bool.{both_ways}
use Rattle.std.proofs.lemmas.Bool.Decides.{nat_tests}
use Rattle.std.proofs.lemmas.List.{map-append}
use Rattle.std.proofs.lemmas.List.Elements.{filter-append}
use Rattle.std.proofs.lemmas.Grind.{flat_map-append}
use Rattle.std.proofs.lemmas.List.Folds.{concat-append, list_any-append}
use Rattle.rcp_model.specs.Routes.{OfferFields}
use Rattle.rcp_model.specs.Sessions.{SessionEvent, Doing, Answer, Input, then_also, answer, answers}
use Rattle.session_core.specs.Held.{Held}
use Rattle.session_core.specs.Counts.{handled_at}
use Rattle.session_times.specs.Times.{IsCourseOf}
use Rattle.outside.specs.Told.{behind, behind-append, Rose}
use Rattle.outbox.specs.Wires.{WireOf, HasRisen, HasNotFallen}
use Rattle.outbox.specs.Outs.{OutOf, Writes, front, updates_in, counted_on, HasMore}
use Rattle.outbox.proofs.Writing.{updates-append, risen-then, rose-then, then-rose, not_fallen}
use Rattle.seats.specs.Mails.{Mail}
use Rattle.seats.specs.Ends.{SenderOf}
use Rattle.seats.specs.Seats.{SeatOf, no_sender, sent_at}
use Rattle.shard_mail.specs.Puts.{Puts, mail_of, mails_of, is_up_event, reached_up}
use Rattle.shard_mail.proofs.Putting.{same-then, mail_of-same}
use Rattle.shard_mail.specs.Batches.{Takes, own_offers, updates_of}
use Rattle.session_serve.specs.Deeds.{Deeds, Piece, Said, Offered, messages_of, said_in, batches_in, octets_in, handled_by, pieces_in, WantedNothing}
use Rattle.session_serve.specs.Running.{Start, At, Done, Runs, does_by}
use Rattle.session_serve.proofs.PieceLemmas.{octets-append, said-append, batches-append, said-said, said-batches, said-messages, answers-more, handled-more}

-- ---- writes

abbrev pub gone_on : List (List ℕ) → Deeds → Deeds
gone_on gone deeds = record deeds { gone = deeds.gone ++ gone }

abbrev pub written_at : OutOf → WireOf → At → At
written_at out wire at = record at { out = out; wire = wire }

rose_by : (start at : At) (failed : Bool) (before middle after : ℕ) → HasNotFallen before middle → (failed ≡ true) ⊎ Rose middle after → (failed ≡ true → Rose before middle) → HasNotFallen middle after → Rose before after
rose_by start at failed before middle after risen (inl was) so_far later = rose-then before middle after (so_far was) later
rose_by start at failed before middle after risen (inr rose) so_far later = then-rose before middle after risen rose

-- a count that saturates, with so many more and then more
more-on : (a b c m n : ℕ) → HasMore a m b → HasMore b n c → HasMore a (m + n) c
more-on a b c m n first second = omega arith

pub done-writes : (start : Start) (deeds : Deeds) (at : At) (gone : List (List ℕ)) (octets : List ℕ) (out : OutOf) (wire : WireOf) → Writes gone octets at.out out at.wire wire
    → Done start deeds at → Done start (gone_on gone deeds) (written_at out wire at)
done-writes start deeds at gone octets out wire writes done = record {
  course = done.course;
  read = writes.wrote.given ∙ done.read;
  messages = done.messages;
  same = done.same;
  put = done.put;
  up = done.up;
  said = done.said;
  queue =
      done.queue
      ∙ ap (λ (ms : List (List ℕ)). deeds.gone ++ (ms ++ deeds.unqueued)) writes.messages
      ∙ ap (λ (ms : List (List ℕ)). deeds.gone ++ ms) (append_assoc gone out.waiting deeds.unqueued)
      ∙ sym (append_assoc deeds.gone gone (out.waiting ++ deeds.unqueued));
  taken =
      writes.wrote.taken
      ∙ ap (λ t. behind t octets) done.taken
      ∙ behind-append start.wire.taken (concat deeds.gone ++ front at.out) octets
      ∙ ap (behind start.wire.taken) (
      append_assoc (concat deeds.gone) (front at.out) octets
      ∙ ap (λ (xs : List ℕ). concat deeds.gone ++ xs) writes.stream
      ∙ sym (append_assoc (concat deeds.gone) (concat gone) (front out))
      ∙ ap (λ (xs : List ℕ). xs ++ front out) (sym (concat-append deeds.gone gone)));
  updates =
      let P : ℕ → Type 0 = λ n. HasMore 0 n out.updates in
      subst P (sym (updates-append deeds.gone gone)) (more-on 0 at.out.updates out.updates (updates_in deeds.gone) (updates_in gone) done.updates writes.updates);
  received = done.received;
  batches = done.batches;
  small = done.small;
  after_up = done.after_up;
  settled = omega (arith, done.settled, length-append deeds.gone gone);
  last = done.last;
  risen = risen-then start.wire at.wire wire done.risen writes.wrote.risen;
  failed = λ failed. rose_by at at at.out.failed start.wire.faults at.wire.faults wire.faults done.risen.faults (writes.failed failed) done.failed writes.wrote.risen.faults;
  empties = done.empties;
}

pub runs-writes : (start : Start) (deeds : Deeds) (at : At) (gone : List (List ℕ)) (octets : List ℕ) (out : OutOf) (wire : WireOf) → Writes gone octets at.out out at.wire wire
    → Runs start deeds at → Runs start (gone_on gone deeds) (written_at out wire at)
runs-writes start deeds at gone octets out wire writes runs = record {
  done = done-writes start deeds at gone octets out wire writes runs.done;
  wanted = record { unheard = runs.wanted.unheard; unqueued = runs.wanted.unqueued; unpacked = runs.wanted.unpacked };
  unspent = runs.unspent;
  after = runs.after;
  going = runs.going;
  waits = record {
    up_to_batch = runs.waits.up_to_batch;
    others = runs.waits.others;
    all = runs.waits.all;
    none = runs.waits.none;
    within = omega (arith, runs.waits.within, writes.to_last_update, length-append deeds.gone gone);
  };
  offers = λ some. let before : nat_lt 0 at.out.to_last_update ≡ true = has_before at.out.to_last_update out.to_last_update (length gone) writes.to_last_update some in runs.offers before;
} where
  has_before : (old new n : ℕ) → new ≡ old - n → nat_lt 0 new ≡ true → nat_lt 0 old ≡ true
  has_before old new n is some = grind (arith, nat_tests)

-- ---- an answer

-- an input came, and the session has messages for it, which aren't queued yet
abbrev pub answered_by : Input → Doing → Deeds → Deeds
answered_by input does deeds = record deeds { inputs = deeds.inputs ++ input ∷ []; recent = deeds.recent ++ map Said does.sent; unqueued = does.sent }

or-left : (a b : Bool) → (a || b) ≡ false → a ≡ false
or-left true b none = none
or-left false b none = refl

module _ (start : Start) (deeds : Deeds) (at : At) (done : Done start deeds at) (wanted : WantedNothing deeds) (input : Input) where
  abbrev all_does : Answer → Doing
  all_does a = then_also (does_by start deeds) a.does

  later-pieces : (messages : List (List ℕ)) → deeds.settled ++ (deeds.recent ++ map Said messages) ≡ pieces_in deeds ++ map Said messages
  later-pieces messages = sym (append_assoc deeds.settled deeds.recent (map Said messages))

  later-batches : (messages : List (List ℕ)) → batches_in (deeds.settled ++ (deeds.recent ++ map Said messages)) ≡ batches_in (pieces_in deeds)
  later-batches messages =
      ap batches_in (later-pieces messages)
      ∙ batches-append (pieces_in deeds) (map Said messages)
      ∙ ap (λ (bs : List (List OfferFields)). batches_in (pieces_in deeds) ++ bs) (said-batches messages)
      ∙ append-nil (batches_in (pieces_in deeds))

  later-mails : (events : List SessionEvent) (shard : ℕ) → mails_of at.seat events shard ≡ mails_of start.seat events shard
  later-mails [] shard = refl
  later-mails (event ∷ events) shard =
      ap (λ (ms : List Mail). ms ++ mails_of at.seat events shard) (mail_of-same start.seat at.seat event shard done.same)
      ∙ ap (λ (ms : List Mail). mail_of start.seat event shard ++ ms) (later-mails events shard)

  pub done-answered : (a : Answer) → a ≡ answer start.roster input (answers start.roster deeds.inputs start.session).after
      → IsCourseOf start.can_give (deeds.inputs ++ input ∷ [])
      → (held : Held) (seat : SeatOf) (wire : WireOf) (up : Bool) (messages : ℕ)
      → Puts (mails_of at.seat a.does.events) at.seat seat
      → wire.given ≡ behind at.wire.given (octets_in (input ∷ [])) → wire.taken ≡ at.wire.taken → HasRisen at.wire wire
      → up ≡ (at.up || reached_up a.does.events)
      → messages ≡ counted_on at.messages (handled_at start.roster input (answers start.roster deeds.inputs start.session).after)
      → Done start (answered_by input a.does deeds) (record { held = held; out = at.out; seat = seat; wire = wire; up = up; messages = messages })
  done-answered a a_is course held seat wire up messages puts given taken risen up_is messages_are = record {
    course = course;
    read =
        given
        ∙ ap (λ t. behind t (octets_in (input ∷ []))) done.read
        ∙ behind-append start.wire.given (octets_in deeds.inputs ++ deeds.unheard) (octets_in (input ∷ []))
        ∙ ap (behind start.wire.given) (
        ap (λ (o : List ℕ). (octets_in deeds.inputs ++ o) ++ octets_in (input ∷ [])) wanted.unheard
        ∙ ap (λ (o : List ℕ). o ++ octets_in (input ∷ [])) (append-nil (octets_in deeds.inputs))
        ∙ sym (octets-append deeds.inputs (input ∷ []))
        ∙ sym (append-nil (octets_in (deeds.inputs ++ input ∷ [])))
        ∙ ap (λ (o : List ℕ). octets_in (deeds.inputs ++ input ∷ []) ++ o) (sym wanted.unheard));
    messages = messages_are ∙ counted at.messages (handled_by start.roster deeds.inputs start.session) _ (handled_by start.roster (deeds.inputs ++ input ∷ []) start.session) done.messages (handled-more start.roster deeds.inputs input start.session);
    same = same-then start.seat at.seat seat done.same puts.same;
    put = λ shard here.
        puts.each shard (omega (arith, done.same.count))
        ∙ ap (λ (ms : List Mail). ms ++ mails_of at.seat a.does.events shard) (done.put shard here)
        ∙ append_assoc (sent_at shard start.seat) (mails_of start.seat (does_by start deeds).events shard) (mails_of at.seat a.does.events shard)
        ∙ ap (λ (ms : List Mail). sent_at shard start.seat ++ ms) (
        ap (λ (ms : List Mail). mails_of start.seat (does_by start deeds).events shard ++ ms) (later-mails a.does.events shard)
        ∙ sym (flat_map-append (λ (e : SessionEvent). mail_of start.seat e shard) (does_by start deeds).events a.does.events)
        ∙ ap (λ (d : Doing). mails_of start.seat d.events shard) does_are);
    up =
        up_is
        ∙ ap (λ b. b || reached_up a.does.events) done.up
        ∙ sym (list_any-append is_up_event (does_by start deeds).events a.does.events)
        ∙ ap (λ (d : Doing). reached_up d.events) does_are;
    said =
        ap (λ (d : Doing). d.sent) (sym does_are)
        ∙ ap (λ (ms : List (List ℕ)). ms ++ a.does.sent) done.said
        ∙ ap (λ (ms : List (List ℕ)). said_in (pieces_in deeds) ++ ms) (sym (said-said a.does.sent))
        ∙ sym (said-append (pieces_in deeds) (map Said a.does.sent))
        ∙ ap said_in (sym (later-pieces a.does.sent));
    queue =
        ap (flat_map messages_of) (later-pieces a.does.sent)
        ∙ flat_map-append messages_of (pieces_in deeds) (map Said a.does.sent)
        ∙ ap (λ (ms : List (List ℕ)). flat_map messages_of (pieces_in deeds) ++ ms) (said-messages a.does.sent)
        ∙ ap (λ (ms : List (List ℕ)). ms ++ a.does.sent) done.queue
        ∙ append_assoc deeds.gone (at.out.waiting ++ deeds.unqueued) a.does.sent
        ∙ ap (λ (ms : List (List ℕ)). deeds.gone ++ ((at.out.waiting ++ ms) ++ a.does.sent)) wanted.unqueued
        ∙ ap (λ (ms : List (List ℕ)). deeds.gone ++ (ms ++ a.does.sent)) (append-nil at.out.waiting);
    taken = taken ∙ done.taken;
    updates = done.updates;
    received = ap (λ (s : _). s) (offers_received puts.offers) ∙ done.received;
    batches = done.batches ∙ ap (λ (bs : List (List OfferFields)). flat_map (λ batch. batch) bs ++ deeds.unpacked) (sym (later-batches a.does.sent));
    small = subst (AllByRecursion (λ (batch : List OfferFields). length batch ≤ 1024)) (sym (later-batches a.does.sent)) done.small;
    after_up = λ none. later-batches a.does.sent ∙ done.after_up (or-left _ (reached_up a.does.events) (sym (list_any-append is_up_event (does_by start deeds).events a.does.events) ∙ ap (λ (d : Doing). reached_up d.events) does_are ∙ none));
    settled = done.settled;
    last = omega (arith, done.last, ap length (batches-append deeds.recent (map Said a.does.sent)), length-append (batches_in deeds.recent) (batches_in (map Said a.does.sent)), ap length (said-batches a.does.sent));
    risen = risen-then start.wire at.wire wire done.risen risen;
    failed = λ failed. rose-then start.wire.faults at.wire.faults wire.faults (done.failed failed) risen.faults;
    empties = subst (λ n. HasNotFallen start.seat.offers.empties n) (sym (ap (λ o. o.empties) puts.offers)) done.empties;
  } where
    does_are : all_does a ≡ does_by start (answered_by input a.does deeds)
    does_are = ap all_does a_is ∙ ap (λ (r : Answer). r.does) (sym (answers-more start.roster deeds.inputs input start.session))

    counted : (m n k all : ℕ) → m ≡ counted_on 0 n → all ≡ n + k → counted_on m k ≡ counted_on 0 all
    counted m n k all m_is all_is = omega arith

    offers_received : seat.offers ≡ at.seat.offers → seat.offers.received ≡ at.seat.offers.received
    offers_received same = ap (λ o. o.received) same

-- the messages are queued
pub done-pushed : (start : Start) (deeds : Deeds) (at : At) (out : OutOf) (queued unqueued : List (List ℕ)) → deeds.unqueued ≡ queued ++ unqueued
    → out ≡ record at.out { waiting = at.out.waiting ++ queued } → front out ≡ front at.out
    → Done start deeds at → Done start (record deeds { unqueued = unqueued }) (record at { out = out })
done-pushed start deeds at out queued unqueued split out_is same_front done = record {
  course = done.course;
  read = done.read;
  messages = done.messages;
  same = done.same;
  put = done.put;
  up = done.up;
  said = done.said;
  queue =
      done.queue
      ∙ ap (λ (ms : List (List ℕ)). deeds.gone ++ (at.out.waiting ++ ms)) split
      ∙ ap (λ (ms : List (List ℕ)). deeds.gone ++ ms) (sym (append_assoc at.out.waiting queued unqueued))
      ∙ ap (λ (o : OutOf). deeds.gone ++ (o.waiting ++ unqueued)) (sym out_is);
  taken = done.taken ∙ ap (λ (xs : List ℕ). behind start.wire.taken (concat deeds.gone ++ xs)) (sym same_front);
  updates = subst (λ n. HasMore 0 (updates_in deeds.gone) n) (ap (λ (o : OutOf). o.updates) (sym out_is)) done.updates;
  received = done.received;
  batches = done.batches;
  small = done.small;
  after_up = done.after_up;
  settled = done.settled;
  last = done.last;
  risen = done.risen;
  failed = λ failed. done.failed (ap (λ (o : OutOf). o.failed) (sym out_is) ∙ failed);
  empties = done.empties;
}

-- ---- a read that the session doesn't hear of

-- octets were read, or none, which the session had no memory to handle
pub done-read : (start : Start) (deeds : Deeds) (at : At) → WantedNothing deeds → (held : Held) (wire : WireOf) (octets : List ℕ) → wire.given ≡ behind at.wire.given octets → wire.taken ≡ at.wire.taken → HasRisen at.wire wire
    → Done start deeds at → Done start (record deeds { unheard = octets }) (record at { held = held; wire = wire })
done-read start deeds at wanted held wire octets given taken risen done = record {
  course = done.course;
  read =
      given
      ∙ ap (λ t. behind t octets) done.read
      ∙ behind-append start.wire.given (octets_in deeds.inputs ++ deeds.unheard) octets
      ∙ ap (λ (o : List ℕ). behind start.wire.given ((octets_in deeds.inputs ++ o) ++ octets)) wanted.unheard
      ∙ ap (λ (o : List ℕ). behind start.wire.given (o ++ octets)) (append-nil (octets_in deeds.inputs));
  messages = done.messages;
  same = done.same;
  put = done.put;
  up = done.up;
  said = done.said;
  queue = done.queue;
  taken = taken ∙ done.taken;
  updates = done.updates;
  received = done.received;
  batches = done.batches;
  small = done.small;
  after_up = done.after_up;
  settled = done.settled;
  last = done.last;
  risen = risen-then start.wire at.wire wire done.risen risen;
  failed = λ failed. rose-then start.wire.faults at.wire.faults wire.faults (done.failed failed) risen.faults;
  empties = done.empties;
}

-- ---- offers

own-append : (generation : ℕ) (xs ys : List (ℕ × OfferFields)) → own_offers generation (xs ++ ys) ≡ own_offers generation xs ++ own_offers generation ys
own-append generation xs ys =
    ap (filter (λ (offer : OfferFields). offer.generation == generation)) (map-append (λ (t : ℕ × OfferFields). t.1) xs ys)
    ∙ filter-append (λ (offer : OfferFields). offer.generation == generation) (map (λ (t : ℕ × OfferFields). t.1) xs) (map (λ (t : ℕ × OfferFields). t.1) ys)

-- offers were taken, which aren't packed yet
abbrev pub took_by : Start → List (ℕ × OfferFields) → Deeds → Deeds
took_by start taken deeds = record deeds { took = deeds.took ++ taken; unpacked = own_offers start.seat.generation taken }

pub done-took : (start : Start) (deeds : Deeds) (at : At) → WantedNothing deeds → (taken : List (ℕ × OfferFields)) (seat : SeatOf) → Takes taken at.seat seat
    → Done start deeds at → Done start (took_by start taken deeds) (record at { seat = seat })
done-took start deeds at wanted taken seat takes done = record {
  course = done.course;
  read = done.read;
  messages = done.messages;
  same = same-then start.seat at.seat seat done.same takes.same;
  put = λ shard here. ap (λ (ss : List (SenderOf Mail)). (slice_index_or ss shard no_sender).sent) takes.senders ∙ done.put shard here;
  up = done.up;
  said = done.said;
  queue = done.queue;
  taken = done.taken;
  updates = done.updates;
  received =
      takes.received
      ∙ ap (λ (xs : List (ℕ × OfferFields)). xs ++ taken) done.received
      ∙ append_assoc start.seat.offers.received deeds.took taken;
  batches =
      own-append start.seat.generation deeds.took taken
      ∙ ap (λ (xs : List OfferFields). xs ++ own_offers start.seat.generation taken) (done.batches ∙ ap (λ (u : List OfferFields). flat_map (λ batch. batch) (batches_in (pieces_in deeds)) ++ u) wanted.unpacked ∙ append-nil (flat_map (λ batch. batch) (batches_in (pieces_in deeds))));
  small = done.small;
  after_up = done.after_up;
  settled = done.settled;
  last = done.last;
  risen = done.risen;
  failed = done.failed;
  empties = not_fallen start.seat.offers.empties at.seat.offers.empties seat.offers.empties done.empties takes.empties;
}

-- the batch is packed, and its UPDATEs wait
abbrev pub packed_by : List Piece → List Piece → List OfferFields → Deeds → Deeds
packed_by up_to_batch others batch deeds = record deeds { settled = deeds.settled ++ up_to_batch; recent = others ++ Offered batch ∷ []; unpacked = [] }

all-append : (batches : List (List OfferFields)) (batch : List OfferFields) → AllByRecursion (λ (b : List OfferFields). length b ≤ 1024) batches → length batch ≤ 1024 → AllByRecursion (λ (b : List OfferFields). length b ≤ 1024) (batches ++ batch ∷ [])
all-append [] batch each one = (one, tt)
all-append (first ∷ batches) batch each one = (each.0, all-append batches batch each.1 one)

module _ (start : Start) (deeds : Deeds) (at : At) (wanted_heard : deeds.unqueued ≡ []) (up_to_batch others : List Piece) (all : deeds.recent ≡ up_to_batch ++ others) (none : batches_in others ≡ []) where
  pub packed-pieces : (batch : List OfferFields) → pieces_in (packed_by up_to_batch others batch deeds) ≡ pieces_in deeds ++ Offered batch ∷ []
  packed-pieces batch =
      append_assoc deeds.settled up_to_batch (others ++ Offered batch ∷ [])
      ∙ ap (λ (ps : List Piece). deeds.settled ++ ps) (sym (append_assoc up_to_batch others (Offered batch ∷ [])))
      ∙ ap (λ (ps : List Piece). deeds.settled ++ (ps ++ Offered batch ∷ [])) (sym all)
      ∙ sym (append_assoc deeds.settled deeds.recent (Offered batch ∷ []))

  packed-batches : (batch : List OfferFields) → batches_in (pieces_in (packed_by up_to_batch others batch deeds)) ≡ batches_in (pieces_in deeds) ++ batch ∷ []
  packed-batches batch = ap batches_in (packed-pieces batch) ∙ batches-append (pieces_in deeds) (Offered batch ∷ [])

  pub packed-queue : (batch : List OfferFields) → Done start deeds at → flat_map messages_of (pieces_in (packed_by up_to_batch others batch deeds)) ≡ deeds.gone ++ ((at.out.waiting ++ updates_of batch) ++ deeds.unqueued)
  packed-queue batch done =
      ap (flat_map messages_of) (packed-pieces batch)
      ∙ flat_map-append messages_of (pieces_in deeds) (Offered batch ∷ [])
      ∙ ap (λ (ms : List (List ℕ)). flat_map messages_of (pieces_in deeds) ++ ms) (append-nil (updates_of batch))
      ∙ ap (λ (ms : List (List ℕ)). ms ++ updates_of batch) done.queue
      ∙ append_assoc deeds.gone (at.out.waiting ++ deeds.unqueued) (updates_of batch)
      ∙ ap (λ (u : List (List ℕ)). deeds.gone ++ ((at.out.waiting ++ u) ++ updates_of batch)) wanted_heard
      ∙ ap (λ (ms : List (List ℕ)). deeds.gone ++ (ms ++ updates_of batch)) (append-nil at.out.waiting)
      ∙ ap (λ (ms : List (List ℕ)). deeds.gone ++ ms) (sym (append-nil (at.out.waiting ++ updates_of batch)))
      ∙ ap (λ (u : List (List ℕ)). deeds.gone ++ ((at.out.waiting ++ updates_of batch) ++ u)) (sym wanted_heard)

  pub done-packed : (batch : List OfferFields) (out : OutOf) → deeds.unpacked ≡ batch → length batch ≤ 1024 → reached_up (does_by start deeds).events ≡ true
      → length (flat_map messages_of (deeds.settled ++ up_to_batch)) ≤ length deeds.gone
      → out ≡ record at.out { waiting = at.out.waiting ++ updates_of batch; to_last_update = length (at.out.waiting ++ updates_of batch) } → front out ≡ front at.out
      → Done start deeds at → Done start (packed_by up_to_batch others batch deeds) (record at { out = out })
  done-packed batch out unpacked few is_up settled out_is same_front done = record {
    course = done.course;
    read = done.read;
    messages = done.messages;
    same = done.same;
    put = done.put;
    up = done.up;
    said =
        done.said
        ∙ sym (append-nil (said_in (pieces_in deeds)))
        ∙ sym (said-append (pieces_in deeds) (Offered batch ∷ []))
        ∙ ap said_in (sym (packed-pieces batch));
    queue = packed-queue batch done ∙ ap (λ (o : OutOf). deeds.gone ++ (o.waiting ++ deeds.unqueued)) (sym out_is);
    taken = done.taken ∙ ap (λ (xs : List ℕ). behind start.wire.taken (concat deeds.gone ++ xs)) (sym same_front);
    updates = subst (λ n. HasMore 0 (updates_in deeds.gone) n) (ap (λ (o : OutOf). o.updates) (sym out_is)) done.updates;
    received = done.received;
    batches =
        done.batches
        ∙ ap (λ (b : List OfferFields). flat_map (λ batch. batch) (batches_in (pieces_in deeds)) ++ b) (unpacked ∙ sym (append-nil batch))
        ∙ sym (flat_map-append (λ (batch : List OfferFields). batch) (batches_in (pieces_in deeds)) (batch ∷ []))
        ∙ ap (λ (bs : List (List OfferFields)). flat_map (λ batch. batch) bs) (sym (packed-batches batch))
        ∙ sym (append-nil (flat_map (λ batch. batch) (batches_in (pieces_in (packed_by up_to_batch others batch deeds)))));
    small = subst (AllByRecursion (λ (b : List OfferFields). length b ≤ 1024)) (sym (packed-batches batch)) (all-append (batches_in (pieces_in deeds)) batch done.small few);
    after_up = λ not_up. absurd (both_ways (reached_up (does_by start deeds).events) not_up is_up);
    settled = settled;
    last = omega (arith, ap length (batches-append others (Offered batch ∷ [])), length-append (batches_in others) (batch ∷ []), ap length none);
    risen = done.risen;
    failed = λ failed. done.failed (ap (λ (o : OutOf). o.failed) (sym out_is) ∙ failed);
    empties = done.empties;
  }
