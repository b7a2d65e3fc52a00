-- The turns of a record: the same sessions have them, and each is the same events on the shards.
use Rattle.std.proofs.Common.{◌≡◌, ℕ, ◌<◌, Bool, true, false, cond, eqb, List, [], ◌∷◌, ◌++◌, map, Option, Some, None, IfSome, refl, sym, ap, ◌∙◌, subst}
use Rattle.std.specs.List.{AllByRecursion, flat_map}
use Rattle.std.proofs.lemmas.List.Elements.{All-nil}
use Rattle.rcp_base.specs.declared.kinds.Kind.{Kind}
use Rattle.rcp_base.specs.declared.kinds.Kind.TheVariants as kind
use Rattle.rcp_base.specs.Feed.{FeedRecord, is_time, moment_of}
use Rattle.rcp_base.specs.Octets.{AreOctets}
use Rattle.rcp_base.specs.Roster.{RosterOf}
use Rattle.rcp_base.specs.Maps.{get_at, put_at, set_at}
use Rattle.rcp_model.specs.LinkState.{LinkState, same_number}
use Rattle.rcp_model.specs.RouteServer.{Server}
use Rattle.rcp_model.specs.Sessions.{SessionState, SessionEvent, Announce, Withdraw, Ending, Doing, Answer, Input, Octets, Seat, Moment, End, answer, begun, begun_established, is_closed, seat_of, seat_taken, stepped}
use Rattle.rcp_model.specs.Sessions as session
use Rattle.rcp_model.specs.Telling.{IsTold, BringsOctets}
use Rattle.rcp_model.specs.ServerRibs.{Change, ribs_of}
use Rattle.rcp_model.proofs.AllLemmas.{all-append}
use Rattle.rcp_model.proofs.KeptLemmas.{told-answer, kept-octets}
use Rattle.rcp_model.proofs.OfferLemmas.{filter-keeps}
use Rattle.feed_meaning.specs.LinkStream.{LinkStream}
use Rattle.feed_meaning.specs.Platform.{Connections, Platform, domain_of}
use Rattle.feed_meaning.specs.SessionTurns.{Turn, turn, is_free, simple_turn, claim_turn, octets_turn, connection_at, ready_turn, slot_named, turns_of, server_event, end_events, seat_events, turn_events, if_open, after_turn, after_turns, turn_output, noted, record_turns, turns_act}
use Rattle.feed_meaning.proofs.EventLemmas.{rising-all}
use Rattle.platform_laws.specs.Parts.{route_event, IsCanonicalEvent, AreParts, shards_after_all}
use Rattle.platform_laws.specs.Platforms.{PlatformOf, KeepOctets, IsSeen, capped_stream}
use Rattle.platform_laws.specs.Turns.{turns_of_record, shard_event, end_of_seat, events_of_seat, seen_after_turn, seen_after_turns, noted_at, IsTurnInForm}
use Rattle.platform_laws.proofs.PartEvents.{parts-after_all}
use Rattle.platform_laws.proofs.TableLemmas.{once-all}

-- ---- the events of a turn

form-event : (roster : RosterOf) (slot : ℕ) (event : SessionEvent) → IsTold roster.as_number event → route_event roster (server_event slot event) ≡ shard_event slot event
form-event roster slot session.Up form = refl
form-event roster slot (Announce p route) form = λ i. Change slot p (Some (sym form.1.fields i))
form-event roster slot (Withdraw p) form = refl

form-seat : (roster : RosterOf) (slot : ℕ) (events : List SessionEvent) (closed : Option Ending) → AllByRecursion (IsTold roster.as_number) events
    → map (route_event roster) (map (server_event slot) events ++ end_events slot closed) ≡ map (shard_event slot) events ++ end_of_seat slot closed
form-seat roster slot [] None form = refl
form-seat roster slot [] (Some ending) form = refl
form-seat roster slot (event ∷ events) closed form = λ i. form-event roster slot event form.0 i ∷ form-seat roster slot events closed form.1 i

form-events : (roster : RosterOf) (seat : Option ℕ) (does : Doing) → AllByRecursion (IsTold roster.as_number) does.events → map (route_event roster) (seat_events seat does) ≡ events_of_seat seat does
form-events roster None does form = refl
form-events roster (Some slot) does form = form-seat roster slot does.events does.closed form

canonical-event : (as_number slot : ℕ) (event : SessionEvent) → IsTold as_number event → IsCanonicalEvent (server_event slot event)
canonical-event as_number slot session.Up form = tt
canonical-event as_number slot (Announce p route) form = form.1.canonical
canonical-event as_number slot (Withdraw p) form = tt

canonical-seat : (as_number slot : ℕ) (events : List SessionEvent) (closed : Option Ending) → AllByRecursion (IsTold as_number) events
    → AllByRecursion IsCanonicalEvent (map (server_event slot) events ++ end_events slot closed)
canonical-seat as_number slot [] None form = tt
canonical-seat as_number slot [] (Some ending) form = (tt, tt)
canonical-seat as_number slot (event ∷ events) closed form = (canonical-event as_number slot event form.0, canonical-seat as_number slot events closed form.1)

canonical-events : (as_number : ℕ) (seat : Option ℕ) (does : Doing) → AllByRecursion (IsTold as_number) does.events → AllByRecursion IsCanonicalEvent (seat_events seat does)
canonical-events as_number None does form = tt
canonical-events as_number (Some slot) does form = canonical-seat as_number slot does.events does.closed form

-- ---- the sessions keep octets

Keeps : ℕ × SessionState → Type 0
Keeps entry = AreOctets entry.1.kept

keep-put : (number : ℕ) (session : SessionState) (es : Connections) → AreOctets session.kept → KeepOctets es → KeepOctets (put_at same_number number session es)
keep-put number session [] one h = (one, tt)
keep-put number session (e ∷ es) one h = at_test (eqb number e.0) (keep-put number session es one h.1) where
  at_test : (b : Bool) → KeepOctets (put_at same_number number session es) → KeepOctets (cond b ((number, session) ∷ es) (e ∷ put_at same_number number session es))
  at_test true rest = (one, h.1)
  at_test false rest = (h.0, rest)

keep-turn : (number : ℕ) (session : SessionState) (es : Connections) → AreOctets session.kept → KeepOctets es → KeepOctets (set_at same_number number (if_open session) es)
unfolding Keeps
keep-turn number session es one h = at_test (is_closed session.phase) where
  at_test : (b : Bool) → KeepOctets (set_at same_number number (cond b None (Some session)) es)
  at_test true = filter-keeps Keeps _ es h
  at_test false = keep-put number session es one h

keep-at : (es : Connections) (number : ℕ) → KeepOctets es → IfSome (get_at same_number number es) (λ s. AreOctets s.kept)
keep-at [] number h = tt
keep-at (e ∷ es) number h = at_test (eqb number e.0) (keep-at es number h.1) where
  at_test : (b : Bool) → IfSome (get_at same_number number es) (λ s. AreOctets s.kept) → IfSome (cond b (Some e.1) (get_at same_number number es)) (λ s. AreOctets s.kept)
  at_test true rest = h.0
  at_test false rest = rest

keep-connection : (es : Connections) (number : ℕ) → KeepOctets es → KeepOctets (connection_at es number)
keep-connection es number h = by_found (get_at same_number number es) (keep-at es number h) where
  by_found : (found : Option SessionState) → IfSome found (λ s. AreOctets s.kept) → KeepOctets (elim found [ None ↦ [] | Some s ↦ (number, s) ∷ [] ])
  by_found None h = tt
  by_found (Some s) h = (h, tt)

-- ---- what sessions report

simple-in_form : (roster : RosterOf) (input : Input) (es : Connections) → BringsOctets input → KeepOctets es → AllByRecursion (IsTurnInForm roster.as_number) (map (simple_turn roster input) es)
simple-in_form roster input [] brings h = tt
simple-in_form roster input (e ∷ es) brings h = (
  record { events = told-answer roster input e.1 h.0 brings; kept = kept-octets roster input e.1 h.0 brings },
  simple-in_form roster input es brings h.1,
)

module _ (platform : Platform) (body : List ℕ) (small : AreOctets body) where
  octets-in_form : (e : ℕ × SessionState) → AreOctets e.1.kept → IsTurnInForm platform.roster.as_number (octets_turn platform body e)
  octets-in_form e h = by_claim first.does.claim where
    first : Answer
    first = answer platform.roster (Octets body platform.moment) e.1

    form : AllByRecursion (IsTold platform.roster.as_number) first.does.events
    form = told-answer platform.roster (Octets body platform.moment) e.1 h small

    kept : AreOctets first.after.kept
    kept = kept-octets platform.roster (Octets body platform.moment) e.1 h small

    by_claim : (claim : Option ℕ) → IsTurnInForm platform.roster.as_number (claim_turn platform e.0 (seat_of e.1.phase) first claim)
    by_claim None = record { events = form; kept = kept }
    by_claim (Some slot) =
        let free = is_free platform.connections slot in
        record {
          events = all-append (IsTold platform.roster.as_number) first.does.events (answer platform.roster (Seat free platform.moment) first.after).does.events form
              (told-answer platform.roster (Seat free platform.moment) first.after kept tt);
          kept = kept-octets platform.roster (Seat free platform.moment) first.after kept tt;
        }

  heard-in_form : (es : Connections) → KeepOctets es → AllByRecursion (IsTurnInForm platform.roster.as_number) (map (octets_turn platform body) es)
  heard-in_form [] h = tt
  heard-in_form (e ∷ es) h = (octets-in_form e h.0, heard-in_form es h.1)

ready-in_form : (platform : Platform) (number : ℕ) (found : Option ℕ) → AllByRecursion (IsTurnInForm platform.roster.as_number) (ready_turn platform number found)
unfolding begun_established
ready-in_form platform number None = tt
ready-in_form platform number (Some slot) = at_test (is_free platform.connections slot) where
  at_test : (b : Bool) → AllByRecursion (IsTurnInForm platform.roster.as_number) (cond b (turn number (Some slot) (begun_established slot) ∷ []) (turn number None (stepped 0 [] seat_taken) ∷ []))
  at_test true = (record { events = (tt, tt); kept = All-nil (λ o. o < 256) }, tt)
  at_test false = (record { events = tt; kept = All-nil (λ o. o < 256) }, tt)

begun-in_form : (roster : RosterOf) (now number : ℕ) → IsTurnInForm roster.as_number (turn number None (begun roster now))
unfolding begun
begun-in_form roster now number = record { events = tt; kept = All-nil (λ o. o < 256) }

pub record-in_form : (platform : Platform) (number : ℕ) (body : List ℕ) (k : Kind) → AreOctets body → KeepOctets platform.connections → AllByRecursion (IsTurnInForm platform.roster.as_number) (turns_of platform number body k)
record-in_form platform number body kind.Ready small h = ready-in_form platform number (slot_named platform.roster body)
record-in_form platform number body kind.Raw small h = (begun-in_form platform.roster platform.moment number, tt)
record-in_form platform number body kind.Octets small h = heard-in_form platform body small (connection_at platform.connections number) (keep-connection platform.connections number h)
record-in_form platform number body kind.Closed small h = simple-in_form platform.roster End (connection_at platform.connections number) tt (keep-connection platform.connections number h)
record-in_form platform number body kind.Time small h = simple-in_form platform.roster (Moment (moment_of body)) platform.connections tt h
record-in_form platform number body kind.Roster small h = tt
record-in_form platform number body kind.Links small h = tt
record-in_form platform number body kind.Slice small h = tt
record-in_form platform number body kind.Drain small h = tt
record-in_form platform number body kind.Finish small h = tt

-- ---- one turn

pub seen-turn : (turn : Turn) (platform : Platform) (seen : PlatformOf) → IsSeen platform seen → IsTurnInForm platform.roster.as_number turn → IsSeen (after_turn turn platform) (seen_after_turn turn seen)
seen-turn turn platform seen h forms = record {
  roster = h.roster;
  sessions = ap (set_at same_number turn.number (if_open turn.answer.after)) h.sessions;
  time = h.time;
  stream = h.stream;
  link_state = h.link_state;
  shards = subst (AreParts platform.roster (ribs_of (after_turn turn platform).server))
      (λ i. shards_after_all (sym h.roster i) (form-events platform.roster turn.seat turn.answer.does forms.events i) seen.shards)
      (parts-after_all platform.roster (turn_events turn) platform.server seen.shards h.shards (canonical-events platform.roster.as_number turn.seat turn.answer.does forms.events));
  updates = h.updates;
  rising = rising-all (domain_of platform.roster) (turn_events turn) platform.server h.rising;
  once = once-all (domain_of platform.roster) (turn_events turn) platform.server h.once;
  octets = keep-turn turn.number turn.answer.after platform.connections forms.kept h.octets;
}

pub seen-turns : (turns : List Turn) (platform : Platform) (seen : PlatformOf) → IsSeen platform seen → AllByRecursion (IsTurnInForm platform.roster.as_number) turns
    → IsSeen (after_turns turns platform) (seen_after_turns turns seen)
seen-turns [] platform seen h forms = h
seen-turns (turn ∷ turns) platform seen h forms = seen-turns turns (after_turn turn platform) (seen_after_turn turn seen) (seen-turn turn platform seen h forms.0) forms.1

-- ---- the turns of a record

-- they depend on the roster, the sessions and the time alone
same-turns : (platform : Platform) (stream : LinkStream) (state : LinkState) (server : Server) (updates number : ℕ) (body : List ℕ) (k : Kind)
    → turns_of (record platform { stream = stream; link_state = state; server = server; updates = updates }) number body k ≡ turns_of platform number body k
same-turns platform stream state server updates number body kind.Ready = by_slot (slot_named platform.roster body) where
  by_slot : (found : Option ℕ) → ready_turn (record platform { stream = stream; link_state = state; server = server; updates = updates }) number found ≡ ready_turn platform number found
  by_slot None = refl
  by_slot (Some slot) = refl
same-turns platform stream state server updates number body kind.Raw = refl
same-turns platform stream state server updates number body kind.Octets = each (connection_at platform.connections number) where
  by_claim : (e : ℕ × SessionState) (claim : Option ℕ)
      → claim_turn (record platform { stream = stream; link_state = state; server = server; updates = updates }) e.0 (seat_of e.1.phase) (answer platform.roster (Octets body platform.moment) e.1) claim
      ≡ claim_turn platform e.0 (seat_of e.1.phase) (answer platform.roster (Octets body platform.moment) e.1) claim
  by_claim e None = refl
  by_claim e (Some slot) = refl

  each : (es : Connections) → map (octets_turn (record platform { stream = stream; link_state = state; server = server; updates = updates }) body) es ≡ map (octets_turn platform body) es
  each [] = refl
  each (e ∷ es) = λ i. by_claim e (answer platform.roster (Octets body platform.moment) e.1).does.claim i ∷ each es i
same-turns platform stream state server updates number body kind.Closed = refl
same-turns platform stream state server updates number body kind.Time = refl
same-turns platform stream state server updates number body kind.Roster = refl
same-turns platform stream state server updates number body kind.Links = refl
same-turns platform stream state server updates number body kind.Slice = refl
same-turns platform stream state server updates number body kind.Drain = refl
same-turns platform stream state server updates number body kind.Finish = refl

no_server : Server
no_server = record { tables = []; announcements = []; pending = []; edges = [] }

pub turns-alike : (platform : Platform) (seen : PlatformOf) (item : FeedRecord) → IsSeen platform seen → turns_of_record seen item ≡ record_turns platform item
unfolding no_server
turns-alike platform seen item h =
    (λ i. turns_of (record { roster = h.roster i; connections = h.sessions i; moment = h.time i; stream = h.stream i; link_state = seen.link_state; server = no_server; updates = h.updates i }) item.source item.body item.kind)
    ∙ same-turns platform (capped_stream platform.stream) seen.link_state no_server platform.updates item.source item.body item.kind

seen-noted : (platform : Platform) (seen : PlatformOf) (item : FeedRecord) → IsSeen platform seen → IsSeen (noted item platform) (noted_at item seen)
seen-noted platform seen item h = record {
  roster = h.roster;
  sessions = h.sessions;
  time = ap (λ m. cond (is_time item.kind) (moment_of item.body) m) h.time;
  stream = h.stream;
  link_state = h.link_state;
  shards = h.shards;
  updates = h.updates;
  rising = h.rising;
  once = h.once;
  octets = h.octets;
}

pub seen-turns_act : (platform : Platform) (seen : PlatformOf) (item : FeedRecord) → IsSeen platform seen → AreOctets item.body
    → IsSeen (turns_act platform item).after (seen_after_turns (turns_of_record seen item) (noted_at item seen))
seen-turns_act platform seen item h small =
    subst (λ turns. IsSeen (turns_act platform item).after (seen_after_turns turns (noted_at item seen))) (sym (turns-alike platform seen item h))
    (seen-turns (record_turns platform item) (noted item platform) (noted_at item seen) (seen-noted platform seen item h) (record-in_form platform item.source item.body item.kind small h.octets))

pub same-output : (platform : Platform) (seen : PlatformOf) (item : FeedRecord) → IsSeen platform seen → (turns_act platform item).out ≡ flat_map turn_output (turns_of_record seen item)
same-output platform seen item h = ap (flat_map turn_output) (sym (turns-alike platform seen item h))
