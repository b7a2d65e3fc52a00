-- What is kept from turn to turn: the octets sent on a connection replay to the table of its slot.
use Rattle.std.proofs.Common.{◌≡◌, ℕ, ◌≤◌, ◌<◌, false, ◌&&◌, eqb, List, [], ◌∷◌, ◌++◌, map, Option, Some, None, refl, sym, ap, ◌∙◌, ◌⊎◌, inl, inr, arith, append_assoc}
use Rattle.std.specs.Prelude.{is_some, drop}
use Rattle.std.specs.List.{concat, AllByRecursion}
use Rattle.std.proofs.lemmas.Bool.{cases_Bool, eqb-true, eq-eqb, both_ways}
use Rattle.std.proofs.lemmas.List.{append-nil}
use Rattle.std.proofs.lemmas.List.Folds.{concat-append}
use Rattle.rcp_base.specs.Feed.{OutRecord}
use Rattle.rcp_base.specs.Maps.{get_at, set_at, same_prefix}
use Rattle.rcp_model.specs.Rising.{IsRising}
use Rattle.rcp_model.specs.Messages.{IsMessage}
use Rattle.rcp_model.specs.Updates.{Table, Sections, sections_of, after_message, after_messages}
use Rattle.rcp_model.specs.LinkState.{same_number}
use Rattle.rcp_model.specs.RouteServer.{Server, table_of, after_all}
use Rattle.rcp_model.specs.Sessions.{Ending, Phase, OpenSent, Claiming, OpenConfirm, Established, Closed, SessionState, is_closed, seat_of, slot_in}
use Rattle.rcp_base.specs.Octets.{AreOctets}
use Rattle.rcp_model.specs.Telling.{IsTold}
use Rattle.feed_meaning.specs.Platform.{Connections, Platform, domain_of}
use Rattle.feed_meaning.specs.SessionTurns.{Turn, server_event, seat_events, turn_events, if_open, after_turn, turn_output}
use Rattle.feed_meaning.specs.OutRecords.{MESSAGE, messages_to, end_record, sent_to}
use Rattle.rcp_base.proofs.MapLemmas.{get_at-set_at_same, get_at-set_at_other}
use Rattle.rcp_model.proofs.ServerLemmas.{number_test, number-other, Settled}
use Rattle.rcp_model.proofs.UpdateLemmas.{after_messages-append}
use Rattle.rcp_model.proofs.AllLemmas.{all-append}
use Rattle.feed_meaning.proofs.RunLemmas.{Replays}
use Rattle.rcp_model.proofs.CourseLemmas.{IsQuiet, Shape}
use Rattle.feed_meaning.proofs.EventLemmas.{settled-all, rising-all, seat-good, changes-tables, up-table, other-tables}

-- ---- what is sent

pub sent_to-append : (n : ℕ) (xs ys : List OutRecord) → sent_to n (xs ++ ys) ≡ sent_to n xs ++ sent_to n ys
sent_to-append n [] ys = refl
sent_to-append n (x ∷ xs) ys =
    elim (cases_Bool (eqb x.kind MESSAGE && eqb x.connection n)) [
      | inl e ↦ rw e (ap (λ (l : List ℕ). x.body ++ l) (sent_to-append n xs ys) ∙ sym (append_assoc x.body (sent_to n xs) (sent_to n ys)))
      | inr e ↦ rw e (sent_to-append n xs ys)
    ]

pub sent_to-messages : (n : ℕ) (ms : List (List ℕ)) → sent_to n (messages_to n ms) ≡ concat ms
sent_to-messages n [] = refl
sent_to-messages n (m ∷ ms) = rw (eq-eqb n n refl) (ap (λ (l : List ℕ). m ++ l) (sent_to-messages n ms))

pub sent_to-others : (n k : ℕ) (ms : List (List ℕ)) → eqb k n ≡ false → sent_to n (messages_to k ms) ≡ []
sent_to-others n k [] h = refl
sent_to-others n k (m ∷ ms) h = rw h (sent_to-others n k ms h)

sent_to-end : (n k : ℕ) (closed : Option Ending) → sent_to n (end_record k closed) ≡ []
sent_to-end n k None = refl
sent_to-end n k (Some ending) = refl

sent_to-turn : (turn : Turn) → sent_to turn.number (turn_output turn) ≡ concat turn.answer.does.sent
sent_to-turn turn =
    sent_to-append turn.number (messages_to turn.number turn.answer.does.sent) (end_record turn.number turn.answer.does.closed)
    ∙ rw (sent_to-messages turn.number turn.answer.does.sent, sent_to-end turn.number turn.number turn.answer.does.closed) (append-nil (concat turn.answer.does.sent))

sent_to-other_turn : (n : ℕ) (turn : Turn) → eqb turn.number n ≡ false → sent_to n (turn_output turn) ≡ []
sent_to-other_turn n turn other =
    sent_to-append n (messages_to turn.number turn.answer.does.sent) (end_record turn.number turn.answer.does.closed)
    ∙ rw (sent_to-others n turn.number turn.answer.does.sent other, sent_to-end n turn.number turn.answer.does.closed) refl

-- ---- messages that are no UPDATEs

quiet-message : (message : List ℕ) (table : Table) → IsQuiet message → after_message message table ≡ table
unfolding after_message
quiet-message message table quiet = by_sections (sections_of (drop 19 message)) refl where
  by_sections : (found : Option Sections) → sections_of (drop 19 message) ≡ found → after_message message table ≡ table
  by_sections None is = rw (is, after_message) refl
  by_sections (Some sections) is = rw (is, after_message, quiet.other) refl

quiet-messages : (messages : List (List ℕ)) (table : Table) → AllByRecursion IsQuiet messages → after_messages messages table ≡ table
unfolding after_messages
quiet-messages [] table quiet = refl
quiet-messages (message ∷ messages) table quiet =
    ap (after_messages messages) (quiet-message message table quiet.0) ∙ quiet-messages messages table quiet.1

quiet-whole : (messages : List (List ℕ)) → AllByRecursion IsQuiet messages → AllByRecursion IsMessage messages
quiet-whole [] quiet = tt
quiet-whole (message ∷ messages) quiet = (quiet.0.whole, quiet-whole messages quiet.1)

-- They change nothing of what was sent.
pub Replays-quiet : (octets : List ℕ) (messages : List (List ℕ)) (table : Table) → AllByRecursion IsQuiet messages → Replays octets table → Replays (octets ++ concat messages) table
Replays-quiet octets messages table quiet h = record {
  messages = h.messages ++ messages;
  whole = ap (λ (l : List ℕ). l ++ concat messages) h.whole ∙ sym (concat-append h.messages messages);
  each = all-append IsMessage h.messages messages h.each (quiet-whole messages quiet);
  gives = λ p. ap (get_at same_prefix p) (after_messages-append h.messages messages [] ∙ quiet-messages messages (after_messages h.messages []) quiet) ∙ h.gives p;
}

-- ---- what is kept

-- no two connections have one number
abbrev pub Distinct : Connections → Type 0
Distinct [] = Unit {0}
Distinct (entry ∷ entries) = (get_at same_number entry.0 entries ≡ None) × Distinct entries

-- octets that were sent replay to the table of a slot, or to nothing where none is connected
abbrev pub Tells : List ℕ → Server → Option ℕ → Type 0
Tells octets server None = Replays octets []
Tells octets server (Some slot) = (table : Table) × (table_of server slot ≡ Some table) × Replays octets table

-- No connection above the last was opened.
pub record Kept (platform : Platform) (outs : List OutRecord) (last : ℕ) : Type 0 where
  pub settled : Settled (domain_of platform.roster) platform.server
  pub rising : IsRising platform.server.pending
  pub distinct : Distinct platform.connections
  pub seats : (m n slot : ℕ) (s t : SessionState) → get_at same_number m platform.connections ≡ Some s → get_at same_number n platform.connections ≡ Some t
      → seat_of s.phase ≡ Some slot → seat_of t.phase ≡ Some slot → m ≡ n
  pub are_open : (n : ℕ) (s : SessionState) → get_at same_number n platform.connections ≡ Some s → is_closed s.phase ≡ false
  pub octets : (n : ℕ) (s : SessionState) → get_at same_number n platform.connections ≡ Some s → AreOctets s.kept
  pub told : (n : ℕ) (s : SessionState) → get_at same_number n platform.connections ≡ Some s → Tells (sent_to n outs) platform.server (slot_in s.phase)
  pub absent : (n : ℕ) → last < n → get_at same_number n platform.connections ≡ None
  pub unsent : (n : ℕ) → last < n → sent_to n outs ≡ []

-- What a session's turn comes to, from a phase on.
pub record IsTurn (as_number : ℕ) (phase : Phase) (turn : Turn) : Type 0 where
  pub good : AllByRecursion (IsTold as_number) turn.answer.does.events
  pub ends : is_closed turn.answer.after.phase ≡ is_some turn.answer.does.closed
  pub seat : is_closed turn.answer.after.phase ≡ false → seat_of turn.answer.after.phase ≡ turn.seat
  pub quiet : turn.answer.does.closed ≡ None → AllByRecursion IsQuiet turn.answer.does.sent
  pub shape : is_closed turn.answer.after.phase ≡ false → Shape (slot_in phase) (slot_in turn.answer.after.phase) turn.answer.does.events
  pub octets : AreOctets turn.answer.after.kept

-- ---- connections

some_none : {X : Type 0} {x : X} → None ≡ Some x → ⊥
some_none e = cc

-- a connection that is connected holds its seat
pub slot-seat : (phase : Phase) (slot : ℕ) → slot_in phase ≡ Some slot → seat_of phase ≡ Some slot
slot-seat (OpenSent since) slot is = absurd (some_none is)
slot-seat (Claiming since s terms) slot is = absurd (some_none is)
slot-seat (OpenConfirm peering) slot is = absurd (some_none is)
slot-seat (Established peering) slot is = is
slot-seat Closed slot is = absurd (some_none is)

absent-set_at : (number n : ℕ) (value : Option SessionState) (es : Connections) → eqb n number ≡ false → get_at same_number n es ≡ None → get_at same_number n (set_at same_number number value es) ≡ None
absent-set_at number n value es other none = get_at-set_at_other same_number number_test number n value es other (number-other n number other) ∙ none

Distinct-set_at : (number : ℕ) (value : Option SessionState) (es : Connections) → Distinct es → Distinct (set_at same_number number value es)
Distinct-set_at number None [] d = tt
Distinct-set_at number (Some s) [] d = (refl, tt)
Distinct-set_at number None (e ∷ es) d =
    elim (cases_Bool (eqb number e.0)) [
      | inl t ↦ rw t (Distinct-set_at number None es d.1)
      | inr f ↦ rw f (absent-set_at number e.0 None es (number-other number e.0 f) d.0, Distinct-set_at number None es d.1)
    ]
Distinct-set_at number (Some s) (e ∷ es) d =
    elim (cases_Bool (eqb number e.0)) [
      | inl t ↦ let number_is : number ≡ e.0 = eqb-true number e.0 t in rw t (ap (λ (k : ℕ). get_at same_number k es) number_is ∙ d.0, d.1)
      | inr f ↦ rw f (absent-set_at number e.0 (Some s) es (number-other number e.0 f) d.0, Distinct-set_at number (Some s) es d.1)
    ]

-- a session that a connection has after a turn: the one of the turn, where it is is_open, or that of another connection
pub after-was : (turn : Turn) (es : Connections) (n : ℕ) (s : SessionState) → get_at same_number n (set_at same_number turn.number (if_open turn.answer.after) es) ≡ Some s
    → ((n ≡ turn.number) × (is_closed turn.answer.after.phase ≡ false) × (s ≡ turn.answer.after)) ⊎ ((eqb n turn.number ≡ false) × (get_at same_number n es ≡ Some s))
after-was turn es n s is =
    elim (cases_Bool (eqb n turn.number)) [
      | inl e ↦
          let n_is : n ≡ turn.number = eqb-true n turn.number e in
          let given : if_open turn.answer.after ≡ Some s =
          sym (get_at-set_at_same same_number number_test turn.number (if_open turn.answer.after) es)
          ∙ ap (λ (k : ℕ). get_at same_number k (set_at same_number turn.number (if_open turn.answer.after) es)) (sym n_is) ∙ is in
          elim (cases_Bool (is_closed turn.answer.after.phase)) [
            | inl c ↦ let no : None ≡ Some s = rw c at given in absurd (some_none no)
            | inr c ↦ let same : Some turn.answer.after ≡ Some s = rw c at given in inl (n_is, c, cc)
          ]
      | inr e ↦ inr (e, sym (get_at-set_at_other same_number number_test turn.number n (if_open turn.answer.after) es e (number-other n turn.number e)) ∙ is)
    ]

-- ---- one turn

closed_none : (o : Option Ending) → false ≡ is_some o → o ≡ None
closed_none None h = refl
closed_none (Some ending) h = absurd cc

module _ (platform : Platform) (outs : List OutRecord) (last : ℕ) (phase : Phase) (turn : Turn) (is_turn : IsTurn platform.roster.as_number phase turn)
    (before : Tells (sent_to turn.number outs) platform.server (slot_in phase))
    (alone : (n slot : ℕ) (s : SessionState) → get_at same_number n platform.connections ≡ Some s → turn.seat ≡ Some slot → seat_of s.phase ≡ Some slot → n ≡ turn.number)
    (begun : turn.number ≤ last) (h : Kept platform outs last) where
  now : Server
  now = after_all (domain_of platform.roster) (turn_events turn) platform.server

  sent : (n : ℕ) → eqb n turn.number ≡ false → sent_to n (outs ++ turn_output turn) ≡ sent_to n outs
  sent n other = sent_to-append n outs (turn_output turn) ∙ rw (sent_to-other_turn n turn (number-other n turn.number other)) (append-nil (sent_to n outs))

  -- the table of a slot that another connection has stays
  table-stays : (n s : ℕ) (t : SessionState) → eqb n turn.number ≡ false → get_at same_number n platform.connections ≡ Some t → slot_in t.phase ≡ Some s
      → table_of now s ≡ table_of platform.server s
  unfolding now after_all
  table-stays n s t other is on = by_seat turn.seat refl where
    by_seat : (seat : Option ℕ) → turn.seat ≡ seat → table_of (after_all (domain_of platform.roster) (seat_events seat turn.answer.does) platform.server) s ≡ table_of platform.server s
    by_seat None seat_is = refl
    by_seat (Some slot) seat_is =
        elim (cases_Bool (eqb s slot)) [
          | inl e ↦
              let s_is : s ≡ slot = eqb-true s slot e in
              let n_is : n ≡ turn.number = alone n slot t is seat_is (slot-seat t.phase s on ∙ ap Some s_is) in
              absurd (both_ways (eqb n turn.number) other (eq-eqb n turn.number n_is))
          | inr e ↦ other-tables (domain_of platform.roster) slot s turn.answer.does platform.server e
        ]

  tells-other : (n : ℕ) (t : SessionState) (found : Option ℕ) → eqb n turn.number ≡ false → get_at same_number n platform.connections ≡ Some t → slot_in t.phase ≡ found
      → Tells (sent_to n outs) platform.server found → Tells (sent_to n (outs ++ turn_output turn)) now found
  tells-other n t None other is on tells = rw (sent n other) tells
  tells-other n t (Some s) other is on tells = (tells.0, table-stays n s t other is on ∙ tells.1, rw (sent n other) tells.2)

  -- what was sent on the connection of the turn is given besides
  told-besides : (table : Table) → turn.answer.does.closed ≡ None → Replays (sent_to turn.number outs) table → Replays (sent_to turn.number (outs ++ turn_output turn)) table
  told-besides table is_open replays =
      rw (sent_to-append turn.number outs (turn_output turn), sent_to-turn turn) (Replays-quiet (sent_to turn.number outs) turn.answer.does.sent table (is_turn.quiet is_open) replays)

  tells-own : is_closed turn.answer.after.phase ≡ false → Tells (sent_to turn.number (outs ++ turn_output turn)) now (slot_in turn.answer.after.phase)
  unfolding now
  tells-own is_open = by_slots (slot_in phase) (slot_in turn.answer.after.phase) refl before (is_turn.shape is_open) where
    none : turn.answer.does.closed ≡ None
    none = closed_none turn.answer.does.closed (sym is_open ∙ is_turn.ends)

    -- the events of a turn that doesn't end
    events-are : (slot : ℕ) → turn.seat ≡ Some slot → turn_events turn ≡ map (server_event slot) turn.answer.does.events
    events-are slot seat_is = rw (seat_is, none) (append-nil (map (server_event slot) turn.answer.does.events))

    seated : (slot : ℕ) → slot_in turn.answer.after.phase ≡ Some slot → turn.seat ≡ Some slot
    seated slot on = sym (is_turn.seat is_open) ∙ slot-seat turn.answer.after.phase slot on

    by_slots : (was is : Option ℕ) → slot_in turn.answer.after.phase ≡ is → Tells (sent_to turn.number outs) platform.server was → Shape was is turn.answer.does.events
        → Tells (sent_to turn.number (outs ++ turn_output turn)) (after_all (domain_of platform.roster) (turn_events turn) platform.server) is
    by_slots None None on tells shape = told-besides [] none tells
    by_slots None (Some slot) on tells shape = (
      [],
      ap (λ (events : _). table_of (after_all (domain_of platform.roster) events platform.server) slot) (events-are slot (seated slot on) ∙ ap (map (server_event slot)) shape.1)
          ∙ up-table (domain_of platform.roster) slot shape.0 platform.server shape.2,
      told-besides [] none tells,
    )
    by_slots (Some slot) None on tells shape = absurd shape
    by_slots (Some old) (Some slot) on tells shape = (
      tells.0,
      ap (λ (events : _). table_of (after_all (domain_of platform.roster) events platform.server) slot) (events-are slot (seated slot on))
          ∙ ap (λ (tables : List (ℕ × Table)). get_at same_number slot tables) (changes-tables (domain_of platform.roster) slot turn.answer.does.events platform.server shape.1)
          ∙ ap (table_of platform.server) (sym shape.0) ∙ tells.1,
      told-besides tells.0 none tells.2,
    )

  pub kept-turn : Kept (after_turn turn platform) (outs ++ turn_output turn) last
  unfolding now
  kept-turn = record {
    settled = settled-all (domain_of platform.roster) (turn_events turn) platform.server (seat-good platform.roster.as_number turn.seat turn.answer.does is_turn.good) h.settled;
    rising = rising-all (domain_of platform.roster) (turn_events turn) platform.server h.rising;
    distinct = Distinct-set_at turn.number (if_open turn.answer.after) platform.connections h.distinct;
    seats = λ m n slot s t is_m is_n seat_m seat_n.
        elim (after-was turn platform.connections m s is_m) [
          | inl own ↦ elim (after-was turn platform.connections n t is_n) [
            | inl own_n ↦ own.0 ∙ sym own_n.0
            | inr other ↦ own.0 ∙ sym (alone n slot t other.1 (mine s slot own.1 own.2 seat_m) seat_n)
          ]
          | inr other_m ↦ elim (after-was turn platform.connections n t is_n) [
            | inl own ↦ alone m slot s other_m.1 (mine t slot own.1 own.2 seat_n) seat_m ∙ sym own.0
            | inr other ↦ h.seats m n slot s t other_m.1 other.1 seat_m seat_n
          ]
        ];
    are_open = λ n s is.
        elim (after-was turn platform.connections n s is) [
          | inl own ↦ ap (λ (t : SessionState). is_closed t.phase) own.2 ∙ own.1
          | inr other ↦ h.are_open n s other.1
        ];
    octets = λ n s is.
        elim (after-was turn platform.connections n s is) [
          | inl own ↦ rw own.2 is_turn.octets
          | inr other ↦ h.octets n s other.1
        ];
    told = λ n s is.
        elim (after-was turn platform.connections n s is) [
          | inl own ↦ rw (own.0, own.2) (tells-own own.1)
          | inr other ↦ tells-other n s (slot_in s.phase) other.0 other.1 refl (h.told n s other.1)
        ];
    absent = λ n above.
        get_at-set_at_other same_number number_test turn.number n (if_open turn.answer.after) platform.connections (above-other n above) (number-other n turn.number (above-other n above))
        ∙ h.absent n above;
    unsent = λ n above. sent n (above-other n above) ∙ h.unsent n above;
  } where
    mine : (s : SessionState) (slot : ℕ) → is_closed turn.answer.after.phase ≡ false → s ≡ turn.answer.after → seat_of s.phase ≡ Some slot → turn.seat ≡ Some slot
    mine s slot is_open same seat = sym (is_turn.seat is_open) ∙ ap (λ (t : SessionState). seat_of t.phase) (sym same) ∙ seat

    above-other : (n : ℕ) → last < n → eqb n turn.number ≡ false
    above-other n above =
        elim (cases_Bool (eqb n turn.number)) [
          | inl e ↦ let n_is : n ≡ turn.number = eqb-true n turn.number e in absurd (omega (arith, n_is, begun, above))
          | inr e ↦ e
        ]

-- ---- records that are no messages

-- Records that send nothing change nothing.
pub kept-silent : (platform : Platform) (outs more : List OutRecord) (last : ℕ) → ((n : ℕ) → sent_to n more ≡ []) → Kept platform outs last → Kept platform (outs ++ more) last
kept-silent platform outs more last silent h = record {
  settled = h.settled;
  rising = h.rising;
  distinct = h.distinct;
  seats = h.seats;
  are_open = h.are_open;
  octets = h.octets;
  told = λ n s is. rw (same n) (h.told n s is);
  absent = h.absent;
  unsent = λ n above. same n ∙ h.unsent n above;
} where
  same : (n : ℕ) → sent_to n (outs ++ more) ≡ sent_to n outs
  same n = sent_to-append n outs more ∙ rw (silent n) (append-nil (sent_to n outs))
