-- Any cut of the octets that come on a connection at one time.
use Rattle.std.proofs.Common.{◌≡◌, ℕ, Bool, true, false, cond, eqb, List, [], ◌∷◌, ◌++◌, map, Option, Some, None, refl, sym, ap, subst, ◌∙◌, inl, inr, append_assoc, append-nil}
use Rattle.std.specs.List.{concat, flat_map}
use Rattle.std.proofs.lemmas.Bool.{cases_Bool, eq-eqb}
use Rattle.std.proofs.lemmas.List.{map-append}
use Rattle.rcp_base.specs.Feed.{OutRecord}
use Rattle.rcp_base.specs.Maps.{get_at, put_at, set_at, without}
use Rattle.rcp_model.specs.LinkState.{same_number}
use Rattle.rcp_model.specs.RouteServer.{Server, ServerEvent, after_all}
use Rattle.rcp_model.specs.Sessions.{is_closed, Ending, Doing, SessionState, Answer, later_of, answer, Octets, End}
use Rattle.feed_meaning.specs.Platform.{Connections, Platform, Acted, domain_of, nothing_done}
use Rattle.feed_meaning.specs.OutRecords.{messages_to, end_record}
use Rattle.feed_meaning.specs.SessionTurns.{Turn, simple_turn, claim_turn, octets_turn, connection_at, turn_events, turn_output, if_open, after_turn, after_turns}
use Rattle.feed_meaning.specs.Runs.{act}
use Rattle.rcp_base.proofs.MapLemmas.{get_at-set_at_same}
use Rattle.rcp_model.proofs.ServerLemmas.{number_test}
use Rattle.rcp_model.proofs.SessionLemmas.{later_of-none}
use Rattle.feed_meaning.proofs.EventLemmas.{after_all-append}
use Rattle.feed_laws.specs.Cuts.{octets_record, end_record as end_of_connection, run_of}
use Rattle.feed_laws.proofs.RunLemmas.{joined, run_cons, run_nil}
use Rattle.feed_laws.proofs.TurnLemmas.{Joins, continues}

-- ---- maps

-- what is put at a key first is of no account for what is set there next
put_put : {V : Type 0} (n : ℕ) (first second : V) (es : List (ℕ × V)) → put_at same_number n second (put_at same_number n first es) ≡ put_at same_number n second es
put_put n first second [] = rw (eq-eqb n n refl) refl
put_put n first second (e ∷ es) =
    elim (cases_Bool (eqb n e.0)) [
      | inl t ↦ rw (t, eq-eqb n n refl) refl
      | inr f ↦ rw (f, f) (ap (λ (l : List _). e ∷ l) (put_put n first second es))
    ]

without_put : {V : Type 0} (n : ℕ) (first : V) (es : List (ℕ × V)) → without (same_number n) (put_at same_number n first es) ≡ without (same_number n) es
without_put n first [] = rw (eq-eqb n n refl) refl
without_put n first (e ∷ es) =
    elim (cases_Bool (eqb n e.0)) [
      | inl t ↦ rw (t, eq-eqb n n refl) refl
      | inr f ↦ rw (f, f) (ap (λ (l : List _). e ∷ l) (without_put n first es))
    ]

set_put : {V : Type 0} (n : ℕ) (first : V) (second : Option V) (es : List (ℕ × V)) → set_at same_number n second (put_at same_number n first es) ≡ set_at same_number n second es
set_put n first None es = without_put n first es
set_put n first (Some second) es = put_put n first second es

-- ---- one record

pub claim_number : (platform : Platform) (number : ℕ) (seat : Option ℕ) (first : Answer) (claim : Option ℕ) → (claim_turn platform number seat first claim).number ≡ number
claim_number platform number seat first None = refl
claim_number platform number seat first (Some slot) = refl

-- the connection of a number, as it is found
abbrev pub found : ℕ → Option SessionState → Connections
found n None = []
found n (Some s) = (n, s) ∷ []

pub connection_found : (es : Connections) (n : ℕ) (o : Option SessionState) → get_at same_number n es ≡ o → connection_at es n ≡ found n o
connection_found es n o is = subst (λ (o : Option SessionState). connection_at es n ≡ found n o) is (at (get_at same_number n es)) where
  at : (o : Option SessionState) → elim o [ None ↦ [] | Some s ↦ (n, s) ∷ [] ] ≡ found n o
  at None = refl
  at (Some s) = refl

module _ (platform : Platform) (number : ℕ) (body : List ℕ) where
  abbrev by_turns : List Turn → Acted
  by_turns turns = record { after = after_turns turns platform; out = flat_map turn_output turns }

  by_act : act platform (octets_record number body) ≡ by_turns (map (octets_turn platform body) (connection_at platform.connections number))
  unfolding act
  by_act =
      let out = flat_map turn_output (map (octets_turn platform body) (connection_at platform.connections number)) in
      let same : (out ++ []) ++ [] ≡ out = append-nil (out ++ []) ∙ append-nil out in
      ap (λ (outs : List OutRecord). record { after = after_turns (map (octets_turn platform body) (connection_at platform.connections number)) platform; out = outs }) same

  by_found : (o : Option SessionState) → get_at same_number number platform.connections ≡ o → act platform (octets_record number body) ≡ by_turns (map (octets_turn platform body) (found number o))
  by_found o is = by_act ∙ ap (λ (es : Connections). by_turns (map (octets_turn platform body) es)) (connection_found platform.connections number o is)

  pub no_connection : get_at same_number number platform.connections ≡ None → act platform (octets_record number body) ≡ nothing_done platform
  no_connection none = by_found None none

  -- the end of a connection that isn't there
  pub no_end : get_at same_number number platform.connections ≡ None → act platform (end_of_connection number body) ≡ nothing_done platform
  unfolding act
  no_end none =
      ap (λ (es : Connections). record { after = after_turns (map (simple_turn platform.roster End) es) platform; out = (flat_map turn_output (map (simple_turn platform.roster End) es) ++ []) ++ [] })
      (connection_found platform.connections number None none)

  abbrev by_turn : Turn → Acted
  by_turn one = record { after = after_turn one platform; out = turn_output one }

  a_connection : (session : SessionState) → get_at same_number number platform.connections ≡ Some session
      → act platform (octets_record number body) ≡ by_turn (octets_turn platform body (number, session))
  a_connection session some =
      let one = octets_turn platform body (number, session) in
      by_found (Some session) some
      ∙ ap (λ (outs : List OutRecord). record { after = after_turn one platform; out = outs }) (append-nil (turn_output one))

-- ---- two records

-- what a turn comes to that two others make
joins_server : (platform : Platform) (first second whole : Turn) → Joins first second whole
    → after_all (domain_of platform.roster) (turn_events whole) platform.server
    ≡ after_all (domain_of platform.roster) (turn_events second) (after_all (domain_of platform.roster) (turn_events first) platform.server)
joins_server platform first second whole j =
    ap (λ (events : List ServerEvent). after_all (domain_of platform.roster) events platform.server) j.events
    ∙ after_all-append (domain_of platform.roster) (turn_events first) (turn_events second) platform.server

joins_connections : (es : Connections) (first second whole : Turn) → Joins first second whole → is_closed first.answer.after.phase ≡ false
    → set_at same_number whole.number (if_open whole.answer.after) es
    ≡ set_at same_number second.number (if_open second.answer.after) (set_at same_number first.number (if_open first.answer.after) es)
joins_connections es first second whole j going =
    let same : whole.number ≡ second.number = j.whole_number ∙ sym j.second_number in
    ap (λ (n : ℕ). set_at same_number n (if_open whole.answer.after) es) same
    ∙ ap (λ (s : SessionState). set_at same_number second.number (if_open s) es) j.after
    ∙ sym (set_put second.number first.answer.after (if_open second.answer.after) es)
    ∙ ap (λ (n : ℕ). set_at same_number second.number (if_open second.answer.after) (put_at same_number n first.answer.after es)) j.second_number
    ∙ ap (λ (closed : Bool). set_at same_number second.number (if_open second.answer.after) (set_at same_number first.number (cond closed None (Some first.answer.after)) es)) (sym going)

joins_output : (first second whole : Turn) → Joins first second whole → turn_output whole ≡ turn_output first ++ turn_output second
joins_output first second whole j =
    let n = first.number in
    let a = first.answer.does in
    let b = second.answer.does in
    let ended : later_of a.closed b.closed ≡ b.closed = ap (λ (end : Option Ending). later_of end b.closed) j.going ∙ later_of-none b.closed in
    let plain : end_record n a.closed ≡ [] = ap (end_record n) j.going in
    ap (λ (does : Doing). messages_to whole.number does.sent ++ end_record whole.number does.closed) j.does
    ∙ ap (λ (m : ℕ). messages_to m (a.sent ++ b.sent) ++ end_record m (later_of a.closed b.closed)) j.whole_number
    ∙ ap (λ (outs : List OutRecord). outs ++ end_record n (later_of a.closed b.closed)) (map-append _ a.sent b.sent)
    ∙ ap (λ (end : Option Ending). (messages_to n a.sent ++ messages_to n b.sent) ++ end_record n end) ended
    ∙ append_assoc (messages_to n a.sent) (messages_to n b.sent) (end_record n b.closed)
    ∙ ap (λ (outs : List OutRecord). outs ++ (messages_to n b.sent ++ end_record n b.closed))
    (sym (append-nil (messages_to n a.sent)) ∙ ap (λ (outs : List OutRecord). messages_to n a.sent ++ outs) (sym plain))
    ∙ ap (λ (m : ℕ). turn_output first ++ (messages_to m b.sent ++ end_record m b.closed)) (sym j.second_number)

joins_turn : (platform : Platform) (first second whole : Turn) → Joins first second whole → is_closed first.answer.after.phase ≡ false
    → by_turn platform 0 [] whole ≡ joined (by_turn platform 0 [] first) (by_turn (after_turn first platform) 0 [] second)
joins_turn platform first second whole j going =
    ap (λ (server : Server). record { after = record platform { connections = set_at same_number whole.number (if_open whole.answer.after) platform.connections; server = server }; out = turn_output whole })
    (joins_server platform first second whole j)
    ∙ ap (λ (es : Connections). record { after = record platform { connections = es; server = (after_turn second (after_turn first platform)).server }; out = turn_output whole })
    (joins_connections platform.connections first second whole j going)
    ∙ ap (λ (outs : List OutRecord). record { after = after_turn second (after_turn first platform); out = outs }) (joins_output first second whole j)

module _ (platform : Platform) (number : ℕ) (piece more : List ℕ) where
  abbrev then_more : Acted → Acted
  then_more first = joined first (act first.after (octets_record number more))

  two_unheard : get_at same_number number platform.connections ≡ None
      → act platform (octets_record number (piece ++ more)) ≡ then_more (act platform (octets_record number piece))
  two_unheard none =
      no_connection platform number (piece ++ more) none
      ∙ sym (ap then_more (no_connection platform number piece none) ∙ ap (joined (nothing_done platform)) (no_connection platform number more none))

  module _ (session : SessionState) (some : get_at same_number number platform.connections ≡ Some session) where
    abbrev first : Turn
    first = octets_turn platform piece (number, session)

    abbrev whole : Turn
    whole = octets_turn platform (piece ++ more) (number, session)

    first_number : first.number ≡ number
    first_number = claim_number platform number _ _ (answer platform.roster (Octets piece platform.moment) session).does.claim

    -- the connection after the first record
    left : get_at same_number number (after_turn first platform).connections ≡ if_open first.answer.after
    left =
        ap (λ (n : ℕ). get_at same_number number (set_at same_number n (if_open first.answer.after) platform.connections)) first_number
        ∙ get_at-set_at_same same_number number_test number (if_open first.answer.after) platform.connections

    two_ended : is_closed first.answer.after.phase ≡ true → whole ≡ first → by_turn platform number piece whole ≡ then_more (by_turn platform number piece first)
    two_ended shut same =
        let gone : get_at same_number number (after_turn first platform).connections ≡ None = left ∙ ap (λ (closed : Bool). cond closed None (Some first.answer.after)) shut in
        ap (by_turn platform number piece) same
        ∙ sym (ap (joined (by_turn platform number piece first)) (no_connection (after_turn first platform) number more gone)
        ∙ ap (λ (outs : List OutRecord). record { after = after_turn first platform; out = outs }) (append-nil (turn_output first)))

    two_going : is_closed first.answer.after.phase ≡ false → Joins first (octets_turn (after_turn first platform) more (number, first.answer.after)) whole
        → by_turn platform number piece whole ≡ then_more (by_turn platform number piece first)
    two_going going j =
        let there : get_at same_number number (after_turn first platform).connections ≡ Some first.answer.after = left ∙ ap (λ (closed : Bool). cond closed None (Some first.answer.after)) going in
        joins_turn platform first (octets_turn (after_turn first platform) more (number, first.answer.after)) whole j going
        ∙ sym (ap (joined (by_turn platform number piece first)) (a_connection (after_turn first platform) number more first.answer.after there))

    two_heard : act platform (octets_record number (piece ++ more)) ≡ then_more (act platform (octets_record number piece))
    two_heard =
        a_connection platform number (piece ++ more) session some
        ∙ elim (continues platform number session piece more some) [
          | inl (shut, same) ↦ two_ended shut same
          | inr (going, j) ↦ two_going going j
        ]
        ∙ sym (ap then_more (a_connection platform number piece session some))

  two_by : (o : Option SessionState) → get_at same_number number platform.connections ≡ o
      → act platform (octets_record number (piece ++ more)) ≡ then_more (act platform (octets_record number piece))
  two_by None none = two_unheard none
  two_by (Some session) some = two_heard session some

  pub two_records : act platform (octets_record number (piece ++ more)) ≡ joined (act platform (octets_record number piece)) (act (act platform (octets_record number piece)).after (octets_record number more))
  two_records = two_by (get_at same_number number platform.connections) refl

-- ---- any number of records

pub any_records : (platform : Platform) (number : ℕ) (piece : List ℕ) (pieces : List (List ℕ))
    → run_of platform (map (octets_record number) (piece ∷ pieces)) ≡ act platform (octets_record number (concat (piece ∷ pieces)))
any_records platform number piece [] =
    run_cons platform (octets_record number piece) []
    ∙ ap (joined (act platform (octets_record number piece))) (run_nil (act platform (octets_record number piece)).after)
    ∙ ap (λ (outs : List OutRecord). record { after = (act platform (octets_record number piece)).after; out = outs }) (append-nil (act platform (octets_record number piece)).out)
    ∙ ap (λ (body : List ℕ). act platform (octets_record number body)) (sym (append-nil piece))
any_records platform number piece (next ∷ pieces) =
    let first = act platform (octets_record number piece) in
    run_cons platform (octets_record number piece) (map (octets_record number) (next ∷ pieces))
    ∙ ap (joined first) (any_records first.after number next pieces)
    ∙ sym (two_records platform number piece (concat (next ∷ pieces)))
