-- The connections that are open stand by rising number.
use Rattle.std.proofs.Common.{◌≡◌, ℕ, ◌<◌, ◌≤◌, Bool, true, false, cond, eqb, List, [], ◌∷◌, ◌++◌, map, Option, Some, None, refl, sym, ap, subst, ◌∙◌, ◌⊎◌, inl, inr, arith}
use Rattle.std.specs.Prelude.{AllPairs}
use Rattle.std.specs.List.{AllByRecursion}
use Rattle.std.proofs.lemmas.Bool.{cases_Bool, eqb-true, eq-eqb}
use Rattle.std.proofs.lemmas.List.{map-append}
use Rattle.std.proofs.lemmas.List.Elements.{All-from_recursion}
use Rattle.std.proofs.lemmas.List.Kept.{AllPairs-cons}
use Rattle.rcp_base.specs.declared.kinds.Kind.{Kind}
use Rattle.rcp_base.specs.declared.kinds.Kind.TheVariants as kind
use Rattle.rcp_base.specs.Feed.{FeedRecord, begins, moment_of}
use Rattle.rcp_base.specs.Maps.{get_at, put_at, set_at, without}
use Rattle.rcp_base.specs.Roster.{RosterOf}
use Rattle.rcp_base.proofs.MapLemmas.{get_at-set_at_other}
use Rattle.rcp_model.specs.LinkState.{same_number}
use Rattle.rcp_model.proofs.AllLemmas.{all-append}
use Rattle.rcp_model.proofs.ServerLemmas.{number_test}
use Rattle.rcp_model.specs.Sessions.{SessionState, Octets, Moment, End, answer, begun, begun_established, seat_of, seat_taken, stepped}
use Rattle.feed_meaning.specs.LinkStream.{LinkStream, Reading, Lost}
use Rattle.feed_meaning.specs.LinkRecords.{stream_act, links_act}
use Rattle.feed_meaning.specs.Platform.{Connections, Platform, fresh}
use Rattle.feed_meaning.specs.SessionTurns.{is_free, Turn, turn, simple_turn, octets_turn, connection_at, ready_turn, slot_named, turns_of, if_open, after_turn, after_turns, noted, record_turns}
use Rattle.feed_meaning.specs.Work.{work_act}
use Rattle.feed_meaning.specs.Runs.{act, platform_after, NumbersRise}
use Rattle.feed_laws.proofs.LineLemmas.{not_equal}
use Rattle.feed_laws.proofs.ConnectionLemmas.{found, connection_found, claim_number}

-- ---- numbers

-- each is below those after it
abbrev pub Rise : List ℕ → Type 0
Rise [] = Unit {0}
Rise (k ∷ ks) = AllByRecursion (λ j. k < j) ks × Rise ks

abbrev UpTo : ℕ → List ℕ → Type 0
UpTo last ks = AllByRecursion (λ j. j ≤ last) ks

up-later : (last later : ℕ) (ks : List ℕ) → last ≤ later → UpTo last ks → UpTo later ks
up-later last later [] more up = tt
up-later last later (k ∷ ks) more up = (omega (arith, up.0, more), up-later last later ks more up.1)

below-last : (k n last : ℕ) (ks : List ℕ) → k ≤ last → last < n → AllByRecursion (λ j. k < j) ks → AllByRecursion (λ j. k < j) (ks ++ n ∷ [])
below-last k n last [] le above each = (omega (arith, le, above), tt)
below-last k n last (j ∷ ks) le above each = (each.0, below-last k n last ks le above each.1)

rise-append : (ks : List ℕ) (n last : ℕ) → Rise ks → UpTo last ks → last < n → Rise (ks ++ n ∷ [])
rise-append [] n last rise up above = (tt, tt)
rise-append (k ∷ ks) n last rise up above = (below-last k n last ks up.0 above rise.0, rise-append ks n last rise.1 up.1 above)

-- ---- the numbers of connections

some_none : {X : Type 0} {x : X} → Some x ≡ None → ⊥
some_none e = cc

abbrev pub keys : Connections → List ℕ
keys es = map (λ (e : ℕ × SessionState). e.0) es

keys-put : (n : ℕ) (v s : SessionState) (es : Connections) → get_at same_number n es ≡ Some s → keys (put_at same_number n v es) ≡ keys es
keys-put n v s [] is = absurd cc
keys-put n v s (e ∷ es) is =
    elim (cases_Bool (eqb n e.0)) [
      | inl t ↦ rw t (ap (λ (k : ℕ). k ∷ keys es) (eqb-true n e.0 t))
      | inr f ↦ rw f (ap (λ (ks : List ℕ). e.0 ∷ ks) (keys-put n v s es (rw f at is)))
    ]

put-new : (n : ℕ) (v : SessionState) (es : Connections) → get_at same_number n es ≡ None → put_at same_number n v es ≡ es ++ (n, v) ∷ []
put-new n v [] is = refl
put-new n v (e ∷ es) is =
    elim (cases_Bool (eqb n e.0)) [
      | inl t ↦ absurd (some_none (rw t at is))
      | inr f ↦ rw f (ap (λ (l : Connections). e ∷ l) (put-new n v es (rw f at is)))
    ]

each-left : (P : ℕ → Type 0) (test : ℕ → Bool) (es : Connections) → AllByRecursion P (keys es) → AllByRecursion P (keys (without test es))
each-left P test [] each = tt
each-left P test (e ∷ es) each =
    elim (cases_Bool (test e.0)) [
      | inl t ↦ rw t (each-left P test es each.1)
      | inr f ↦ rw f (each.0, each-left P test es each.1)
    ]

rise-left : (test : ℕ → Bool) (es : Connections) → Rise (keys es) → Rise (keys (without test es))
rise-left test [] rise = tt
rise-left test (e ∷ es) rise =
    elim (cases_Bool (test e.0)) [
      | inl t ↦ rw t (rise-left test es rise.1)
      | inr f ↦ rw f (each-left (λ j. e.0 < j) test es rise.0, rise-left test es rise.1)
    ]

-- the connections rise, and none has a number above the last
record Stand (last : ℕ) (es : Connections) : Type 0 where
  rise : Rise (keys es)
  up : UpTo last (keys es)

-- a connection that is there, or one with a number above the last
abbrev IsAt : ℕ → ℕ → Connections → Type 0
IsAt last n es = ((s : SessionState) × (get_at same_number n es ≡ Some s)) ⊎ (last < n)

stand-later : (last later : ℕ) (es : Connections) → last ≤ later → Stand last es → Stand later es
stand-later last later es more h = record { rise = h.rise; up = up-later last later (keys es) more h.up }

stand-set : (last later n : ℕ) (value : Option SessionState) (es : Connections) → last ≤ later → n ≤ later → IsAt last n es → Stand last es → Stand later (set_at same_number n value es)
stand-set last later n None es more within at h = record {
  rise = rise-left (same_number n) es h.rise;
  up = each-left (λ j. j ≤ later) (same_number n) es (up-later last later (keys es) more h.up);
}
stand-set last later n (Some v) es more within at h = by (get_at same_number n es) refl where
  by : (o : Option SessionState) → get_at same_number n es ≡ o → Stand later (put_at same_number n v es)
  by (Some s) is =
      let same = keys-put n v s es is in
      record { rise = subst Rise (sym same) h.rise; up = subst (UpTo later) (sym same) (up-later last later (keys es) more h.up) }
  by None is = elim at [
    | inl (s, some) ↦ absurd (some_none (sym some ∙ is))
    | inr above ↦
        let added : keys (put_at same_number n v es) ≡ keys es ++ n ∷ [] = ap keys (put-new n v es is) ∙ map-append (λ (e : ℕ × SessionState). e.0) es ((n, v) ∷ []) in
        record {
          rise = subst Rise (sym added) (rise-append (keys es) n last h.rise h.up above);
          up = subst (UpTo later) (sym added) (all-append (λ j. j ≤ later) (keys es) (n ∷ []) (up-later last later (keys es) more h.up) (within, tt));
        }
  ]

-- ---- turns

module _ (last later : ℕ) (more : last ≤ later) where
  stand-turn : (platform : Platform) (one : Turn) → one.number ≤ later → IsAt last one.number platform.connections → Stand last platform.connections → Stand later (after_turn one platform).connections
  stand-turn platform one within at h = stand-set last later one.number (if_open one.answer.after) platform.connections more within at h

-- a number that is there isn't above the last
there-within : (last n : ℕ) (s : SessionState) (es : Connections) → UpTo last (keys es) → get_at same_number n es ≡ Some s → n ≤ last
there-within last n s [] up is = absurd cc
there-within last n s (e ∷ es) up is =
    elim (cases_Bool (eqb n e.0)) [
      | inl t ↦ let same : n ≡ e.0 = eqb-true n e.0 t in omega (arith, same, up.0)
      | inr f ↦ there-within last n s es up.1 (rw f at is)
    ]

module _ (last : ℕ) where
  stand-there : (platform : Platform) (one : Turn) (s : SessionState) → get_at same_number one.number platform.connections ≡ Some s → Stand last platform.connections → Stand last (after_turn one platform).connections
  stand-there platform one s is h = stand-turn last last (omega arith) platform one (there-within last one.number s platform.connections h.up is) (inl (s, is)) h

  -- the connection of a number, where there is one
  stand-found : (platform : Platform) (n : ℕ) (f : ℕ × SessionState → Turn) (o : Option SessionState) → ((s : SessionState) → (f (n, s)).number ≡ n) → get_at same_number n platform.connections ≡ o
      → Stand last platform.connections → Stand last (after_turns (map f (found n o)) platform).connections
  stand-found platform n f None number is h = h
  stand-found platform n f (Some s) number is h = stand-there platform (f (n, s)) s (ap (λ (k : ℕ). get_at same_number k platform.connections) (number s) ∙ is) h

  stand-one : (platform : Platform) (n : ℕ) (f : ℕ × SessionState → Turn) → ((s : SessionState) → (f (n, s)).number ≡ n)
      → Stand last platform.connections → Stand last (after_turns (map f (connection_at platform.connections n)) platform).connections
  stand-one platform n f number h =
      let o = get_at same_number n platform.connections in
      subst (λ (es : Connections). Stand last (after_turns (map f es) platform).connections) (sym (connection_found platform.connections n o refl)) (stand-found platform n f o number refl h)

  -- each of these is there
  abbrev AreThere : Connections → Connections → Type 0
  AreThere es connections = AllByRecursion (λ (e : ℕ × SessionState). (s : SessionState) × (get_at same_number e.0 connections ≡ Some s)) es

  there-besides : (n : ℕ) (value : Option SessionState) (es connections : Connections) → AllByRecursion (λ j. n < j) (keys es) → AreThere es connections → AreThere es (set_at same_number n value connections)
  there-besides n value [] connections above there = tt
  there-besides n value (e ∷ es) connections above there =
      let one : eqb e.0 n ≡ false = not_equal e.0 n (λ same. omega (arith, same, above.0)) in
      let other : eqb n e.0 ≡ false = not_equal n e.0 (λ same. omega (arith, same, above.0)) in (
        (there.0.0, get_at-set_at_other same_number number_test n e.0 value connections one other ∙ there.0.1),
        there-besides n value es connections above.1 there.1,
      )

  stand-times : (es : Connections) (platform : Platform) (now : ℕ) → Rise (keys es) → AreThere es platform.connections → Stand last platform.connections
      → Stand last (after_turns (map (simple_turn platform.roster (Moment now)) es) platform).connections
  stand-times [] platform now rise there h = h
  stand-times (e ∷ es) platform now rise there h =
      let first = simple_turn platform.roster (Moment now) e in
      stand-times es (after_turn first platform) now rise.1 (there-besides e.0 (if_open first.answer.after) es platform.connections rise.0 there.1) (stand-there platform first there.0.0 there.0.1 h)

  there-more : (e : ℕ × SessionState) (es others : Connections) → AllByRecursion (λ j. e.0 < j) (keys others) → AreThere others es → AreThere others (e ∷ es)
  there-more e es [] above there = tt
  there-more e es (o ∷ others) above there =
      let other : eqb o.0 e.0 ≡ false = not_equal o.0 e.0 (λ same. omega (arith, same, above.0)) in
      ((there.0.0, rw other there.0.1), there-more e es others above.1 there.1)

  there-itself : (es : Connections) → Rise (keys es) → AreThere es es
  there-itself [] rise = tt
  there-itself (e ∷ es) rise = ((e.1, rw (eq-eqb e.0 e.0 refl) refl), there-more e es es rise.0 (there-itself es rise.1))

-- a connection that begins
stand-new : (last number : ℕ) (platform : Platform) (one : Turn) → last < number → one.number ≡ number → Stand last platform.connections → Stand number (after_turn one platform).connections
stand-new last number platform one above is h =
    stand-turn last number (omega (arith, above)) platform one (omega (arith, is)) (inr (omega (arith, is, above))) h

stand-ready : (last number : ℕ) (platform : Platform) (slot : Option ℕ) → last < number → Stand last platform.connections → Stand number (after_turns (ready_turn platform number slot) platform).connections
stand-ready last number platform None above h = stand-later last number platform.connections (omega (arith, above)) h
stand-ready last number platform (Some slot) above h =
    elim (cases_Bool (is_free platform.connections slot)) [
      | inl free ↦ rw free (stand-new last number platform (turn number (Some slot) (begun_established slot)) above refl h)
      | inr busy ↦ rw busy (stand-new last number platform (turn number None (stepped 0 [] seat_taken)) above refl h)
    ]

stand-turns : (last number : ℕ) (body : List ℕ) (platform : Platform) (k : Kind) → (begins k ≡ true → last < number) → Stand last platform.connections
    → Stand (cond (begins k) number last) (after_turns (turns_of platform number body k) (noted (record { kind = k; source = number; body = body }) platform)).connections
stand-turns last number body platform kind.Ready rises h = stand-ready last number platform (slot_named platform.roster body) (rises refl) h
stand-turns last number body platform kind.Raw rises h = stand-new last number platform (turn number None (begun platform.roster platform.moment)) (rises refl) refl h
stand-turns last number body platform kind.Octets rises h =
    stand-one last platform number (octets_turn platform body) (λ s. claim_number platform number (seat_of s.phase) (answer platform.roster (Octets body platform.moment) s) (answer platform.roster (Octets body platform.moment) s).does.claim) h
stand-turns last number body platform kind.Closed rises h = stand-one last platform number (simple_turn platform.roster End) (λ s. refl) h
stand-turns last number body platform kind.Time rises h =
    stand-times last platform.connections (record platform { moment = moment_of body }) (moment_of body) h.rise (there-itself last platform.connections h.rise) h
stand-turns last number body platform kind.Roster rises h = h
stand-turns last number body platform kind.Links rises h = h
stand-turns last number body platform kind.Slice rises h = h
stand-turns last number body platform kind.Drain rises h = h
stand-turns last number body platform kind.Finish rises h = h

-- ---- records

stream-connections : (stream : LinkStream) (octets : List ℕ) (platform : Platform) → (stream_act stream octets platform).after.connections ≡ platform.connections
stream-connections (Reading held place) octets platform = refl
stream-connections Lost octets platform = refl

links-connections : (platform : Platform) (body : List ℕ) (k : Kind) → (links_act platform body k).after.connections ≡ platform.connections
links-connections platform body kind.Links = stream-connections platform.stream body platform
links-connections platform body k = refl

work-connections : (platform : Platform) (body : List ℕ) (k : Kind) → (work_act platform body k).after.connections ≡ platform.connections
work-connections platform body kind.Slice = refl
work-connections platform body kind.Drain = refl
work-connections platform body k = refl

stand-act : (last : ℕ) (platform : Platform) (item : FeedRecord) → (begins item.kind ≡ true → last < item.source) → Stand last platform.connections
    → Stand (cond (begins item.kind) item.source last) (act platform item).after.connections
unfolding act
stand-act last platform item rises h =
    let turned = after_turns (record_turns platform item) (noted item platform) in
    let linked = links_act turned item.body item.kind in
    subst (Stand (cond (begins item.kind) item.source last)) (sym (work-connections linked.after item.body item.kind ∙ links-connections turned item.body item.kind))
    (stand-turns last item.source item.body platform item.kind rises h)

stand-run : (last : ℕ) (platform : Platform) (items : List FeedRecord) → NumbersRise last items → Stand last platform.connections → Rise (keys (platform_after platform items).connections)
unfolding platform_after
stand-run last platform [] rises h = h.rise
stand-run last platform (item ∷ items) rises h = stand-run (cond (begins item.kind) item.source last) (act platform item).after items rises.1 (stand-act last platform item rises.0 h)

each-above : (n : ℕ) (es : Connections) → AllByRecursion (λ j. n < j) (keys es) → AllByRecursion (λ (e : ℕ × SessionState). n < e.0) es
each-above n [] each = tt
each-above n (e ∷ es) each = (each.0, each-above n es each.1)

pairs-rise : (es : Connections) → Rise (keys es) → AllPairs (λ (a b : ℕ × SessionState). a.0 < b.0) es
pairs-rise [] rise = λ i j d below within. absurd (omega (arith, below, within))
pairs-rise (e ∷ es) rise =
    AllPairs-cons (λ (a b : ℕ × SessionState). a.0 < b.0) e es (All-from_recursion (λ (o : ℕ × SessionState). e.0 < o.0) es (each-above e.0 es rise.0)) (pairs-rise es rise.1)

pub run-rises : (roster : RosterOf) (items : List FeedRecord) → NumbersRise 0 items → Rise (keys (platform_after (fresh roster) items).connections)
run-rises roster items rises = stand-run 0 (fresh roster) items rises (record { rise = tt; up = tt })

pub connections-rise : (roster : RosterOf) (items : List FeedRecord) → NumbersRise 0 items → AllPairs (λ (a b : ℕ × SessionState). a.0 < b.0) (platform_after (fresh roster) items).connections
connections-rise roster items rises = pairs-rise (platform_after (fresh roster) items).connections (run-rises roster items rises)
