-- The numbers of the connections: none is above the greatest that was given.
use Rattle.std.proofs.Common.{◌≡◌, ℕ, ◌<◌, ◌≤◌, true, List, [], ◌∷◌, map, Option, Some, None, refl, sym, ◌∙◌, inl, inr, arith, if◌then◌else◌}
use Rattle.std.specs.List.{AllByRecursion}
use Rattle.std.proofs.lemmas.Bool.{cases_Bool, eqb-true, true≢false}
use Rattle.rcp_base.specs.declared.kinds.Kind.{Kind}
use Rattle.rcp_base.specs.declared.kinds.Kind.TheVariants as kind
use Rattle.rcp_base.specs.Feed.{FeedRecord, begins, is_time, moment_of}
use Rattle.rcp_base.specs.Maps.{put_at, set_at, without}
use Rattle.rcp_model.specs.LinkState.{same_number}
use Rattle.rcp_model.specs.Sessions.{SessionState, Answer, Moment, End}
use Rattle.feed_meaning.specs.LinkStream.{LinkStream, Reading, Lost}
use Rattle.feed_meaning.specs.Platform.{Platform, Connections}
use Rattle.feed_meaning.specs.SessionTurns.{Turn, is_free, claim_turn, octets_turn, simple_turn, connection_at, ready_turn, slot_named, turns_of, if_open, after_turn, after_turns, record_turns, noted, turns_act}
use Rattle.feed_meaning.specs.LinkRecords.{stream_act, links_act}
use Rattle.feed_meaning.specs.Work.{work_act}
use Rattle.feed_meaning.specs.Runs.{act}

abbrev AtMost : ℕ → Connections → Type 0
AtMost last connections = AllByRecursion (λ entry. entry.0 ≤ last) connections

abbrev TurnsAtMost : ℕ → List Turn → Type 0
TurnsAtMost last turns = AllByRecursion (λ turn. turn.number ≤ last) turns

-- ---- maps

put-most : (last number : ℕ) (session : SessionState) (connections : Connections) → number ≤ last → AtMost last connections → AtMost last (put_at same_number number session connections)
put-most last number session [] h all = (h, tt)
put-most last number session (entry ∷ entries) h all =
    elim (cases_Bool (same_number number entry.0)) [
      | inl e ↦ rw e (h, all.1)
      | inr e ↦ rw e (all.0, put-most last number session entries h all.1)
    ]

without-most : (last number : ℕ) (connections : Connections) → AtMost last connections → AtMost last (without (same_number number) connections)
without-most last number [] all = tt
without-most last number (entry ∷ entries) all =
    elim (cases_Bool (same_number number entry.0)) [
      | inl e ↦ rw e (without-most last number entries all.1)
      | inr e ↦ rw e (all.0, without-most last number entries all.1)
    ]

set-most : (last number : ℕ) (session : Option SessionState) (connections : Connections) → number ≤ last → AtMost last connections → AtMost last (set_at same_number number session connections)
set-most last number None connections h all = without-most last number connections all
set-most last number (Some session) connections h all = put-most last number session connections h all

-- ---- turns

after-most : (last : ℕ) (turns : List Turn) (platform : Platform) → TurnsAtMost last turns → AtMost last platform.connections → AtMost last (after_turns turns platform).connections
after-most last [] platform h all = all
after-most last (turn ∷ turns) platform h all =
    after-most last turns (after_turn turn platform) h.1 (set-most last turn.number (if_open turn.answer.after) platform.connections h.0 all)

claim-number : (platform : Platform) (number : ℕ) (seat : Option ℕ) (first : Answer) (claim : Option ℕ) → (claim_turn platform number seat first claim).number ≡ number
claim-number platform number seat first None = refl
claim-number platform number seat first (Some slot) = refl

octets-number : (platform : Platform) (body : List ℕ) (entry : ℕ × SessionState) → (octets_turn platform body entry).number ≡ entry.0
octets-number platform body entry = claim-number platform entry.0 _ _ _

map-most : (last : ℕ) (f : ℕ × SessionState → Turn) (connections : Connections) → ((entry : ℕ × SessionState) → (f entry).number ≡ entry.0) → AtMost last connections → TurnsAtMost last (map f connections)
map-most last f [] same all = tt
map-most last f (entry ∷ entries) same all = (omega (arith, same entry, all.0), map-most last f entries same all.1)

at-most : (last number : ℕ) (connections : Connections) → AtMost last connections → AtMost last (connection_at connections number)
at-most last number [] all = tt
at-most last number (entry ∷ entries) all =
    elim (cases_Bool (same_number number entry.0)) [
      | inl e ↦ let same : number ≡ entry.0 = eqb-true number entry.0 e in let within : number ≤ last = omega (arith, same, all.0) in rw (connection_at, e) (within, tt)
      | inr e ↦ rw (connection_at, e) (at-most last number entries all.1)
    ]

ready-most : (last number : ℕ) (platform : Platform) (slot : Option ℕ) → number ≤ last → TurnsAtMost last (ready_turn platform number slot)
ready-most last number platform None h = tt
ready-most last number platform (Some slot) h =
    elim (cases_Bool (is_free platform.connections slot)) [
      | inl e ↦ rw e (h, tt)
      | inr e ↦ rw e (h, tt)
    ]

turns-most : (last number : ℕ) (platform : Platform) (body : List ℕ) (k : Kind) → (begins k ≡ true → number ≤ last) → AtMost last platform.connections → TurnsAtMost last (turns_of platform number body k)
turns-most last number platform body kind.Roster h all = tt
turns-most last number platform body kind.Ready h all = ready-most last number platform (slot_named platform.roster body) (h refl)
turns-most last number platform body kind.Raw h all = (h refl, tt)
turns-most last number platform body kind.Octets h all = map-most last (octets_turn platform body) (connection_at platform.connections number) (octets-number platform body) (at-most last number platform.connections all)
turns-most last number platform body kind.Closed h all = map-most last (simple_turn platform.roster End) (connection_at platform.connections number) (λ entry. refl) (at-most last number platform.connections all)
turns-most last number platform body kind.Links h all = tt
turns-most last number platform body kind.Time h all = map-most last (simple_turn platform.roster (Moment (moment_of body))) platform.connections (λ entry. refl) all
turns-most last number platform body kind.Slice h all = tt
turns-most last number platform body kind.Drain h all = tt
turns-most last number platform body kind.Finish h all = tt

-- ---- a record

links-most : (last : ℕ) (platform : Platform) (body : List ℕ) (k : Kind) → AtMost last platform.connections → AtMost last (links_act platform body k).after.connections
links-most last platform body kind.Links all = stream-most platform.stream where
  stream-most : (stream : LinkStream) → AtMost last (stream_act stream body platform).after.connections
  stream-most (Reading held place) = all
  stream-most Lost = all
links-most last platform body kind.Time all = all
links-most last platform body kind.Roster all = all
links-most last platform body kind.Ready all = all
links-most last platform body kind.Raw all = all
links-most last platform body kind.Octets all = all
links-most last platform body kind.Closed all = all
links-most last platform body kind.Slice all = all
links-most last platform body kind.Drain all = all
links-most last platform body kind.Finish all = all

work-most : (last : ℕ) (platform : Platform) (body : List ℕ) (k : Kind) → AtMost last platform.connections → AtMost last (work_act platform body k).after.connections
work-most last platform body kind.Slice all = all
work-most last platform body kind.Drain all = all
work-most last platform body kind.Roster all = all
work-most last platform body kind.Ready all = all
work-most last platform body kind.Raw all = all
work-most last platform body kind.Octets all = all
work-most last platform body kind.Closed all = all
work-most last platform body kind.Links all = all
work-most last platform body kind.Time all = all
work-most last platform body kind.Finish all = all

act-most : (last : ℕ) (platform : Platform) (item : FeedRecord) → (begins item.kind ≡ true → item.source ≤ last) → AtMost last platform.connections → AtMost last (act platform item).after.connections
unfolding act
act-most last platform item h all =
    let turned = turns_act platform item in
    work-most last (links_act turned.after item.body item.kind).after item.body item.kind
    (links-most last turned.after item.body item.kind
    (after-most last (record_turns platform item) (noted item platform) (turns-most last item.source platform item.body item.kind h all) all))

rises : (last next : ℕ) (connections : Connections) → last ≤ next → AtMost last connections → AtMost next connections
rises last next [] le all = tt
rises last next (entry ∷ entries) le all = (omega (arith, le, all.0), rises last next entries le all.1)

-- none is above the greatest that was given with the record
pub act-numbers : (last : ℕ) (platform : Platform) (item : FeedRecord) → (begins item.kind ≡ true → last < item.source)
    → AllByRecursion (λ entry. entry.0 ≤ last) platform.connections → AllByRecursion (λ entry. entry.0 ≤ (if begins item.kind then item.source else last)) (act platform item).after.connections
act-numbers last platform item new all =
    elim (cases_Bool (begins item.kind)) [
      | inl e ↦ let above : last < item.source = new e in rw e (act-most item.source platform item (λ _. omega arith) (rises last item.source platform.connections (omega (arith, above)) all))
      | inr e ↦ rw e (act-most last platform item (λ is. absurd (true≢false (sym is ∙ e))) all)
    ]

-- a number above the greatest is above each
pub all_below : (last number : ℕ) (connections : Connections) → last < number → AllByRecursion (λ entry. entry.0 ≤ last) connections → AllByRecursion (λ entry. entry.0 < number) connections
all_below last number [] above all = tt
all_below last number (entry ∷ entries) above all = (omega (arith, above, all.0), all_below last number entries above all.1)

-- ---- time

after-moment : (turns : List Turn) (platform : Platform) → (after_turns turns platform).moment ≡ platform.moment
after-moment [] platform = refl
after-moment (turn ∷ turns) platform = after-moment turns (after_turn turn platform)

stream-moment : (stream : LinkStream) (body : List ℕ) (platform : Platform) → (stream_act stream body platform).after.moment ≡ platform.moment
stream-moment (Reading held place) body platform = refl
stream-moment Lost body platform = refl

links-moment : (platform : Platform) (body : List ℕ) (k : Kind) → (links_act platform body k).after.moment ≡ platform.moment
links-moment platform body kind.Links = stream-moment platform.stream body platform
links-moment platform body kind.Time = refl
links-moment platform body kind.Roster = refl
links-moment platform body kind.Ready = refl
links-moment platform body kind.Raw = refl
links-moment platform body kind.Octets = refl
links-moment platform body kind.Closed = refl
links-moment platform body kind.Slice = refl
links-moment platform body kind.Drain = refl
links-moment platform body kind.Finish = refl

work-moment : (platform : Platform) (body : List ℕ) (k : Kind) → (work_act platform body k).after.moment ≡ platform.moment
work-moment platform body kind.Slice = refl
work-moment platform body kind.Drain = refl
work-moment platform body kind.Roster = refl
work-moment platform body kind.Ready = refl
work-moment platform body kind.Raw = refl
work-moment platform body kind.Octets = refl
work-moment platform body kind.Closed = refl
work-moment platform body kind.Links = refl
work-moment platform body kind.Time = refl
work-moment platform body kind.Finish = refl

-- the platform's time is the record's, or stays
pub act-moment : (platform : Platform) (item : FeedRecord) → (act platform item).after.moment ≡ (if is_time item.kind then moment_of item.body else platform.moment)
unfolding act
act-moment platform item =
    let turned = turns_act platform item in
    work-moment (links_act turned.after item.body item.kind).after item.body item.kind
    ∙ links-moment turned.after item.body item.kind
    ∙ after-moment (record_turns platform item) (noted item platform)
