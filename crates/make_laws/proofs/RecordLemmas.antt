-- No record of a generated feed has a fault.
use Rattle.std.proofs.Common.{◌≡◌, ℕ, zero, suc, ◌+◌, ◌*◌, ◌^◌, ◌<◌, ◌≤◌, Bool, true, false, cond, eqb, leb, ltb, List, [], ◌∷◌, ◌++◌, length, map, filter, Option, Some, None, refl, sym, ap, subst, ◌∙◌, arith, length-append}
use Rattle.std.specs.Prelude.{not, ◌&&◌, ◌||◌, ◌==◌, unwrap_or}
use Rattle.std.specs.List.{flat_map, AllByRecursion}
use Rattle.std.proofs.lemmas.Bool.{lt-leb, le-ltb, eq-eqb, ne_eqb}
use Rattle.rcp_base.specs.Octets.{AreOctets}
use Rattle.rcp_base.specs.Checks.{first_failing}
use Rattle.rcp_base.specs.declared.kinds.Kind.{Kind}
use Rattle.rcp_base.specs.declared.kinds.Kind.TheVariants as kinds
use Rattle.rcp_base.specs.declared.kinds.FeedWhy.{FeedWhy}
use Rattle.rcp_base.specs.declared.kinds.FeedWhy.TheVariants as why
use Rattle.rcp_base.specs.Feed.{FeedState, FeedRecord, IsRecord, before_feeds, begins, is_time, is_roster, is_finish, is_of_connection, is_end_of_connection, has_length, live_after, after, moment_of, header_checks, body_checks, fault_of}
use Rattle.feed_laws.specs.FeedReading.{state_after, AreFaultless}

-- ---- one record

-- The state of a feed between two records: no connection above this one was opened, and the records have so many octets at most.
pub record IsAt (state : FeedState) (last most : ℕ) : Type 0 where
  pub started : state.started ≡ true
  pub last_is : state.last ≡ last
  pub live : length state.live ≤ last
  pub octets : state.octets ≤ most

pub IsAt-more : (state : FeedState) (last most more : ℕ) → most ≤ more → IsAt state last most → IsAt state last more
IsAt-more state last most more le at = record { started = at.started; last_is = at.last_is; live = at.live; octets = omega (arith, at.octets) }

-- what shows that a record has no fault
record Passes (state : FeedState) (item : FeedRecord) : Type 0 where
  few : state.octets < 2 ^ 40
  roster : (not state.started && not (is_roster item.kind)) ≡ false
  once : (state.started && is_roster item.kind) ≡ false
  short : length item.body ≤ 65536
  long : has_length item.kind (length item.body) ≡ true
  source : cond (is_of_connection item.kind) (item.source == 0) (not (item.source == 0)) ≡ false
  new : (begins item.kind && leb item.source state.last) ≡ false
  room : (begins item.kind && leb 4096 (length state.live)) ≡ false
  timeless : is_time item.kind ≡ false

eight_pass : (a b c d e f g h : Bool) → a ≡ false → b ≡ false → c ≡ false → d ≡ false → e ≡ false → f ≡ false → g ≡ false → h ≡ false
    → first_failing ((a, why.TooLong) ∷ (b, why.NoRoster) ∷ (c, why.Twice) ∷ (d, why.Length) ∷ (e, why.BadBody) ∷ (f, why.Twice) ∷ (g, why.TooMany) ∷ (h, why.ClockBack) ∷ []) ≡ None
eight_pass a b c d e f g h p q r s t u v w = rw (p, q, r, s, t, u, v, w) refl

no_fault : (state : FeedState) (item : FeedRecord) → Passes state item → fault_of state item ≡ None
unfolding fault_of
no_fault state item passes =
    let short : ltb 65536 (length item.body) ≡ false = le-ltb _ _ passes.short in
    eight_pass
    (leb (2 ^ 40) state.octets)
    (not state.started && not (is_roster item.kind))
    (state.started && is_roster item.kind)
    (ltb 65536 (length item.body) || not (has_length item.kind (length item.body)))
    (cond (is_of_connection item.kind) (item.source == 0) (not (item.source == 0)))
    (begins item.kind && leb item.source state.last)
    (begins item.kind && leb 4096 (length state.live))
    (is_time item.kind && ltb (moment_of item.body) state.moment)
    (lt-leb _ _ passes.few) passes.roster passes.once
    ((λ i. short i || not (passes.long i)))
    passes.source passes.new passes.room
    (ap (λ (b : Bool). b && ltb (moment_of item.body) state.moment) passes.timeless)

-- A record that begins no connection, is no time, no roster's and no end of the feed.
pub record IsPlain (item : FeedRecord) : Type 0 where
  pub form : IsRecord item
  pub begins_none : begins item.kind ≡ false
  pub timeless : is_time item.kind ≡ false
  pub rosterless : is_roster item.kind ≡ false
  pub going : is_finish item.kind ≡ false
  pub long : has_length item.kind (length item.body) ≡ true
  pub source : cond (is_of_connection item.kind) (item.source == 0) (not (item.source == 0)) ≡ false

filter-fewer : (p : ℕ → Bool) (xs : List ℕ) → length (filter p xs) ≤ length xs
filter-fewer p [] = omega arith
filter-fewer p (x ∷ xs) = at_test (p x) (filter-fewer p xs) where
  at_test : (b : Bool) → length (filter p xs) ≤ length xs → length (cond b (x ∷ filter p xs) (filter p xs)) ≤ suc (length xs)
  at_test true few = omega (arith, few)
  at_test false few = omega (arith, few)

live-fewer : (live : List ℕ) (item : FeedRecord) → begins item.kind ≡ false → length (live_after live item) ≤ length live
live-fewer live item none =
    subst (λ (b : Bool). length (cond b (live ++ item.source ∷ []) (cond (is_end_of_connection item.kind) (filter (λ c. not (c == item.source)) live) live)) ≤ length live) (sym none)
    (at_test (is_end_of_connection item.kind)) where
      at_test : (b : Bool) → length (cond b (filter (λ c. not (c == item.source)) live) live) ≤ length live
      at_test true = filter-fewer (λ c. not (c == item.source)) live
      at_test false = omega arith

module _ (state : FeedState) (item : FeedRecord) (last most : ℕ) (at : IsAt state last most) (few : most < 2 ^ 40) where
  pub plain-passes : IsRecord item → begins item.kind ≡ false → is_time item.kind ≡ false → is_roster item.kind ≡ false → has_length item.kind (length item.body) ≡ true
      → cond (is_of_connection item.kind) (item.source == 0) (not (item.source == 0)) ≡ false → fault_of state item ≡ None
  plain-passes form none timeless rosterless long source =
      no_fault state item (record {
        few = omega (arith, at.octets);
        roster = ap (λ (b : Bool). not b && not (is_roster item.kind)) at.started;
        once = (λ i. at.started i && rosterless i);
        short = form.length;
        long = long;
        source = source;
        new = ap (λ (b : Bool). b && leb item.source state.last) none;
        room = ap (λ (b : Bool). b && leb 4096 (length state.live)) none;
        timeless = timeless;
      })

  pub plain-after : IsRecord item → begins item.kind ≡ false → IsAt (after state item) last (most + 65545)
  plain-after form none = record {
    started = refl;
    last_is = ap (λ (b : Bool). cond b item.source state.last) none ∙ at.last_is;
    live = omega (arith, live-fewer state.live item none, at.live);
    octets = omega (arith, at.octets, form.length);
  }

  pub plain-step : IsPlain item → (fault_of state item ≡ None) × IsAt (after state item) last (most + 65545)
  plain-step plain = (plain-passes plain.form plain.begins_none plain.timeless plain.rosterless plain.long plain.source, plain-after plain.form plain.begins_none)

-- ---- lists of records

-- No record has a fault, and afterwards the feed is here.
pub record Goes (state : FeedState) (items : List FeedRecord) (last most : ℕ) : Type 0 where
  pub faultless : AreFaultless state items
  pub at : IsAt (state_after state items) last most

faultless-append : (xs ys : List FeedRecord) (state : FeedState) → AreFaultless state xs → AreFaultless (state_after state xs) ys → AreFaultless state (xs ++ ys)
faultless-append [] ys state first second = second
faultless-append (x ∷ xs) ys state first second = (first.0, first.1, faultless-append xs ys (after state x) first.2 second)

state_after-append : (xs ys : List FeedRecord) (state : FeedState) → state_after state (xs ++ ys) ≡ state_after (state_after state xs) ys
state_after-append [] ys state = refl
state_after-append (x ∷ xs) ys state = state_after-append xs ys (after state x)

pub Goes-append : (state : FeedState) (xs ys : List FeedRecord) (mid last some most : ℕ) → Goes state xs mid some → (IsAt (state_after state xs) mid some → Goes (state_after state xs) ys last most) → Goes state (xs ++ ys) last most
Goes-append state xs ys mid last some most first second =
    let next = second first.at in
    record {
      faultless = faultless-append xs ys state first.faultless next.faultless;
      at = subst (λ (s : FeedState). IsAt s last most) (sym (state_after-append xs ys state)) next.at;
    }

pub plain-goes : (items : List FeedRecord) (state : FeedState) (last most : ℕ) → AllByRecursion IsPlain items → IsAt state last most → most + 65545 * length items < 2 ^ 40
    → Goes state items last (most + 65545 * length items)
plain-goes [] state last most each at few = record { faultless = tt; at = IsAt-more state last most (most + 65545 * 0) (omega arith) at }
plain-goes (item ∷ items) state last most each at few =
    let step = plain-step state item last most at (omega arith) each.0 in
    let next = plain-goes items (after state item) last (most + 65545) each.1 step.1 (omega arith) in
    record {
      faultless = (each.0.form, step.0, next.faultless);
      at = IsAt-more (state_after (after state item) items) last (most + 65545 + 65545 * length items) (most + 65545 * suc (length items)) (omega arith) next.at;
    }

-- ---- a connection is opened

abbrev pub begun_by : ℕ → FeedRecord
begun_by source = record { kind = kinds.Raw; source = source; body = [] }

pub begun-form : (source : ℕ) → source < 2 ^ 32 → IsRecord (begun_by source)
begun-form source small = record { source = small; length = omega arith; octets = λ i d low. absurd (omega arith) }

pub begun-step : (state : FeedState) (last most : ℕ) → IsAt state last most → most < 2 ^ 40 → last < 4096
    → (fault_of state (begun_by (last + 1)) ≡ None) × IsAt (after state (begun_by (last + 1))) (last + 1) (most + 65545)
begun-step state last most at few room = (
  no_fault state (begun_by (last + 1)) (record {
    few = omega (arith, at.octets);
    roster = ap (λ (b : Bool). not b && true) at.started;
    once = (λ i. at.started i && false);
    short = omega arith;
    long = refl;
    source = nonzero last;
    new = lt-leb (last + 1) state.last (omega (arith, at.last_is));
    room = lt-leb 4096 (length state.live) (omega (arith, at.live));
    timeless = refl;
  }),
  record {
    started = refl;
    last_is = refl;
    live = omega (arith, length-append state.live ((last + 1) ∷ []), at.live);
    octets = omega (arith, at.octets);
  },
) where
  nonzero : (n : ℕ) → ((n + 1) == 0) ≡ false
  nonzero n = other where
    other : eqb (n + 1) 0 ≡ false
    other = ne_eqb (n + 1) 0 (λ e. omega arith)

-- ---- the roster's record

pub roster-step : (text : List ℕ) → length text ≤ 65536
    → (fault_of before_feeds (record { kind = kinds.Roster; source = 0; body = text }) ≡ None)
    × IsAt (after before_feeds (record { kind = kinds.Roster; source = 0; body = text })) 0 65545
roster-step text short = (
  no_fault before_feeds (record { kind = kinds.Roster; source = 0; body = text }) (record {
    few = omega arith;
    roster = refl;
    once = refl;
    short = short;
    long = eq-eqb (length text) (length text) refl;
    source = refl;
    new = refl;
    room = refl;
    timeless = refl;
  }),
  record { started = refl; last_is = refl; live = omega arith; octets = omega arith },
)
