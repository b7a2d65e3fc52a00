-- A feed, record by record.
use Rattle.std.proofs.Common.{◌≡◌, ℕ, zero, suc, ◌+◌, ◌^◌, ◌<◌, ◌≤◌, Bool, true, false, ◌&&◌, leb, ltb, List, [], ◌∷◌, ◌++◌, length, drop, Option, Some, None, Result, Ok, Err, refl, sym, ap, ◌∙◌, inl, inr, ◌⊎◌, arith}
use Rattle.std.proofs.lemmas.Bool.{cases_Bool, ltb-false, leb-false, le-ltb}
use Rattle.std.proofs.lemmas.List.{length-drop}
use Rattle.std.proofs.lemmas.Option.{none-some}
use Rattle.outside.specs.Told.{in_front}
use Rattle.rcp_base.specs.declared.kinds.FeedWhy.{FeedWhy}
use Rattle.rcp_base.specs.declared.kinds.FeedWhy.TheVariants as why
use Rattle.rcp_base.specs.Checks.{first_failing, unless}
use Rattle.rcp_base.specs.Feed.{FeedState, FeedRecord, Feed, IsRecord, begins, is_time, moment_of, is_finish, record_in, frame_size, record_octets, frame_checks, body_checks, fault_of, fault_in_front, front, after, with_first, feed_within, feed_of}
use Rattle.feed_format.proofs.FrontLemmas.{passes_first}
use Rattle.feed_format.proofs.AgainLemmas.{front_again}

-- ---- the record in front

passes-behind : (xs ys : List (Bool × FeedWhy)) → first_failing (xs ++ ys) ≡ None → first_failing ys ≡ None
passes-behind [] ys e = e
passes-behind ((true, w) ∷ xs) ys e = absurd (none-some w (sym e))
passes-behind ((false, w) ∷ xs) ys e = passes-behind xs ys e

unless-ok : {X : Type 0} (fault : Option FeedWhy) (x y : X) → unless fault x ≡ Ok y → (fault ≡ None) × (x ≡ y)
unless-ok None x y e = (refl, cc)
unless-ok (Some w) x y e = absurd cc

pub record StandsInFront (state : FeedState) (octets : List ℕ) (item : FeedRecord) (rest : List ℕ) : Type 0 where
  pub header : 9 ≤ length octets
  pub whole : frame_size octets ≤ length octets
  pub checked : first_failing (body_checks state item) ≡ None
  pub item_is : record_in octets ≡ item
  pub rest_is : drop (frame_size octets) octets ≡ rest
  pub shorter : length rest + 9 ≤ length octets

-- what is known of octets whose checks are passed
sizes : (state : FeedState) (octets : List ℕ) → fault_in_front state octets ≡ None → (9 ≤ length octets) × (frame_size octets ≤ length octets) × (first_failing (body_checks state (record_in octets)) ≡ None)
unfolding fault_in_front
sizes state octets e =
    let behind_header : List (Bool × FeedWhy) = (ltb (length octets) (frame_size octets), why.Truncated) ∷ body_checks state (record_in octets) in
    let one = passes_first (leb (2 ^ 40) state.octets) why.TooLong ((ltb (length octets) 9, why.Truncated) ∷ frame_checks state octets ++ behind_header) e in
    let two = passes_first (ltb (length octets) 9) why.Truncated (frame_checks state octets ++ behind_header) one.1 in
    let three = passes_first (ltb (length octets) (frame_size octets)) why.Truncated (body_checks state (record_in octets)) (passes-behind (frame_checks state octets) behind_header two.1) in
    (ltb-false _ _ two.0, ltb-false _ _ three.0, three.1)

nine_or_more : (octets : List ℕ) → 9 ≤ length octets → 9 ≤ frame_size octets
nine_or_more octets le = rw (le-ltb (length octets) 9 le) (omega arith)

pub stands : (state : FeedState) (octets : List ℕ) (item : FeedRecord) (rest : List ℕ) → front state octets ≡ Ok (item, rest) → StandsInFront state octets item rest
unfolding front
stands state octets item rest e =
    let parts = unless-ok (fault_in_front state octets) (record_in octets, drop (frame_size octets) octets) (item, rest) e in
    let known = sizes state octets parts.0 in
    let item_is : record_in octets ≡ item = ap (λ (found : FeedRecord × List ℕ). found.0) parts.1 in
    let rest_is : drop (frame_size octets) octets ≡ rest = ap (λ (found : FeedRecord × List ℕ). found.1) parts.1 in
    record {
      header = known.0;
      whole = known.1;
      checked = ap (λ (i : FeedRecord). first_failing (body_checks state i)) (sym item_is) ∙ known.2;
      item_is = item_is;
      rest_is = rest_is;
      shorter = omega (arith, ap length rest_is, length-drop (frame_size octets) octets, nine_or_more octets known.0, known.1);
    }

pub no_front : (state : FeedState) (octets : List ℕ) (fault : FeedWhy) → fault_in_front state octets ≡ Some fault → front state octets ≡ Err fault
unfolding front
no_front state octets fault e = rw e refl

pub cases_front : (found : Result (FeedRecord × List ℕ) FeedWhy) → ((item : FeedRecord) × (rest : List ℕ) × (found ≡ Ok (item, rest))) ⊎ ((fault : FeedWhy) × (found ≡ Err fault))
cases_front (Ok (item, rest)) = inl (item, rest, refl)
cases_front (Err fault) = inr (fault, refl)

-- ---- the records within a bound

module _ (most : ℕ) (state : FeedState) (octets : List ℕ) where
  pub within-last : (item : FeedRecord) (rest : List ℕ) → front state octets ≡ Ok (item, rest) → is_finish item.kind ≡ true
      → feed_within (suc most) state octets ≡ record { items = item ∷ []; state = after state item; fault = None; left = rest }
  unfolding feed_within
  within-last item rest e last = rw (feed_within, e, last) refl

  pub within-more : (item : FeedRecord) (rest : List ℕ) → front state octets ≡ Ok (item, rest) → is_finish item.kind ≡ false
      → feed_within (suc most) state octets ≡ with_first item (feed_within most (after state item) rest)
  unfolding feed_within
  within-more item rest e more = rw (feed_within, e, more) refl

  pub within-fault : (fault : FeedWhy) → front state octets ≡ Err fault → feed_within (suc most) state octets ≡ record { items = []; state = state; fault = Some fault; left = octets }
  unfolding feed_within
  within-fault fault e = rw (feed_within, e) refl

-- each record takes octets, so the bound doesn't matter above their number
any_bound : (m n : ℕ) (state : FeedState) (octets : List ℕ) → length octets < m → length octets < n → feed_within m state octets ≡ feed_within n state octets
any_bound zero n state octets a b = absurd (omega arith)
any_bound (suc m) zero state octets a b = absurd (omega arith)
any_bound (suc m) (suc n) state octets a b =
    elim (cases_front (front state octets)) [
      | inl (item, rest, e) ↦
          let shorter : length rest + 9 ≤ length octets = (stands state octets item rest e).shorter in
          elim (cases_Bool (is_finish item.kind)) [
            | inl last ↦ within-last m state octets item rest e last ∙ sym (within-last n state octets item rest e last)
            | inr more ↦ within-more m state octets item rest e more
                ∙ ap (with_first item) (any_bound m n (after state item) rest (omega (arith, shorter)) (omega (arith, shorter)))
                ∙ sym (within-more n state octets item rest e more)
          ]
      | inr (fault, e) ↦ within-fault m state octets fault e ∙ sym (within-fault n state octets fault e)
    ]

-- ---- a whole feed

module _ (state : FeedState) (octets : List ℕ) where
  one_more : feed_of state octets ≡ feed_within (suc (length octets)) state octets
  one_more = let count : length octets + 1 ≡ suc (length octets) = omega arith in ap (λ (n : ℕ). feed_within n state octets) count

  pub feed-last : (item : FeedRecord) (rest : List ℕ) → front state octets ≡ Ok (item, rest) → is_finish item.kind ≡ true
      → feed_of state octets ≡ record { items = item ∷ []; state = after state item; fault = None; left = rest }
  feed-last item rest e last = one_more ∙ within-last (length octets) state octets item rest e last

  pub feed-more : (item : FeedRecord) (rest : List ℕ) → front state octets ≡ Ok (item, rest) → is_finish item.kind ≡ false
      → feed_of state octets ≡ with_first item (feed_of (after state item) rest)
  feed-more item rest e more =
      let shorter : length rest + 9 ≤ length octets = (stands state octets item rest e).shorter in
      one_more ∙ within-more (length octets) state octets item rest e more
      ∙ ap (with_first item) (any_bound (length octets) (length rest + 1) (after state item) rest (omega (arith, shorter)) (omega arith))

  pub feed-fault : (fault : FeedWhy) → front state octets ≡ Err fault → feed_of state octets ≡ record { items = []; state = state; fault = Some fault; left = octets }
  feed-fault fault e = one_more ∙ within-fault (length octets) state octets fault e

  -- where no record is whole there is none
  pub feed-short : length octets < frame_size octets → (feed_of state octets).items ≡ []
  feed-short short =
      elim (cases_front (front state octets)) [
        | inl (item, rest, e) ↦ let known : frame_size octets ≤ length octets = (stands state octets item rest e).whole in absurd (omega (arith, known, short))
        | inr (fault, e) ↦ ap (λ (f : Feed). f.items) (feed-fault fault e)
      ]

pub feed-empty : (state : FeedState) → (feed_of state []).items ≡ []
feed-empty state = feed-short state [] (omega arith)

-- ---- a record that was read

module _ (state : FeedState) (item : FeedRecord) (form : IsRecord item) (valid : fault_of state item ≡ None) (more : List ℕ) where
  pub again-last : is_finish item.kind ≡ true → feed_of state (record_octets item ++ more) ≡ record { items = item ∷ []; state = after state item; fault = None; left = more }
  again-last last = feed-last state (record_octets item ++ more) item more (front_again state item more form valid) last

  pub again-more : is_finish item.kind ≡ false → feed_of state (record_octets item ++ more) ≡ with_first item (feed_of (after state item) more)
  again-more further = feed-more state (record_octets item ++ more) item more (front_again state item more form valid) further

  -- it is the first of the feed
  pub again-first : (items : List FeedRecord) × ((feed_of state (record_octets item ++ more)).items ≡ item ∷ items)
  again-first = elim (cases_Bool (is_finish item.kind)) [
    | inl last ↦ ([], ap (λ (f : Feed). f.items) (again-last last))
    | inr further ↦ ((feed_of (after state item) more).items, ap (λ (f : Feed). f.items) (again-more further))
  ]

-- where the octets are known and a piece of them was read: what is left, and that the piece stands in front of it
pub told_front : (piece octets : List ℕ) (now : Option (List ℕ)) → Some octets ≡ in_front piece now → (rest : List ℕ) × (now ≡ Some rest) × (octets ≡ piece ++ rest)
told_front piece octets None e = absurd cc
told_front piece octets (Some rest) e = (rest, refl, cc)

-- a connection that begins has a number above those before
pub new_number : (state : FeedState) (item : FeedRecord) → first_failing (body_checks state item) ≡ None → begins item.kind ≡ true → state.last < item.source
new_number state item passed is =
    let rest : List (Bool × FeedWhy) = (begins item.kind && leb 4096 (length state.live), why.TooMany) ∷ (is_time item.kind && ltb (moment_of item.body) state.moment, why.ClockBack) ∷ [] in
    let one = passes-behind (_ ∷ []) ((begins item.kind && leb item.source state.last, why.Twice) ∷ rest) passed in
    let two = passes_first (begins item.kind && leb item.source state.last) why.Twice rest one in
    let fresh : leb item.source state.last ≡ false = rw is at two.0 in
    leb-false _ _ fresh

-- a time isn't below the one before
pub no_earlier : (state : FeedState) (item : FeedRecord) → first_failing (body_checks state item) ≡ None → is_time item.kind ≡ true → state.moment ≤ moment_of item.body
no_earlier state item passed is =
    let late : List (Bool × FeedWhy) = (is_time item.kind && ltb (moment_of item.body) state.moment, why.ClockBack) ∷ [] in
    let many : List (Bool × FeedWhy) = (begins item.kind && leb 4096 (length state.live), why.TooMany) ∷ late in
    let one = passes-behind (_ ∷ []) ((begins item.kind && leb item.source state.last, why.Twice) ∷ many) passed in
    let two = passes_first (begins item.kind && leb item.source state.last) why.Twice many one in
    let three = passes_first (begins item.kind && leb 4096 (length state.live)) why.TooMany late two.1 in
    let kept : ltb (moment_of item.body) state.moment ≡ false = rw is at (passes_first (is_time item.kind && ltb (moment_of item.body) state.moment) why.ClockBack [] three.1).0 in
    ltb-false _ _ kept
