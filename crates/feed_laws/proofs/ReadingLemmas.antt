-- Octets are the records of the feed that they are read as, and then what is left.
use Rattle.std.proofs.Common.{◌≡◌, ℕ, zero, suc, ◌+◌, ◌^◌, ◌<◌, ◌≤◌, Bool, true, false, ◌||◌, leb, ltb, List, [], ◌∷◌, ◌++◌, length, take, drop, Option, Some, None, Ok, Err, refl, sym, ap, subst, ◌∙◌, inl, inr, ◌⊎◌, append_assoc, arith}
use Rattle.std.specs.Prelude.{is_none, not, ◌&&◌}
use Rattle.std.specs.List.{flat_map}
use Rattle.std.proofs.lemmas.Bool.{cases_Bool, ltb-false, leb-false, le-ltb, cases_lt}
use Rattle.std.proofs.lemmas.List.{length-append, length-drop, length-take, take-append-drop, drop-drop, get_or-take, get_or_past}
use Rattle.std.proofs.lemmas.List.Elements.{All-take, All-drop}
use Rattle.std.proofs.lemmas.Option.{none-some}
use Rattle.rcp_base.specs.declared.kinds.Kind.{Kind}
use Rattle.rcp_base.specs.declared.kinds.FeedWhy.{FeedWhy}
use Rattle.rcp_base.specs.declared.kinds.FeedWhy.TheVariants as why
use Rattle.rcp_base.specs.Octets.{AreOctets}
use Rattle.rcp_base.specs.Checks.{first_failing}
use Rattle.rcp_base.specs.Feed.{FeedState, FeedRecord, Feed, IsRecord, is_finish, is_roster, has_length, kind_of, kind_in, letter_at, length_at, record_in, frame_size, record_octets, header_checks, frame_checks, body_checks, fault_of, fault_in_front, front, after, with_first, feed_within, feed_of}
use Rattle.feed_format.proofs.FrontLemmas.{passes_first, length_front, record_front, record_of, header_octets, header_is, IsBytes, source_bound}
use Rattle.feed_format.proofs.TakingLemmas.{is_lawful}
use Rattle.feed_format.proofs.AgainLemmas.{front_again}
use Rattle.feed_laws.specs.FeedReading.{state_after, AreFaultless, HaveNoFinish, EndInFinish, EndBy, IsFeedOf}

-- ---- what stands in front without a fault

both_pass : (xs ys : List (Bool × FeedWhy)) → first_failing (xs ++ ys) ≡ None → (first_failing xs ≡ None) × (first_failing ys ≡ None)
both_pass [] ys e = (refl, e)
both_pass ((true, w) ∷ xs) ys e = absurd (none-some w (sym e))
both_pass ((false, w) ∷ xs) ys e = both_pass xs ys e

record Passes (state : FeedState) (octets : List ℕ) : Type 0 where
  few : state.octets < 2 ^ 40
  header : 9 ≤ length octets
  frame : first_failing (frame_checks state octets) ≡ None
  whole : frame_size octets ≤ length octets
  body : first_failing (body_checks state (record_in octets)) ≡ None

passes : (state : FeedState) (octets : List ℕ) → fault_in_front state octets ≡ None → Passes state octets
unfolding fault_in_front
passes state octets e =
    let others : List (Bool × FeedWhy) = (ltb (length octets) (frame_size octets), why.Truncated) ∷ body_checks state (record_in octets) in
    let one = passes_first (leb (2 ^ 40) state.octets) why.TooLong ((ltb (length octets) 9, why.Truncated) ∷ frame_checks state octets ++ others) e in
    let two = passes_first (ltb (length octets) 9) why.Truncated (frame_checks state octets ++ others) one.1 in
    let parts = both_pass (frame_checks state octets) others two.1 in
    let three = passes_first (ltb (length octets) (frame_size octets)) why.Truncated (body_checks state (record_in octets)) parts.1 in
    record { few = leb-false _ _ one.0; header = ltb-false _ _ two.0; frame = parts.0; whole = ltb-false _ _ three.0; body = three.1 }

known_kind : (found : Option Kind) → is_none found ≡ false → (kind : Kind) × (found ≡ Some kind)
known_kind None e = absurd cc
known_kind (Some kind) e = (kind, refl)

left_of : (a b : Bool) → (a || b) ≡ false → a ≡ false
left_of true b e = e
left_of false b e = refl

short_body : (state : FeedState) (kind : Kind) (len : ℕ) → first_failing (header_checks state kind len) ≡ None → len ≤ 65536
short_body state kind len e =
    let one = passes_first (not state.started && not (is_roster kind)) why.NoRoster ((state.started && is_roster kind, why.Twice) ∷ (ltb 65536 len || not (has_length kind len), why.Length) ∷ []) e in
    let two = passes_first (state.started && is_roster kind) why.Twice ((ltb 65536 len || not (has_length kind len), why.Length) ∷ []) one.1 in
    let three = passes_first (ltb 65536 len || not (has_length kind len)) why.Length [] two.1 in
    ltb-false _ _ (left_of (ltb 65536 len) (not (has_length kind len)) three.0)

bytes_of : (octets : List ℕ) → AreOctets octets → IsBytes octets
bytes_of octets all i =
    elim (cases_lt i (length octets)) [ inl lt ↦ all i 0 lt | inr le ↦ rw (get_or_past octets i 0 le) (omega arith) ]

-- a record that has a frame and no fault, and the octets after it
record Taken (state : FeedState) (octets : List ℕ) (item : FeedRecord) (rest : List ℕ) : Type 0 where
  form : IsRecord item
  faultless : fault_of state item ≡ None
  there : octets ≡ record_octets item ++ rest

module _ (state : FeedState) (octets : List ℕ) (all : AreOctets octets) (p : Passes state octets) where
  size : frame_size octets ≡ 9 + length_at octets
  size = rw (le-ltb (length octets) 9 p.header) refl

  body_length : length (take (length_at octets) (drop 9 octets)) ≡ length_at octets
  body_length = omega (arith, length-take (length_at octets) (drop 9 octets), length-drop 9 octets, size, p.whole)

  checked : (is_none (kind_of (letter_at octets)) ≡ false) × (first_failing (header_checks state (kind_in octets) (length_at octets)) ≡ None)
  checked = passes_first (is_none (kind_of (letter_at octets))) why.Kind (header_checks state (kind_in octets) (length_at octets)) p.frame

  known : kind_of (letter_at octets) ≡ Some (kind_in octets)
  known = let found = known_kind (kind_of (letter_at octets)) checked.0 in rw (found.1) refl

  header_bytes : IsBytes (take 9 octets)
  header_bytes = bytes_of (take 9 octets) (All-take (λ o. o < 256) 9 octets all)

  parts : take 9 octets ++ (take (length_at octets) (drop 9 octets) ++ drop (length_at octets) (drop 9 octets)) ≡ octets
  parts = ap (λ (xs : List ℕ). take 9 octets ++ xs) (take-append-drop (length_at octets) (drop 9 octets)) ∙ take-append-drop 9 octets

  nine : length (take 9 octets) ≡ 9
  nine = omega (arith, length-take 9 octets, p.header)

  same_length : length_at (take 9 octets) ≡ length_at octets
  same_length = sym (length_front (take 9 octets) (drop 9 octets) nine) ∙ ap length_at (take-append-drop 9 octets)

  item_is : record_of (take 9 octets) (take (length_at octets) (drop 9 octets)) ≡ record_in octets
  item_is =
      sym (record_front (take 9 octets) (take (length_at octets) (drop 9 octets)) (drop (length_at octets) (drop 9 octets)) nine (body_length ∙ sym same_length))
      ∙ ap record_in parts

  header_of : take 9 octets ≡ header_octets (record_in octets)
  header_of =
      header_is (take 9 octets) (record_in octets) nine header_bytes
      (ap kind_of (get_or-take 9 octets 0 0 (omega arith)) ∙ known)
      (ap (λ (r : FeedRecord). r.source) (sym item_is))
      (body_length ∙ sym same_length)

  rest_after : drop (length_at octets) (drop 9 octets) ≡ drop (frame_size octets) octets
  rest_after = drop-drop (length_at octets) 9 octets ∙ ap (λ (n : ℕ). drop n octets) (sym size)

  taken : Taken state octets (record_in octets) (drop (frame_size octets) octets)
  taken = record {
    form = record {
      source = source_bound octets (bytes_of octets all);
      length = omega (arith, body_length, short_body state (kind_in octets) (length_at octets) checked.1);
      octets = All-take (λ o. o < 256) (length_at octets) (drop 9 octets) (All-drop (λ o. o < 256) 9 octets all);
    };
    faultless = is_lawful state (record_in octets) p.few (ap (λ (n : ℕ). first_failing (header_checks state (kind_in octets) n)) body_length ∙ checked.1) p.body;
    there =
        sym parts
        ∙ ap (λ (xs : List ℕ). xs ++ (take (length_at octets) (drop 9 octets) ++ drop (length_at octets) (drop 9 octets))) header_of
        ∙ sym (append_assoc (header_octets (record_in octets)) (take (length_at octets) (drop 9 octets)) (drop (length_at octets) (drop 9 octets)))
        ∙ ap (λ (xs : List ℕ). record_octets (record_in octets) ++ xs) rest_after;
  }

-- ---- one record more

abbrev no_more : FeedState → FeedWhy → List ℕ → Feed
no_more state fault octets = record { items = []; state = state; fault = Some fault; left = octets }

abbrev only_finish : FeedState → FeedRecord → List ℕ → Feed
only_finish state item rest = record { items = item ∷ []; state = after state item; fault = None; left = rest }

pub front_fault : (state : FeedState) (octets : List ℕ) (fault : FeedWhy) → fault_in_front state octets ≡ Some fault → front state octets ≡ Err fault
unfolding front
front_fault state octets fault e = rw e refl

front_record : (state : FeedState) (octets : List ℕ) → fault_in_front state octets ≡ None → front state octets ≡ Ok (record_in octets, drop (frame_size octets) octets)
unfolding front
front_record state octets e = rw e refl

module _ (most : ℕ) (state : FeedState) (octets : List ℕ) where
  within_fault : (fault : FeedWhy) → front state octets ≡ Err fault → feed_within (suc most) state octets ≡ no_more state fault octets
  unfolding feed_within
  within_fault fault e = rw (feed_within, e) refl

  within_last : (item : FeedRecord) (rest : List ℕ) → front state octets ≡ Ok (item, rest) → is_finish item.kind ≡ true → feed_within (suc most) state octets ≡ only_finish state item rest
  unfolding feed_within
  within_last item rest e last = rw (feed_within, e, last) refl

  within_more : (item : FeedRecord) (rest : List ℕ) → front state octets ≡ Ok (item, rest) → is_finish item.kind ≡ false
      → feed_within (suc most) state octets ≡ with_first item (feed_within most (after state item) rest)
  unfolding feed_within
  within_more item rest e more = rw (feed_within, e, more) refl

-- ---- the reading

end_after : (state : FeedState) (item : FeedRecord) (items : List FeedRecord) (left : List ℕ) (fault : Option FeedWhy) → is_finish item.kind ≡ false
    → EndBy (after state item) items left fault → EndBy state (item ∷ items) left fault
end_after state item items left None more end = record {
  before = item ∷ end.before;
  last = end.last;
  whole = ap (λ (l : List FeedRecord). item ∷ l) end.whole;
  finish = end.finish;
  others = (more, end.others);
}
end_after state item items left (Some why) more end = ((more, end.0), end.1)

record_more : (state : FeedState) (octets : List ℕ) (item : FeedRecord) (rest : List ℕ) (feed : Feed) → Taken state octets item rest → is_finish item.kind ≡ false
    → IsFeedOf (after state item) rest feed → IsFeedOf state octets (with_first item feed)
record_more state octets item rest feed first more others = record {
  whole = first.there ∙ ap (λ (xs : List ℕ). record_octets item ++ xs) others.whole ∙ sym (append_assoc (record_octets item) (flat_map record_octets feed.items) feed.left);
  each = (first.form, first.faultless, others.each);
  remembered = others.remembered;
  end = end_after state item feed.items feed.left feed.fault more others.end;
}

record_last : (state : FeedState) (octets : List ℕ) (item : FeedRecord) (rest : List ℕ) → Taken state octets item rest → is_finish item.kind ≡ true → IsFeedOf state octets (only_finish state item rest)
record_last state octets item rest first last = record {
  whole = first.there ∙ sym (append_assoc (record_octets item) [] rest);
  each = (first.form, first.faultless, tt);
  remembered = refl;
  end = record { before = []; last = item; whole = refl; finish = last; others = tt };
}

nothing_read : (state : FeedState) (octets : List ℕ) (fault : FeedWhy) → fault_in_front state octets ≡ Some fault → IsFeedOf state octets (no_more state fault octets)
nothing_read state octets fault e = record { whole = refl; each = tt; remembered = refl; end = (tt, e) }

-- the octets after a record are fewer
fewer : (state : FeedState) (octets : List ℕ) (item : FeedRecord) (rest : List ℕ) → octets ≡ record_octets item ++ rest → length rest < length octets
fewer state octets item rest e = omega (arith, ap length e, length-append (record_octets item) rest)

-- the reading of octets, where those after the record in front are read with one record less
reading_step : (most : ℕ) (state : FeedState) (octets : List ℕ) → AreOctets octets → length octets < suc most
    → ((item : FeedRecord) (rest : List ℕ) → AreOctets rest → length rest < most → IsFeedOf (after state item) rest (feed_within most (after state item) rest))
    → (found : Option FeedWhy) → fault_in_front state octets ≡ found → IsFeedOf state octets (feed_within (suc most) state octets)
reading_step most state octets all few later (Some fault) e =
    subst (IsFeedOf state octets) (sym (within_fault most state octets fault (front_fault state octets fault e))) (nothing_read state octets fault e)
reading_step most state octets all few later None e =
    let item = record_in octets in
    let rest = drop (frame_size octets) octets in
    let first = taken state octets all (passes state octets e) in
    elim (cases_Bool (is_finish item.kind)) [
      | inl last ↦ subst (IsFeedOf state octets) (sym (within_last most state octets item rest (front_record state octets e) last)) (record_last state octets item rest first last)
      | inr more ↦
          subst (IsFeedOf state octets) (sym (within_more most state octets item rest (front_record state octets e) more))
          (record_more state octets item rest (feed_within most (after state item) rest) first more
          (later item rest (All-drop (λ o. o < 256) (frame_size octets) octets all) (omega (arith, few, fewer state octets item rest first.there))))
    ]

reading_within : (most : ℕ) (state : FeedState) (octets : List ℕ) → AreOctets octets → length octets < most → IsFeedOf state octets (feed_within most state octets)
reading_within zero state octets all few = absurd (omega arith)
reading_within (suc most) state octets all few =
    reading_step most state octets all few (λ item rest. reading_within most (after state item) rest) (fault_in_front state octets) refl

pub feed_is_read : (state : FeedState) (octets : List ℕ) → AreOctets octets → IsFeedOf state octets (feed_of state octets)
feed_is_read state octets all = reading_within (length octets + 1) state octets all (omega arith)

-- ---- the only one

abbrev feed_from : List FeedRecord → FeedState → Option FeedWhy → List ℕ → Feed
feed_from items state fault left = record { items = items; state = state; fault = fault; left = left }

-- the end of records of which the first is known
not_empty : (before : List FeedRecord) (last : FeedRecord) → [] ≡ before ++ last ∷ [] → ⊥
not_empty [] last e = cc
not_empty (item ∷ before) last e = cc

pub end_of_none : EndInFinish [] → ⊥
end_of_none end = not_empty end.before end.last end.whole

data_tail : {X : Type 0} {a b : X} {as_ bs : List X} → a ∷ as_ ≡ b ∷ bs → (a ≡ b) × (as_ ≡ bs)
data_tail e = (cc, cc)

-- a Z ends them, and no other record does
pub end_at_first : (item : FeedRecord) (items before : List FeedRecord) (last : FeedRecord) → item ∷ items ≡ before ++ last ∷ [] → is_finish last.kind ≡ true → HaveNoFinish before
    → ((items ≡ []) × (is_finish item.kind ≡ true)) ⊎ ((is_finish item.kind ≡ false) × EndInFinish items)
end_at_first item items [] last e finish others =
    let same = data_tail e in
    inl (same.1, ap (λ (r : FeedRecord). is_finish r.kind) same.0 ∙ finish)
end_at_first item items (first ∷ before) last e finish others =
    let same = data_tail e in
    inr (ap (λ (r : FeedRecord). is_finish r.kind) same.0 ∙ others.0, record { before = before; last = last; whole = same.1; finish = finish; others = others.1 })

-- the feed of a record and what follows it, where that is read with one record less
module _ (most : ℕ) (state : FeedState) (octets : List ℕ) (item : FeedRecord) (items : List FeedRecord) (left : List ℕ)
    (is : octets ≡ record_octets item ++ (flat_map record_octets items ++ left)) (first : front state octets ≡ Ok (item, flat_map record_octets items ++ left))
    (later : (found : Option FeedWhy) → EndBy (after state item) items left found
    → feed_within most (after state item) (flat_map record_octets items ++ left) ≡ feed_from items (state_after (after state item) items) found left) where
  goes_on : (found : Option FeedWhy) → is_finish item.kind ≡ false → EndBy (after state item) items left found
      → feed_within (suc most) state octets ≡ feed_from (item ∷ items) (state_after (after state item) items) found left
  goes_on found other end = within_more most state octets item (flat_map record_octets items ++ left) first other ∙ ap (with_first item) (later found end)

  only_step : (found : Option FeedWhy) → EndBy state (item ∷ items) left found → feed_within (suc most) state octets ≡ feed_from (item ∷ items) (state_after (after state item) items) found left
  only_step (Some why) end = goes_on (Some why) end.0.0 (end.0.1, end.1)
  only_step None end = elim (end_at_first item items end.before end.last end.whole end.finish end.others) [
    | inl (none, finish) ↦ within_last most state octets item (flat_map record_octets items ++ left) first finish ∙ rw none refl
    | inr (other, later) ↦ goes_on None other later
  ]

only_within : (most : ℕ) (state : FeedState) (octets : List ℕ) (items : List FeedRecord) (fault : Option FeedWhy) (left : List ℕ) → length octets < most
    → octets ≡ flat_map record_octets items ++ left → AreFaultless state items → EndBy state items left fault
    → feed_within most state octets ≡ feed_from items (state_after state items) fault left
only_within zero state octets items fault left few is each end = absurd (omega arith)
only_within (suc most) state octets [] None left few is each end = absurd (end_of_none end)
only_within (suc most) state octets [] (Some why) left few is each end =
    within_fault most state octets why (front_fault state octets why (ap (fault_in_front state) is ∙ end.1)) ∙ ap (no_more state why) is
only_within (suc most) state octets (item ∷ items) fault left few is each end =
    let more = flat_map record_octets items ++ left in
    let whole : octets ≡ record_octets item ++ more = is ∙ append_assoc (record_octets item) (flat_map record_octets items) left in
    let first : front state octets ≡ Ok (item, more) = ap (front state) whole ∙ front_again state item more each.0 each.1 in
    only_step most state octets item items left whole first
    (λ found. only_within most (after state item) more items found left (omega (arith, few, fewer state octets item more whole)) refl each.2)
    fault end

pub no_other_feed : (state : FeedState) (octets : List ℕ) (feed : Feed) → IsFeedOf state octets feed → feed ≡ feed_of state octets
no_other_feed state octets feed is =
    ap (λ (s : FeedState). feed_from feed.items s feed.fault feed.left) is.remembered
    ∙ sym (only_within (length octets + 1) state octets feed.items feed.fault feed.left (omega arith) is.whole is.each is.end)
