-- Octets are a roster's record, the records that are acted on, and what follows them.
use Rattle.std.proofs.Common.{◌≡◌, ℕ, ◌+◌, true, false, List, [], ◌∷◌, ◌++◌, length, Option, Some, None, Result, Ok, Err, refl, sym, ap, subst, cond, ◌∙◌, inl, inr, append_assoc, arith, ltb, ◌||◌}
use Rattle.std.specs.Prelude.{not, ◌&&◌, is_some}
use Rattle.std.specs.List.{flat_map, AllByRecursion}
use Rattle.std.proofs.lemmas.Bool.{cases_Bool, both_ways}
use Rattle.rcp_base.specs.declared.kinds.Kind.TheVariants as kind
use Rattle.rcp_base.specs.declared.kinds.Kind.{Kind}
use Rattle.rcp_base.specs.declared.kinds.FeedWhy.{FeedWhy}
use Rattle.rcp_base.specs.declared.kinds.FeedWhy.TheVariants as why
use Rattle.rcp_base.specs.Octets.{AreOctets}
use Rattle.rcp_base.specs.Feed.{FeedState, FeedRecord, Feed, IsRecord, is_finish, is_roster, has_length, before_feeds, record_octets, fault_of, fault_in_front, front, after, feed_of}
use Rattle.rcp_base.specs.Roster.{FaultyLine, RosterOf, roster_of}
use Rattle.feed_meaning.specs.WholeFeeds.{roster_fault, FeedEnd, Finished, FaultyRecord, FaultyRoster, end_of, read_of, with_roster, meaning_of, meaning_by, feed_meaning}
use Rattle.feed_format.proofs.FrontLemmas.{passes_first}
use Rattle.feed_format.proofs.AgainLemmas.{lawful_parts, front_again}
use Rattle.feed_laws.specs.FeedReading.{state_after, AreFaultless, HaveNoFinish, EndInFinish, EndBy}
use Rattle.feed_laws.specs.WholeReading.{fault_with_roster, EndsWith, IsMeaningOf}
use Rattle.feed_laws.proofs.ReadingLemmas.{feed_is_read, front_fault, end_of_none, end_at_first}

-- ---- the records after the roster's

-- how they end, where the first of them has a number
abbrev EndsFrom : RosterOf → FeedState → ℕ → List FeedRecord → List ℕ → List ℕ → FeedEnd → Type 0
EndsFrom roster state start items rest left Finished = EndInFinish items × (left ≡ rest)
EndsFrom roster state start items rest left (FaultyRecord number why) =
    HaveNoFinish items × (number ≡ start + length items) × (fault_with_roster roster state rest ≡ Some why)
EndsFrom roster state start items rest left (FaultyRoster number fault) = ⊥

-- the records that are acted on, and what follows them
record Acts (roster : RosterOf) (state : FeedState) (start : ℕ) (octets left : List ℕ) (items : List FeedRecord) (end : FeedEnd) : Type 0 where
  rest : List ℕ
  whole : octets ≡ flat_map record_octets items ++ rest
  each : AreFaultless state items
  known : AllByRecursion (λ item. roster_fault roster item ≡ None) items
  ends : EndsFrom roster (state_after state items) start items rest left end

-- after a record that isn't Z
end_later : (state : FeedState) (item : FeedRecord) (items : List FeedRecord) (left : List ℕ) (fault : Option FeedWhy) → is_finish item.kind ≡ false
    → EndBy state (item ∷ items) left fault → EndBy (after state item) items left fault
end_later state item items left (Some why) other end = (end.0.1, end.1)
end_later state item items left None other end = elim (end_at_first item items end.before end.last end.whole end.finish end.others) [
  | inl (none, finish) ↦ absurd (both_ways (is_finish item.kind) other finish)
  | inr (still, later) ↦ later
]

ends_more : (roster : RosterOf) (state : FeedState) (start : ℕ) (item : FeedRecord) (items : List FeedRecord) (rest left : List ℕ) (end : FeedEnd) → is_finish item.kind ≡ false
    → EndsFrom roster state (start + 1) items rest left end → EndsFrom roster state start (item ∷ items) rest left end
ends_more roster state start item items rest left Finished other ends = (
  record { before = item ∷ ends.0.before; last = ends.0.last; whole = ap (λ (l : List FeedRecord). item ∷ l) ends.0.whole; finish = ends.0.finish; others = (other, ends.0.others) },
  ends.1,
)
ends_more roster state start item items rest left (FaultyRecord number why) other ends = ((other, ends.0), omega (arith, ends.1), ends.2)
ends_more roster state start item items rest left (FaultyRoster number fault) other ends = absurd ends

abbrev fault_at : RosterOf → Result (FeedRecord × List ℕ) FeedWhy → Option FeedWhy
fault_at roster found = elim found [ Ok item ↦ roster_fault roster item.0 | Err why ↦ Some why ]

fault_of_frame : (roster : RosterOf) (state : FeedState) (octets : List ℕ) (why : FeedWhy) → fault_in_front state octets ≡ Some why → fault_with_roster roster state octets ≡ Some why
fault_of_frame roster state octets why e = ap (fault_at roster) (front_fault state octets why e)

module _ (roster : RosterOf) (left : List ℕ) (fault : Option FeedWhy) where
  abbrev f : FeedRecord → Option FeedWhy
  f item = roster_fault roster item

  abbrev ActsOn : FeedState → ℕ → List FeedRecord → Type 0
  ActsOn state start items = Acts roster state start (flat_map record_octets items ++ left) left (read_of f items) (end_of f start items fault)

  -- what is read of a record and those after it, and how they end, where the roster makes it faulty or doesn't
  abbrev reads_by : FeedRecord → List FeedRecord → Option FeedWhy → List FeedRecord
  reads_by item items found = cond (is_some found) [] (item ∷ read_of f items)

  abbrev ends_by : ℕ → List FeedRecord → Option FeedWhy → FeedEnd
  ends_by start items found = elim found [ Some why ↦ FaultyRecord start why | None ↦ end_of f (start + 1) items fault ]

  acts_found : (state : FeedState) (start : ℕ) (item : FeedRecord) (items : List FeedRecord) (found : Option FeedWhy) → roster_fault roster item ≡ found
      → Acts roster state start (flat_map record_octets (item ∷ items) ++ left) left (reads_by item items found) (ends_by start items found)
      → ActsOn state start (item ∷ items)
  acts_found state start item items found is acts =
      subst (λ (o : Option FeedWhy). Acts roster state start (flat_map record_octets (item ∷ items) ++ left) left (reads_by item items o) (ends_by start items o)) (sym is) acts

  -- the roster makes this record a faulty one
  acts_faulty : (state : FeedState) (start : ℕ) (item : FeedRecord) (items : List FeedRecord) (why : FeedWhy) → IsRecord item → fault_of state item ≡ None → roster_fault roster item ≡ Some why
      → ActsOn state start (item ∷ items)
  acts_faulty state start item items why form faultless faulty =
      let more = flat_map record_octets items ++ left in
      let in_front : front state (flat_map record_octets (item ∷ items) ++ left) ≡ Ok (item, more) =
      ap (front state) (append_assoc (record_octets item) (flat_map record_octets items) left) ∙ front_again state item more form faultless in
      acts_found state start item items (Some why) faulty
      (record { rest = flat_map record_octets (item ∷ items) ++ left; whole = refl; each = tt; known = tt; ends = (tt, omega arith, ap (fault_at roster) in_front ∙ faulty) })

  acts_more : (state : FeedState) (start : ℕ) (item : FeedRecord) (items : List FeedRecord) → IsRecord item → fault_of state item ≡ None → roster_fault roster item ≡ None → is_finish item.kind ≡ false
      → ActsOn (after state item) (start + 1) items → ActsOn state start (item ∷ items)
  acts_more state start item items form faultless known other later =
      let read = read_of f items in
      acts_found state start item items None known (record {
        rest = later.rest;
        whole =
            append_assoc (record_octets item) (flat_map record_octets items) left
            ∙ ap (λ (xs : List ℕ). record_octets item ++ xs) later.whole
            ∙ sym (append_assoc (record_octets item) (flat_map record_octets read) later.rest);
        each = (form, faultless, later.each);
        known = (known, later.known);
        ends = ends_more roster (state_after (after state item) read) start item read later.rest left (end_of f (start + 1) items fault) other later.ends;
      })

-- the last record is Z
acts_last : (roster : RosterOf) (state : FeedState) (start : ℕ) (item : FeedRecord) (left : List ℕ) → IsRecord item → fault_of state item ≡ None → roster_fault roster item ≡ None → is_finish item.kind ≡ true
    → ActsOn roster left None state start (item ∷ [])
acts_last roster state start item left form faultless known finish =
    acts_found roster left None state start item [] None known (record {
      rest = left;
      whole = refl;
      each = (form, faultless, tt);
      known = (known, tt);
      ends = (record { before = []; last = item; whole = refl; finish = finish; others = tt }, refl);
    })

-- it is Z, and so the last
acts_finish : (roster : RosterOf) (item : FeedRecord) (items : List FeedRecord) (state : FeedState) (start : ℕ) (left : List ℕ) (fault : Option FeedWhy)
    → AreFaultless state (item ∷ items) → EndBy state (item ∷ items) left fault → roster_fault roster item ≡ None → is_finish item.kind ≡ true → ActsOn roster left fault state start (item ∷ items)
acts_finish roster item items state start left (Some why) each end is finish = absurd (both_ways (is_finish item.kind) end.0.0 finish)
acts_finish roster item items state start left None each end is finish = elim (end_at_first item items end.before end.last end.whole end.finish end.others) [
  | inl (none, last) ↦ subst (λ (l : List FeedRecord). ActsOn roster left None state start (item ∷ l)) (sym none) (acts_last roster state start item left each.0 each.1 is finish)
  | inr (other, later) ↦ absurd (both_ways (is_finish item.kind) other finish)
]

-- the first of them, where the others are known
acts_by : (roster : RosterOf) (item : FeedRecord) (items : List FeedRecord) (state : FeedState) (start : ℕ) (left : List ℕ) (fault : Option FeedWhy)
    → AreFaultless state (item ∷ items) → EndBy state (item ∷ items) left fault → (found : Option FeedWhy) → roster_fault roster item ≡ found
    → (EndBy (after state item) items left fault → ActsOn roster left fault (after state item) (start + 1) items) → ActsOn roster left fault state start (item ∷ items)
acts_by roster item items state start left fault each end (Some why) is later = acts_faulty roster left fault state start item items why each.0 each.1 is
acts_by roster item items state start left fault each end None is later =
    elim (cases_Bool (is_finish item.kind)) [
      | inr other ↦ acts_more roster left fault state start item items each.0 each.1 is other (later (end_later state item items left fault other end))
      | inl finish ↦ acts_finish roster item items state start left fault each end is finish
    ]

acts : (roster : RosterOf) (items : List FeedRecord) (state : FeedState) (start : ℕ) (left : List ℕ) (fault : Option FeedWhy) → AreFaultless state items → EndBy state items left fault
    → ActsOn roster left fault state start items
acts roster [] state start left None each end = absurd (end_of_none end)
acts roster [] state start left (Some why) each end =
    record { rest = left; whole = refl; each = tt; known = tt; ends = (tt, omega arith, fault_of_frame roster state left why end.1) }
acts roster (item ∷ items) state start left fault each end =
    acts_by roster item items state start left fault each end (roster_fault roster item) refl
    (λ later. acts roster items (after state item) (start + 1) left fault each.2 later)

-- ---- the whole

no_finish : (k : Kind) → (not false && not (is_roster k)) ≡ false → is_finish k ≡ false
no_finish kind.Finish e = absurd cc
no_finish k e = refl

-- the first record of a feed has the roster
first_is_roster : (item : FeedRecord) → fault_of before_feeds item ≡ None → is_finish item.kind ≡ false
first_is_roster item faultless =
    let len = length item.body in
    let header = (lawful_parts before_feeds item faultless).header in
    no_finish item.kind (passes_first (not false && not (is_roster item.kind)) why.NoRoster ((false && is_roster item.kind, why.Twice) ∷ (ltb 65536 len || not (has_length item.kind len), why.Length) ∷ []) header).0

ends_with : (roster : RosterOf) (state : FeedState) (items : List FeedRecord) (rest left : List ℕ) (end : FeedEnd) → EndsFrom roster state 2 items rest left end → EndsWith roster state items rest left end
ends_with roster state items rest left Finished ends = ends
ends_with roster state items rest left (FaultyRecord number why) ends = (ends.0, omega (arith, ends.1), ends.2)
ends_with roster state items rest left (FaultyRoster number fault) ends = absurd ends

module _ (octets : List ℕ) (first : FeedRecord) (items : List FeedRecord) (state : FeedState) (fault : Option FeedWhy) (left : List ℕ)
    (whole : octets ≡ flat_map record_octets (first ∷ items) ++ left) (each : AreFaultless before_feeds (first ∷ items)) (end : EndBy before_feeds (first ∷ items) left fault) where
  abbrev feed : Feed
  feed = record { items = first ∷ items; state = state; fault = fault; left = left }

  parts : octets ≡ record_octets first ++ (flat_map record_octets items ++ left)
  parts = whole ∙ append_assoc (record_octets first) (flat_map record_octets items) left

  by_roster : (found : Result RosterOf FaultyLine) → roster_of first.body ≡ found → IsMeaningOf octets (with_roster roster_fault feed 1 items found) (with_roster roster_fault feed 1 items found).roster
  by_roster (Err fault) is = (refl, (first, flat_map record_octets items ++ left, refl, ap (front before_feeds) parts ∙ front_again before_feeds first (flat_map record_octets items ++ left) each.0 each.1, is))
  by_roster (Ok roster) is =
      let other = first_is_roster first each.1 in
      let found = acts roster items (after before_feeds first) 2 left fault each.2 (end_later before_feeds first items left fault other end) in
      let read = read_of (roster_fault roster) items in
      record {
        first = first;
        rest = found.rest;
        whole = parts ∙ ap (λ (xs : List ℕ). record_octets first ++ xs) found.whole;
        each = (each.0, each.1, found.each);
        text = is;
        known = found.known;
        ends = ends_with roster (state_after (after before_feeds first) read) read found.rest left (end_of (roster_fault roster) 2 items fault) found.ends;
      }

by_items : (octets : List ℕ) (items : List FeedRecord) (state : FeedState) (fault : Option FeedWhy) (left : List ℕ) → octets ≡ flat_map record_octets items ++ left
    → AreFaultless before_feeds items → EndBy before_feeds items left fault
    → (let feed : Feed = record { items = items; state = state; fault = fault; left = left } in IsMeaningOf octets (meaning_of roster_fault 1 feed items) (meaning_of roster_fault 1 feed items).roster)
by_items octets [] state None left whole each end = absurd (end_of_none end)
by_items octets [] state (Some why) left whole each end = (refl, (refl, ap (fault_in_front before_feeds) whole ∙ end.1))
by_items octets (first ∷ items) state fault left whole each end = by_roster octets first items state fault left whole each end (roster_of first.body) refl

pub meaning_is : (octets : List ℕ) → AreOctets octets → IsMeaningOf octets (feed_meaning octets) (feed_meaning octets).roster
unfolding meaning_by
meaning_is octets all =
    let feed = feed_of before_feeds octets in
    let is = feed_is_read before_feeds octets all in
    by_items octets feed.items feed.state feed.fault feed.left is.whole is.each is.end
