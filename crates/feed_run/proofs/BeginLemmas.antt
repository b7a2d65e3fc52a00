-- The first record, and what a whole feed then comes to.
use Rattle.std.proofs.Common.{◌≡◌, ℕ, ◌+◌, true, false, not, ◌&&◌, ◌||◌, ltb, List, [], ◌∷◌, ◌++◌, length, Option, Some, None, Result, Ok, Err, refl, sym, ap, subst, ◌∙◌, inl, inr, append-nil, arith}
use Rattle.std.proofs.lemmas.Bool.{not-false, both_ways}
use Rattle.outside.specs.Told.{in_front, behind-nil}
use Rattle.rcp_base.specs.declared.kinds.Kind.{Kind}
use Rattle.rcp_base.specs.declared.kinds.Kind.TheVariants as kind
use Rattle.rcp_base.specs.declared.kinds.FeedWhy.{FeedWhy}
use Rattle.rcp_base.specs.declared.kinds.FeedWhy.TheVariants as why
use Rattle.rcp_base.specs.declared.kinds.RosterWhy.{RosterWhy}
use Rattle.rcp_base.specs.Feed.{FeedState, FeedRecord, Feed, IsRecord, begins, is_roster, is_finish, is_time, has_length, length_at, frame_size, record_octets, fault_of, before_next_feed, after, with_first, feed_of}
use Rattle.rcp_base.specs.Roster.{FaultyLine, RosterOf, roster_of}
use Rattle.feed_meaning.specs.Platform.{fresh}
use Rattle.feed_meaning.specs.WholeFeeds.{FeedMeaning, FaultyRecord, roster_fault, with_roster, meaning_of}
use Rattle.feed_format.specs.Reading.{Refuses, TakesLess, TakesPart, WantsMemory, AtBody, AtConnection}
use Rattle.feed_format.specs.declared.reader.FeedRefusal.{FeedRefusal}
use Rattle.feed_format.specs.declared.reader.FeedRefusal.TheVariants as refusal
use Rattle.feed_format.specs.declared.status.Status.{Status}
use Rattle.feed_format.specs.declared.status.Status.TheVariants.{Done, NoMemory}
use Rattle.feed_format.specs.declared.status.Status.TheVariants as status
use Rattle.feed_format.proofs.FrontLemmas.{passes_first, frame_size_front}
use Rattle.feed_format.proofs.AgainLemmas.{lawful_parts}
use Rattle.feed_run.specs.Statuses.{status_of, status_of_roster}
use Rattle.roster.specs.Rosters.{Reads}
use Rattle.roster.specs.declared.refusal.RosterRefusal.{RosterRefusal}
use Rattle.roster.specs.declared.refusal.RosterRefusal.TheVariants as refusals
use Rattle.feed_run.specs.Written.{Takes, output_with}
use Rattle.feed_run.specs.NextFeeds.{meaning_after, items_after, end_after, left_after}
use Rattle.feed_run.specs.Going.{AreRead, AreReadWith, AnswersAfter, AnswersFrom, items_from, end_from, outputs_from}
use Rattle.feed_run.proofs.FeedLemmas.{no_front, feed-fault, feed-short, feed-empty, again-more, told_front}
use Rattle.feed_run.proofs.AnswerLemmas.{answers_on}
use Rattle.feed_run.proofs.StepLemmas.{none_read, outputs-nil, wrote_none, framed_size}

-- ---- no records

none_known : (roster : Option RosterOf) → AreReadWith roster []
none_known None = refl
none_known (Some roster) = none_read (fresh roster) 0

no_output : (roster : Option RosterOf) → output_with roster [] ≡ []
no_output None = refl
no_output (Some roster) = outputs-nil (fresh roster)

-- ---- kinds

-- a first record begins no connection
no_connection : (k : Kind) → is_roster k ≡ true → begins k ≡ false
no_connection kind.Roster e = refl
no_connection kind.Ready e = absurd cc
no_connection kind.Raw e = absurd cc
no_connection kind.Octets e = absurd cc
no_connection kind.Closed e = absurd cc
no_connection kind.Links e = absurd cc
no_connection kind.Time e = absurd cc
no_connection kind.Slice e = absurd cc
no_connection kind.Drain e = absurd cc
no_connection kind.Finish e = absurd cc

no_finish : (k : Kind) → is_roster k ≡ true → is_finish k ≡ false
no_finish kind.Roster e = refl
no_finish kind.Ready e = absurd cc
no_finish kind.Raw e = absurd cc
no_finish kind.Octets e = absurd cc
no_finish kind.Closed e = absurd cc
no_finish kind.Links e = absurd cc
no_finish kind.Time e = absurd cc
no_finish kind.Slice e = absurd cc
no_finish kind.Drain e = absurd cc
no_finish kind.Finish e = absurd cc

no_time : (k : Kind) → is_roster k ≡ true → is_time k ≡ false
no_time kind.Roster e = refl
no_time kind.Ready e = absurd cc
no_time kind.Raw e = absurd cc
no_time kind.Octets e = absurd cc
no_time kind.Closed e = absurd cc
no_time kind.Links e = absurd cc
no_time kind.Time e = absurd cc
no_time kind.Slice e = absurd cc
no_time kind.Drain e = absurd cc
no_time kind.Finish e = absurd cc

-- ---- a feed that follows others

module _ (earlier : FeedState) where
  -- what comes to no record
  none_in : (octets : List ℕ) → (feed_of (before_next_feed earlier) octets).items ≡ [] → [] ≡ items_after earlier octets
  none_in octets none = ap (λ (items : List FeedRecord). (meaning_of roster_fault (earlier.number + 1) (feed_of (before_next_feed earlier) octets) items).items) (sym none)

  fault_in : (octets : List ℕ) (fault : FeedWhy) → feed_of (before_next_feed earlier) octets ≡ record { items = []; state = before_next_feed earlier; fault = Some fault; left = octets } → end_after earlier octets ≡ FaultyRecord (earlier.number + 1) fault
  fault_in octets fault is = ap (λ (f : Feed). (meaning_of roster_fault (earlier.number + 1) f f.items).end) is

  -- nothing was written, as there is no whole record after the roster
  module _ (octets : List ℕ) (now taken : Option (List ℕ)) (front : List ℕ) (takes : Takes octets front now) where
    pub wants-begin : [] ≡ items_after earlier front → AnswersAfter earlier NoMemory octets now taken taken
    wants-begin answered = record {
      reads = record {
        ended = tt;
        through = λ is. absurd cc;
        stops = tt;
        cut = λ is. absurd cc;
      };
      wrote = record {
        taken = front;
        takes = takes;
        items = [];
        answered = inl answered;
        part = [];
        partly = refl;
        wrote = wrote_none (items_after earlier) (output_with (meaning_after earlier octets).roster) taken (no_output (meaning_after earlier octets).roster);
      };
      known = none_known (meaning_after earlier octets).roster;
    }

  -- ---- no record was given

  -- the first record is a roster
  first_is : (item : FeedRecord) → fault_of (before_next_feed earlier) item ≡ None → is_roster item.kind ≡ true
  first_is item valid =
      not-false (is_roster item.kind) (passes_first (not (is_roster item.kind)) why.NoRoster
      (((before_next_feed earlier).started && is_roster item.kind, why.Twice) ∷ (ltb 65536 (length item.body) || not (has_length item.kind (length item.body)), why.Length) ∷ []) (lawful_parts (before_next_feed earlier) item valid).header).0

  -- and not the last one
  pub first_further : (item : FeedRecord) → fault_of (before_next_feed earlier) item ≡ None → is_finish item.kind ≡ false
  first_further item valid = no_finish item.kind (first_is item valid)

  pub first-refused : (refused : FeedRefusal) (octets : List ℕ) (now taken : Option (List ℕ)) → Refuses (before_next_feed earlier) octets refused → TakesPart (Some octets) now
      → (refused ≡ refusal.Read → TakesLess (before_next_feed earlier) (Some octets) now) → (refused ≡ refusal.NoMemory → WantsMemory (before_next_feed earlier) (Some octets) now)
      → AnswersAfter earlier (status_of refused) octets now taken taken
  first-refused (refusal.Feed number why) octets now taken h part less memory =
      let feed_is = feed-fault (before_next_feed earlier) octets why (no_front (before_next_feed earlier) octets why h.1) in
      let front = told_front part.taken octets now part.given in
      let takes : Takes octets part.taken now = record { rest = front.0; parts = front.2; left = front.1 } in
      record {
        reads = record {
          ended = fault_in octets why feed_is ∙ ap (λ (n : ℕ). FaultyRecord n why) (sym h.0);
          through = λ is. absurd cc;
          stops = record { items = []; last = part.taken; takes = takes; form = tt; count = omega (arith, h.0); within = part.within };
          cut = λ is. absurd cc;
        };
        wrote = record {
          taken = part.taken;
          takes = takes;
          items = [];
          answered = none_in octets (ap (λ (f : Feed). f.items) feed_is);
          part = [];
          partly = refl;
          wrote = wrote_none (items_after earlier) (output_with (meaning_after earlier octets).roster) taken (no_output (meaning_after earlier octets).roster);
        };
        known = none_known (meaning_after earlier octets).roster;
      }
  first-refused refusal.Read octets now taken h part less memory =
      let part = less refl in
      let front = told_front part.taken octets now part.given in
      let takes : Takes octets part.taken now = record { rest = front.0; parts = front.2; left = front.1 } in
      let feed_is = feed-fault (before_next_feed earlier) part.taken why.Truncated (no_front (before_next_feed earlier) part.taken why.Truncated part.cut) in
      record {
        reads = record {
          ended = tt;
          through = λ is. absurd cc;
          stops = tt;
          cut = λ is. record { taken = part.taken; takes = takes; number = earlier.number + 1; cut = fault_in part.taken why.Truncated feed_is };
        };
        wrote = record {
          taken = part.taken;
          takes = takes;
          items = [];
          answered = none_in part.taken (ap (λ (f : Feed). f.items) feed_is);
          part = [];
          partly = refl;
          wrote = wrote_none (items_after earlier) (output_with (meaning_after earlier octets).roster) taken (no_output (meaning_after earlier octets).roster);
        };
        known = none_known (meaning_after earlier octets).roster;
      }
  first-refused refusal.NoMemory octets now taken h part less memory = elim (memory refl) [
    | inl body ↦ at_body body
    | inr connection ↦ at_connection connection
  ] where
    at_body : AtBody (before_next_feed earlier) (Some octets) now → AnswersAfter earlier NoMemory octets now taken taken
    at_body b =
        let front = told_front b.header octets now b.given in
        let size : frame_size b.header ≡ 9 + length_at b.header = ap frame_size (sym (append-nil b.header)) ∙ frame_size_front b.header [] b.nine in
        wants-begin octets now taken b.header (record { rest = front.0; parts = front.2; left = front.1 })
        (none_in b.header (feed-short (before_next_feed earlier) b.header (omega (arith, size, b.nine, b.body))))

    at_connection : AtConnection (before_next_feed earlier) (Some octets) now → AnswersAfter earlier NoMemory octets now taken taken
    at_connection c = let other = no_connection c.item.kind (first_is c.item c.faultless) in let is = c.begins in absurd (both_ways (begins c.item.kind) other is)

  -- ---- a record was given

  module _ (octets : List ℕ) (item : FeedRecord) (left now : Option (List ℕ)) (told : left ≡ Some octets) (given : left ≡ in_front (record_octets item) now)
      (form : IsRecord item) (valid : fault_of (before_next_feed earlier) item ≡ None) where
    front : (rest : List ℕ) × (now ≡ Some rest) × (octets ≡ record_octets item ++ rest)
    front = told_front (record_octets item) octets now (sym told ∙ given)

    takes : Takes octets (record_octets item) now
    takes = record { rest = front.0; parts = front.2; left = front.1 }

    meaning-more : (more : List ℕ) → meaning_after earlier (record_octets item ++ more)
        ≡ with_roster roster_fault (with_first item (feed_of (after (before_next_feed earlier) item) more)) (earlier.number + 1) (feed_of (after (before_next_feed earlier) item) more).items (roster_of item.body)
    meaning-more more = ap (λ (f : Feed). meaning_of roster_fault (earlier.number + 1) f f.items) (again-more (before_next_feed earlier) item form valid more (no_finish item.kind (first_is item valid)))

    none_with : (found : Result RosterOf FaultyLine) (feed : Feed) (items : List FeedRecord) → items ≡ [] → [] ≡ (with_roster roster_fault feed (earlier.number + 1) items found).items
    none_with (Ok roster) feed items none = rw none refl
    none_with (Err fault) feed items none = refl

    -- no record follows the first one
    alone : [] ≡ items_after earlier (record_octets item)
    alone =
        none_with (roster_of item.body) (with_first item (feed_of (after (before_next_feed earlier) item) [])) (feed_of (after (before_next_feed earlier) item) []).items (feed-empty (after (before_next_feed earlier) item))
        ∙ ap (λ (m : FeedMeaning). m.items) (sym (meaning-more [])) ∙ ap (items_after earlier) (append-nil (record_octets item))

    pub no_memory-ends : (taken : Option (List ℕ)) → AnswersAfter earlier NoMemory octets now taken taken
    no_memory-ends taken = wants-begin octets now taken (record_octets item) takes alone

    pub faulty_roster-ends : (line : ℕ) (why : RosterWhy) (taken : Option (List ℕ)) → roster_of item.body ≡ Err (record { line = line; why = why }) → AnswersAfter earlier (status.Roster (earlier.number + 1) line why) octets now taken taken
    faulty_roster-ends line why taken faulty =
        let meaning_is = ap (meaning_after earlier) front.2 ∙ meaning-more front.0
        ∙ ap (with_roster roster_fault (with_first item (feed_of (after (before_next_feed earlier) item) front.0)) (earlier.number + 1) (feed_of (after (before_next_feed earlier) item) front.0).items) faulty in
        record {
          reads = record {
            ended = ap (λ (m : FeedMeaning). m.end) meaning_is;
            through = λ is. absurd cc;
            stops = record { items = []; last = record_octets item; takes = takes; form = tt; count = omega arith; within = framed_size item form };
            cut = λ is. absurd cc;
          };
          wrote = record {
            taken = record_octets item;
            takes = takes;
            items = [];
            answered = ap (λ (m : FeedMeaning). m.items) (sym meaning_is);
            part = [];
            partly = refl;
            wrote = wrote_none (items_after earlier) (output_with (meaning_after earlier octets).roster) taken (no_output (meaning_after earlier octets).roster);
          };
          known = none_known (meaning_after earlier octets).roster;
        }

    pub roster-refused : (refused : RosterRefusal) (taken : Option (List ℕ)) → Reads item.body (Err refused) → AnswersAfter earlier (status_of_roster (earlier.number + 1) refused) octets now taken taken
    roster-refused (refusals.Fault line why) taken h = faulty_roster-ends line why taken h
    roster-refused refusals.NoMemory taken h = no_memory-ends taken

    module _ (roster : RosterOf) (is_read : roster_of item.body ≡ Ok roster) where
      meaning-read : (more : List ℕ) → meaning_after earlier (record_octets item ++ more)
          ≡ with_roster roster_fault (with_first item (feed_of (after (before_next_feed earlier) item) more)) (earlier.number + 1) (feed_of (after (before_next_feed earlier) item) more).items (Ok roster)
      meaning-read more = meaning-more more ∙ ap (with_roster roster_fault (with_first item (feed_of (after (before_next_feed earlier) item) more)) (earlier.number + 1) (feed_of (after (before_next_feed earlier) item) more).items) is_read

      roster_is : (meaning_after earlier octets).roster ≡ Some roster
      roster_is = ap (λ (o : List ℕ). (meaning_after earlier o).roster) front.2 ∙ ap (λ (m : FeedMeaning). m.roster) (meaning-read front.0)

      -- no connection was opened
      no_last : (after (before_next_feed earlier) item).last ≡ 0
      no_last = let other = no_connection item.kind (first_is item valid) in rw other refl

      known_with : (found : Option RosterOf) → found ≡ Some roster → (items : List FeedRecord) → AreRead (fresh roster) (after (before_next_feed earlier) item).last items → AreReadWith found items
      known_with found is items h = rw is (subst (λ (last : ℕ). AreRead (fresh roster) last items) no_last h)

      output_is : (found : Option RosterOf) → found ≡ Some roster → (items : List FeedRecord) → output_with found items ≡ outputs_from (fresh roster) items
      output_is found is items = rw is refl

      pub begins-from : (rest : List ℕ) × (now ≡ Some rest) × ((answer : Status) (later before final : Option (List ℕ)) → AnswersFrom (fresh roster) (after (before_next_feed earlier) item) answer rest later before final → AnswersAfter earlier answer octets later before final)
      begins-from = (
        front.0,
        front.1,
        λ answer later before final h.
            answers_on (items_after earlier) (items_from (fresh roster) (after (before_next_feed earlier) item))
            (end_after earlier) (end_from (fresh roster) (after (before_next_feed earlier) item))
            (left_after earlier) (λ o. (feed_of (after (before_next_feed earlier) item) o).left)
            (output_with (meaning_after earlier octets).roster) (outputs_from (fresh roster)) (AreReadWith (meaning_after earlier octets).roster) (AreRead (fresh roster) (after (before_next_feed earlier) item).last)
            earlier.number item form [] []
            (λ more. ap (λ (m : FeedMeaning). m.items) (meaning-read more)) (λ more. ap (λ (m : FeedMeaning). m.end) (meaning-read more)) (λ more. ap (λ (m : FeedMeaning). m.left) (meaning-read more))
            (output_is (meaning_after earlier octets).roster roster_is) (known_with (meaning_after earlier octets).roster roster_is)
            octets front.0 front.2 before before (sym (behind-nil before)) answer later final h,
      )

  -- what the reader notes of the first record
  pub noted_first : (item : FeedRecord) → fault_of (before_next_feed earlier) item ≡ None → ((after (before_next_feed earlier) item).closed ≡ false) × (0 ≡ (after (before_next_feed earlier) item).moment)
  noted_first item valid =
      let time = no_time item.kind (first_is item valid) in
      (no_finish item.kind (first_is item valid), rw time refl)
