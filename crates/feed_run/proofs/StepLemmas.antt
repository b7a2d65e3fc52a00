-- The next record of a feed: where there is none, where it ends the run, and where the feed goes on.
use Rattle.std.proofs.Common.{◌≡◌, ℕ, ◌+◌, ◌≤◌, true, false, List, [], ◌∷◌, ◌++◌, length, take, drop, Option, Some, None, refl, sym, ap, subst, ◌∙◌, ◌⊎◌, inl, inr, append-nil, arith}
use Rattle.std.specs.Prelude.{is_some}
use Rattle.std.specs.List.{flat_map, AllByRecursion}
use Rattle.std.proofs.lemmas.Bool.{cases_Bool}
use Rattle.std.proofs.lemmas.Grind.{flat_map-append}
use Rattle.std.proofs.lemmas.List.{take-append-drop, length-append}
use Rattle.outside.specs.Told.{in_front, behind, behind-nil}
use Rattle.rcp_base.specs.declared.kinds.Kind.{Kind}
use Rattle.rcp_base.specs.declared.kinds.Kind.TheVariants as kind
use Rattle.rcp_base.specs.declared.kinds.FeedWhy.{FeedWhy}
use Rattle.rcp_base.specs.declared.kinds.FeedWhy.TheVariants as why
use Rattle.rcp_base.specs.Feed.{FeedState, FeedRecord, Feed, OutRecord, IsRecord, begins, is_finish, length_at, frame_size, record_octets, out_octets, fault_of, after, feed_of}
use Rattle.rcp_base.specs.Roster.{RosterOf}
use Rattle.feed_meaning.specs.Platform.{Platform}
use Rattle.feed_meaning.specs.Runs.{act, all_output}
use Rattle.feed_meaning.specs.WholeFeeds.{FaultyRecord, roster_fault, end_of, read_of}
use Rattle.feed_meaning.proofs.HeadlineLemmas.{act-roster}
use Rattle.feed_format.specs.Reading.{Refuses, TakesLess, TakesPart, WantsMemory, AtBody, AtConnection}
use Rattle.feed_format.specs.Writing.{WritesLess}
use Rattle.feed_format.specs.declared.reader.FeedRefusal.{FeedRefusal}
use Rattle.feed_format.specs.declared.reader.FeedRefusal.TheVariants as refusal
use Rattle.feed_format.specs.declared.status.Status.{Status}
use Rattle.feed_format.specs.declared.status.Status.TheVariants.{Done, Read, Write, NoMemory}
use Rattle.feed_format.specs.declared.status.Status.TheVariants as status
use Rattle.feed_format.proofs.AgainLemmas.{lawful_parts}
use Rattle.feed_format.proofs.FrontLemmas.{frame_size_front, header_octets}
use Rattle.std.proofs.lemmas.Nat.{from_be_bytes-to_be_bytes_4}
use Rattle.feed_run.specs.Frames.{IsFramed}
use Rattle.feed_run.specs.Statuses.{status_of}
use Rattle.feed_run.specs.Written.{Takes, IsAllButLast}
use Rattle.feed_run.specs.Going.{AreRead, AnswersFrom, items_from, end_from, outputs_from}
use Rattle.feed_run.proofs.FeedLemmas.{no_front, feed-fault, feed-short, feed-empty, again-last, again-more, again-first, told_front, new_number}
use Rattle.feed_run.proofs.WrittenLemmas.{some_missing}
use Rattle.feed_run.proofs.AnswerLemmas.{all_both, answers_on}

-- ---- what is put out

-- the octets of what is put out for a record
abbrev pub put_out : Platform → FeedRecord → List ℕ
put_out platform item = flat_map out_octets (act platform item).out

pub outputs-nil : (platform : Platform) → outputs_from platform [] ≡ []
unfolding all_output
outputs-nil platform = refl

pub outputs-cons : (platform : Platform) (item : FeedRecord) (items : List FeedRecord)
    → outputs_from platform (item ∷ items) ≡ put_out platform item ++ outputs_from (act platform item).after items
unfolding all_output
outputs-cons platform item items = flat_map-append out_octets (act platform item).out (all_output (act platform item).after items)

output-finish : (platform : Platform) (k : Kind) (source : ℕ) (body : List ℕ) → is_finish k ≡ true → (act platform (record { kind = k; source = source; body = body })).out ≡ []
unfolding act
output-finish platform kind.Finish source body e = refl
output-finish platform kind.Roster source body e = absurd cc
output-finish platform kind.Ready source body e = absurd cc
output-finish platform kind.Raw source body e = absurd cc
output-finish platform kind.Octets source body e = absurd cc
output-finish platform kind.Closed source body e = absurd cc
output-finish platform kind.Links source body e = absurd cc
output-finish platform kind.Time source body e = absurd cc
output-finish platform kind.Slice source body e = absurd cc
output-finish platform kind.Drain source body e = absurd cc

-- ---- what is known of records

pub none_read : (platform : Platform) (last : ℕ) → AreRead platform last []
unfolding all_output
none_read platform last = record { form = tt; rising = tt; framed = tt }

more_read : (platform : Platform) (state : FeedState) (item : FeedRecord) → IsRecord item → fault_of state item ≡ None → AllByRecursion IsFramed (act platform item).out
    → (items : List FeedRecord) → AreRead (act platform item).after (after state item).last items → AreRead platform state.last (item ∷ items)
unfolding all_output
more_read platform state item form valid framed items h = record {
  form = (form, h.form);
  rising = (new_number state item (lawful_parts state item valid).body, h.rising);
  framed = all_both IsFramed (act platform item).out (all_output (act platform item).after items) framed h.framed;
}

-- ---- how a feed ends

module _ (roster : RosterOf) (number : ℕ) (item : FeedRecord) (items : List FeedRecord) (fault : Option FeedWhy) where
  end-faulty : (why : FeedWhy) → roster_fault roster item ≡ Some why → end_of (roster_fault roster) number (item ∷ items) fault ≡ FaultyRecord number why
  end-faulty why e = rw (end_of, e) refl

  end-more : roster_fault roster item ≡ None → end_of (roster_fault roster) number (item ∷ items) fault ≡ end_of (roster_fault roster) (number + 1) items fault
  end-more e = rw (end_of, e) refl

-- ---- nothing is written

-- the first records are none
pub wrote_none : (items_of : List ℕ → List FeedRecord) (output : List FeedRecord → List ℕ) (taken : Option (List ℕ)) → output [] ≡ [] → taken ≡ behind taken (output [] ++ [])
wrote_none items_of output taken none = sym (rw none (behind-nil taken))

-- ---- no record was given

module _ (platform : Platform) (state : FeedState) where
  none_from : (octets : List ℕ) → (feed_of state octets).items ≡ [] → [] ≡ items_from platform state octets
  none_from octets none = ap (read_of (roster_fault platform.roster)) (sym none)

  fault_from : (octets : List ℕ) (fault : FeedWhy) → feed_of state octets ≡ record { items = []; state = state; fault = Some fault; left = octets } → end_from platform state octets ≡ FaultyRecord (state.number + 1) fault
  fault_from octets fault is = ap (λ (f : Feed). end_of (roster_fault platform.roster) (state.number + 1) f.items f.fault) is

  -- a record that begins a connection is the only one of its octets
  one_or_none : (item : FeedRecord) → IsRecord item → fault_of state item ≡ None → is_finish item.kind ≡ false
      → ([] ≡ items_from platform state (record_octets item)) ⊎ IsAllButLast [] (items_from platform state (record_octets item))
  one_or_none item form valid further =
      let alone = ap (λ (o : List ℕ). (feed_of state o).items) (sym (append-nil (record_octets item)))
      ∙ ap (λ (f : Feed). f.items) (again-more state item form valid [] further) ∙ ap (λ (l : List FeedRecord). item ∷ l) (feed-empty (after state item)) in
      elim (cases_Bool (is_some (roster_fault platform.roster item))) [
        | inl e ↦ inl (sym (ap (read_of (roster_fault platform.roster)) alone ∙ rw e refl))
        | inr e ↦ inr (record { last = item; parts = ap (read_of (roster_fault platform.roster)) alone ∙ rw e refl })
      ]

  pub refuses-ends : (refused : FeedRefusal) (octets : List ℕ) (now taken : Option (List ℕ)) → Refuses state octets refused → TakesPart (Some octets) now
      → (refused ≡ refusal.Read → TakesLess state (Some octets) now) → (refused ≡ refusal.NoMemory → WantsMemory state (Some octets) now)
      → AnswersFrom platform state (status_of refused) octets now taken taken
  refuses-ends (refusal.Feed number why) octets now taken h part less memory =
      let feed_is = feed-fault state octets why (no_front state octets why h.1) in
      let front = told_front part.taken octets now part.given in
      let takes : Takes octets part.taken now = record { rest = front.0; parts = front.2; left = front.1 } in
      record {
        reads = record {
          ended = fault_from octets why feed_is ∙ ap (λ (n : ℕ). FaultyRecord n why) (sym h.0);
          through = λ is. absurd cc;
          stops = record { items = []; last = part.taken; takes = takes; form = tt; count = omega (arith, h.0); within = part.within };
          cut = λ is. absurd cc;
        };
        wrote = record {
          taken = part.taken;
          takes = takes;
          items = [];
          answered = none_from octets (ap (λ (f : Feed). f.items) feed_is);
          part = [];
          partly = refl;
          wrote = wrote_none (items_from platform state) (outputs_from platform) taken (outputs-nil platform);
        };
        known = none_read platform state.last;
      }
  refuses-ends refusal.Read octets now taken h part less memory =
      let part = less refl in
      let front = told_front part.taken octets now part.given in
      let takes : Takes octets part.taken now = record { rest = front.0; parts = front.2; left = front.1 } in
      let feed_is = feed-fault state part.taken why.Truncated (no_front state part.taken why.Truncated part.cut) in
      record {
        reads = record {
          ended = tt;
          through = λ is. absurd cc;
          stops = tt;
          cut = λ is. record { taken = part.taken; takes = takes; number = state.number + 1; cut = fault_from part.taken why.Truncated feed_is };
        };
        wrote = record {
          taken = part.taken;
          takes = takes;
          items = [];
          answered = none_from part.taken (ap (λ (f : Feed). f.items) feed_is);
          part = [];
          partly = refl;
          wrote = wrote_none (items_from platform state) (outputs_from platform) taken (outputs-nil platform);
        };
        known = none_read platform state.last;
      }
  refuses-ends refusal.NoMemory octets now taken h part less memory = elim (memory refl) [
    | inl body ↦ at_body body
    | inr connection ↦ at_connection connection
  ] where
    wants : (front : List ℕ) → Takes octets front now → ([] ≡ items_from platform state front) ⊎ IsAllButLast [] (items_from platform state front)
        → AnswersFrom platform state NoMemory octets now taken taken
    wants front takes answered = record {
      reads = record {
        ended = tt;
        through = λ is. absurd cc;
        stops = tt;
        cut = λ is. absurd cc;
      };
      wrote = record {
        taken = front;
        takes = takes;
        items = [];
        answered = answered;
        part = [];
        partly = refl;
        wrote = wrote_none (items_from platform state) (outputs_from platform) taken (outputs-nil platform);
      };
      known = none_read platform state.last;
    }

    at_body : AtBody state (Some octets) now → AnswersFrom platform state NoMemory octets now taken taken
    at_body b =
        let front = told_front b.header octets now b.given in
        let size : frame_size b.header ≡ 9 + length_at b.header = ap frame_size (sym (append-nil b.header)) ∙ frame_size_front b.header [] b.nine in
        wants b.header (record { rest = front.0; parts = front.2; left = front.1 })
        (inl (none_from b.header (feed-short state b.header (omega (arith, size, b.nine, b.body)))))

    no_finish : (k : Kind) → begins k ≡ true → is_finish k ≡ false
    no_finish kind.Ready e = refl
    no_finish kind.Raw e = refl
    no_finish kind.Roster e = refl
    no_finish kind.Octets e = refl
    no_finish kind.Closed e = refl
    no_finish kind.Links e = refl
    no_finish kind.Time e = refl
    no_finish kind.Slice e = refl
    no_finish kind.Drain e = refl
    no_finish kind.Finish e = absurd cc

    at_connection : AtConnection state (Some octets) now → AnswersFrom platform state NoMemory octets now taken taken
    at_connection c =
        let front = told_front (record_octets c.item) octets now c.given in
        wants (record_octets c.item) (record { rest = front.0; parts = front.2; left = front.1 })
        (one_or_none c.item c.form c.faultless (no_finish c.item.kind c.begins))

-- ---- a record was given

-- the frame of a record has its octets
pub framed_size : (item : FeedRecord) → IsRecord item → length (record_octets item) ≤ frame_size (record_octets item)
framed_size item form =
    let header : List ℕ = header_octets item in
    let size : frame_size (record_octets item) ≡ 9 + length_at (header_octets item) = frame_size_front (header_octets item) item.body refl in
    let says : length_at (header_octets item) ≡ length item.body = from_be_bytes-to_be_bytes_4 (length item.body) (omega (arith, form.length)) in
    omega (arith, size, says, length-append (header_octets item) item.body)

module _ (platform : Platform) (state : FeedState) (octets : List ℕ) (item : FeedRecord) (left now : Option (List ℕ))
    (told : left ≡ Some octets) (given : left ≡ in_front (record_octets item) now) (form : IsRecord item) (valid : fault_of state item ≡ None) where
  front : (rest : List ℕ) × (now ≡ Some rest) × (octets ≡ record_octets item ++ rest)
  front = told_front (record_octets item) octets now (sym told ∙ given)

  takes : Takes octets (record_octets item) now
  takes = record { rest = front.0; parts = front.2; left = front.1 }

  pub faulty-ends : (number : ℕ) (why : FeedWhy) (taken : Option (List ℕ)) → number ≡ state.number + 1 → roster_fault platform.roster item ≡ Some why
      → AnswersFrom platform state (status.Feed number why) octets now taken taken
  faulty-ends number why taken count faulty =
      let first = again-first state item form valid front.0 in
      let items_are : (feed_of state octets).items ≡ item ∷ first.0 = ap (λ (o : List ℕ). (feed_of state o).items) front.2 ∙ first.1 in
      record {
        reads = record {
          ended = rw items_are (end-faulty platform.roster (state.number + 1) item first.0 (feed_of state octets).fault why faulty ∙ ap (λ (n : ℕ). FaultyRecord n why) (sym count));
          through = λ is. absurd cc;
          stops = record { items = []; last = record_octets item; takes = takes; form = tt; count = omega (arith, count); within = framed_size item form };
          cut = λ is. absurd cc;
        };
        wrote = record {
          taken = record_octets item;
          takes = takes;
          items = [];
          answered = sym (ap (read_of (roster_fault platform.roster)) items_are ∙ none_of first.0);
          part = [];
          partly = refl;
          wrote = wrote_none (items_from platform state) (outputs_from platform) taken (outputs-nil platform);
        };
        known = none_read platform state.last;
      } where
        none_of : (items : List FeedRecord) → read_of (roster_fault platform.roster) (item ∷ items) ≡ []
        none_of items = rw faulty refl

  module _ (known : roster_fault platform.roster item ≡ None) where
    read-cons : (items : List FeedRecord) → read_of (roster_fault platform.roster) (item ∷ items) ≡ item ∷ read_of (roster_fault platform.roster) items
    read-cons items = rw known refl

    pub finish-ends : (taken : Option (List ℕ)) → is_finish item.kind ≡ true → AnswersFrom platform state Done octets now taken taken
    finish-ends taken last =
        let feed_is = ap (feed_of state) front.2 ∙ again-last state item form valid front.0 last in
        let items_are = ap (λ (f : Feed). read_of (roster_fault platform.roster) f.items) feed_is ∙ read-cons [] in
        let silent : (act platform item).out ≡ [] = output-finish platform item.kind item.source item.body last in
        let nothing : outputs_from platform (item ∷ []) ≡ [] = outputs-cons platform item []
        ∙ ap (λ (o : List OutRecord). flat_map out_octets o ++ outputs_from (act platform item).after []) silent ∙ outputs-nil (act platform item).after in
        record {
          reads = record {
            ended = rw feed_is (end-more platform.roster (state.number + 1) item [] None known);
            through = λ is. front.1 ∙ ap (λ (f : Feed). Some f.left) (sym feed_is);
            stops = tt;
            cut = λ is. absurd cc;
          };
          wrote = record {
            taken = record_octets item;
            takes = takes;
            items = item ∷ [];
            answered = sym items_are;
            part = [];
            partly = refl;
            wrote = sym (rw nothing (behind-nil taken));
          };
          known = more_read platform state item form valid (subst (AllByRecursion IsFramed) (sym silent) tt) [] (none_read (act platform item).after (after state item).last);
        }

    module _ (further : is_finish item.kind ≡ false) where
      items-more : (more : List ℕ) → items_from platform state (record_octets item ++ more) ≡ item ∷ items_from (act platform item).after (after state item) more
      items-more more =
          ap (λ (f : Feed). read_of (roster_fault platform.roster) f.items) (again-more state item form valid more further)
          ∙ read-cons (feed_of (after state item) more).items
          ∙ ap (λ (r : RosterOf). item ∷ read_of (roster_fault r) (feed_of (after state item) more).items) (sym (act-roster platform item))

      end-later : (more : List ℕ) → end_from platform state (record_octets item ++ more) ≡ end_from (act platform item).after (after state item) more
      end-later more =
          let feed_is = again-more state item form valid more further in
          ap (λ (f : Feed). end_of (roster_fault platform.roster) (state.number + 1) f.items f.fault) feed_is
          ∙ end-more platform.roster (state.number + 1) item (feed_of (after state item) more).items (feed_of (after state item) more).fault known
          ∙ ap (λ (r : RosterOf). end_of (roster_fault r) (state.number + 1 + 1) (feed_of (after state item) more).items (feed_of (after state item) more).fault) (sym (act-roster platform item))

      only_item : items_from platform state (record_octets item) ≡ item ∷ []
      only_item =
          ap (items_from platform state) (sym (append-nil (record_octets item))) ∙ items-more []
          ∙ ap (λ (l : List FeedRecord). item ∷ read_of (roster_fault (act platform item).after.roster) l) (feed-empty (after state item))

      but_this : IsAllButLast [] (items_from platform state (record_octets item))
      but_this = record { last = item; parts = only_item }

      pub memory-ends : (taken : Option (List ℕ)) → AnswersFrom platform state NoMemory octets now taken taken
      memory-ends taken = record {
        reads = record {
          ended = tt;
          through = λ is. absurd cc;
          stops = tt;
          cut = λ is. absurd cc;
        };
        wrote = record {
          taken = record_octets item;
          takes = takes;
          items = [];
          answered = inr but_this;
          part = [];
          partly = refl;
          wrote = wrote_none (items_from platform state) (outputs_from platform) taken (outputs-nil platform);
        };
        known = none_read platform state.last;
      }

      pub write-ends : (before final : Option (List ℕ)) → WritesLess (put_out platform item) before final → AnswersFrom platform state Write octets now before final
      write-ends before final h = record {
        reads = record {
          ended = tt;
          through = λ is. absurd cc;
          stops = tt;
          cut = λ is. absurd cc;
        };
        wrote = record {
          taken = record_octets item;
          takes = takes;
          items = [];
          answered = but_this;
          part = take h.count (put_out platform item);
          partly = record {
            more = drop h.count (put_out platform item);
            parts = ap (outputs_from platform) only_item ∙ outputs-cons platform item []
                ∙ ap (λ (l : List ℕ). put_out platform item ++ l) (outputs-nil (act platform item).after)
                ∙ append-nil (put_out platform item) ∙ sym (take-append-drop h.count (put_out platform item))
                ∙ ap (λ (l : List ℕ). (l ++ take h.count (put_out platform item)) ++ drop h.count (put_out platform item)) (sym (outputs-nil platform));
            some = some_missing h.count (put_out platform item) h.fewer;
          };
          wrote = h.taken ∙ ap (λ (l : List ℕ). behind before (l ++ take h.count (put_out platform item))) (sym (outputs-nil platform));
        };
        known = none_read platform state.last;
      }

      pub goes_on : AllByRecursion IsFramed (act platform item).out → (before between : Option (List ℕ)) → between ≡ behind before (put_out platform item)
          → (rest : List ℕ) × (now ≡ Some rest) × ((answer : Status) (later final : Option (List ℕ)) → AnswersFrom (act platform item).after (after state item) answer rest later between final
          → AnswersFrom platform state answer octets later before final)
      goes_on framed before between wrote = (
        front.0,
        front.1,
        λ answer later final h.
            answers_on (items_from platform state) (items_from (act platform item).after (after state item))
            (end_from platform state) (end_from (act platform item).after (after state item))
            (λ o. (feed_of state o).left) (λ o. (feed_of (after state item) o).left)
            (outputs_from platform) (outputs_from (act platform item).after) (AreRead platform state.last) (AreRead (act platform item).after (after state item).last)
            state.number item form (item ∷ []) (put_out platform item)
            items-more end-later (λ more. ap (λ (f : Feed). f.left) (again-more state item form valid more further))
            (outputs-cons platform item) (more_read platform state item form valid framed)
            octets front.0 front.2 before between wrote answer later final h,
      )
