-- What is answered after one more record is the answer from before it.
use Rattle.std.proofs.Common.{◌≡◌, ℕ, ◌+◌, List, [], ◌∷◌, ◌++◌, length, Option, Some, sym, ap, subst, ◌∙◌, inl, inr, append_assoc, append-nil, arith}
use Rattle.std.specs.List.{flat_map, AllByRecursion}
use Rattle.std.proofs.lemmas.Grind.{flat_map-append}
use Rattle.std.proofs.lemmas.List.{length-append}
use Rattle.outside.specs.Told.{behind}
use Rattle.rcp_base.specs.Feed.{FeedRecord, IsRecord, record_octets}
use Rattle.feed_meaning.specs.WholeFeeds.{FeedEnd}
use Rattle.feed_format.specs.declared.status.Status.{Status}
use Rattle.feed_format.specs.declared.status.Status.TheVariants.{Done, Usage, Feed, Roster, Read, Write, NoMemory, NoPath, NetFault}
use Rattle.feed_run.specs.Statuses.{EndsSo}
use Rattle.feed_run.specs.Written.{Takes, StopsAt, StopsBy, IsAllButLast, IsCutOff, Answered, IsPart}
use Rattle.feed_run.specs.Going.{ReadsSo, AnswersBy}
use Rattle.feed_run.proofs.WrittenLemmas.{both}

-- a front was taken, and then more
pub takes_more : (front octets rest taken : List ℕ) (now : Option (List ℕ)) → octets ≡ front ++ rest → Takes rest taken now → Takes octets (front ++ taken) now
takes_more front octets rest taken now parts t = record {
  rest = t.rest;
  parts = parts ∙ ap (λ (l : List ℕ). front ++ l) t.parts ∙ sym (append_assoc front taken t.rest);
  left = t.left;
}

-- all of two lists, one after the other
pub all_both : {X : Type 0} (P : X → Type 0) (xs ys : List X) → AllByRecursion P xs → AllByRecursion P ys → AllByRecursion P (xs ++ ys)
all_both P [] ys a b = b
all_both P (x ∷ xs) ys a b = (a.0, all_both P xs ys a.1 b)

-- ---- records were read, and then others

module _ (end_for end_later : List ℕ → FeedEnd) (left_of left_later : List ℕ → List ℕ)
    (records : List FeedRecord) (form : AllByRecursion IsRecord records) (front : List ℕ) (front_is : front ≡ flat_map record_octets records)
    (count next : ℕ) (counted : next ≡ count + length records)
    (end_is : (more : List ℕ) → end_for (front ++ more) ≡ end_later more)
    (left_is : (more : List ℕ) → left_of (front ++ more) ≡ left_later more)
    (octets rest : List ℕ) (parts : octets ≡ front ++ rest) where
  stops_more : (number : ℕ) (now : Option (List ℕ)) → StopsAt next number rest now → StopsAt count number octets now
  stops_more number now s =
      let t = takes_more front octets rest (flat_map record_octets s.items ++ s.last) now parts s.takes in
      let taken : front ++ (flat_map record_octets s.items ++ s.last) ≡ flat_map record_octets (records ++ s.items) ++ s.last =
      sym (append_assoc front (flat_map record_octets s.items) s.last)
      ∙ ap (λ (l : List ℕ). (l ++ flat_map record_octets s.items) ++ s.last) front_is
      ∙ ap (λ (l : List ℕ). l ++ s.last) (sym (flat_map-append record_octets records s.items)) in
      record {
        items = records ++ s.items;
        last = s.last;
        takes = record { rest = t.rest; parts = t.parts ∙ ap (λ (l : List ℕ). l ++ t.rest) taken; left = t.left };
        form = all_both IsRecord records s.items form s.form;
        count = omega (arith, s.count, counted, length-append records s.items);
        within = s.within;
      }

  stops_on : (status : Status) (now : Option (List ℕ)) → StopsBy next status rest now → StopsBy count status octets now
  stops_on (Feed number why) now s = stops_more number now s
  stops_on (Roster number line why) now s = stops_more number now s
  stops_on Done now s = tt
  stops_on Usage now s = tt
  stops_on Read now s = tt
  stops_on Write now s = tt
  stops_on NoMemory now s = tt
  stops_on (NoPath refused) now s = tt
  stops_on NetFault now s = tt

  -- what is read of the octets after them, and what of all
  pub reads_on : (status : Status) (now : Option (List ℕ)) → ReadsSo end_later left_later next status rest now → ReadsSo end_for left_of count status octets now
  reads_on status now h = record {
    ended = subst (EndsSo status) (sym (end_is rest) ∙ ap end_for (sym parts)) h.ended;
    through = λ is. h.through is ∙ ap Some (sym (left_is rest) ∙ ap left_of (sym parts));
    stops = stops_on status now h.stops;
    cut = λ is. let c = h.cut is in record {
      taken = front ++ c.taken;
      takes = takes_more front octets rest c.taken now parts c.takes;
      number = c.number;
      cut = end_is c.taken ∙ c.cut;
    };
  }

-- ---- what is read of octets after a record, and what of the record and them

module _ (items_of items_later : List ℕ → List FeedRecord) (end_for end_later : List ℕ → FeedEnd) (left_of left_later : List ℕ → List ℕ)
    (output output_later : List FeedRecord → List ℕ) (Known KnownLater : List FeedRecord → Type 0) (count : ℕ)
    (item : FeedRecord) (form : IsRecord item) (first : List FeedRecord) (written : List ℕ)
    (items_are : (more : List ℕ) → items_of (record_octets item ++ more) ≡ first ++ items_later more)
    (end_is : (more : List ℕ) → end_for (record_octets item ++ more) ≡ end_later more)
    (left_is : (more : List ℕ) → left_of (record_octets item ++ more) ≡ left_later more)
    (output_is : (items : List FeedRecord) → output (first ++ items) ≡ written ++ output_later items)
    (known_is : (items : List FeedRecord) → KnownLater items → Known (first ++ items))
    (octets rest : List ℕ) (parts : octets ≡ record_octets item ++ rest)
    (before between : Option (List ℕ)) (wrote : between ≡ behind before written) where
  but_last : (taken : List ℕ) (items : List FeedRecord) → IsAllButLast items (items_later taken) → IsAllButLast (first ++ items) (items_of (record_octets item ++ taken))
  but_last taken items h = record {
    last = h.last;
    parts = items_are taken ∙ ap (λ (l : List FeedRecord). first ++ l) h.parts ∙ sym (append_assoc first items (h.last ∷ []));
  }

  all_of : (items : List FeedRecord) → items ≡ items_later rest → first ++ items ≡ items_of octets
  all_of items h = ap (λ (l : List FeedRecord). first ++ l) h ∙ sym (items_are rest) ∙ ap items_of (sym parts)

  all_taken : (taken : List ℕ) (items : List FeedRecord) → items ≡ items_later taken → first ++ items ≡ items_of (record_octets item ++ taken)
  all_taken taken items h = ap (λ (l : List FeedRecord). first ++ l) h ∙ sym (items_are taken)

  answered_on : (status : Status) (taken : List ℕ) (items : List FeedRecord) → Answered items_later status rest taken items → Answered items_of status octets (record_octets item ++ taken) (first ++ items)
  answered_on Done taken items h = all_of items h
  answered_on Usage taken items h = h
  answered_on (Feed number why) taken items h = all_of items h
  answered_on (Roster number line why) taken items h = all_of items h
  answered_on Read taken items h = all_taken taken items h
  answered_on Write taken items h = but_last taken items h
  answered_on NoMemory taken items (inl h) = inl (all_taken taken items h)
  answered_on NoMemory taken items (inr h) = inr (but_last taken items h)
  answered_on (NoPath refused) taken items h = h
  answered_on NetFault taken items h = h

  cut_on : (taken : List ℕ) (items : List FeedRecord) (part : List ℕ) → IsCutOff output_later items (items_later taken) part → IsCutOff output (first ++ items) (items_of (record_octets item ++ taken)) part
  cut_on taken items part h = record {
    more = h.more;
    parts = ap output (items_are taken) ∙ output_is (items_later taken) ∙ ap (λ (l : List ℕ). written ++ l) h.parts
        ∙ sym (append_assoc written (output_later items ++ part) h.more)
        ∙ ap (λ (l : List ℕ). l ++ h.more) (sym (append_assoc written (output_later items) part) ∙ ap (λ (l : List ℕ). l ++ part) (sym (output_is items)));
    some = h.some;
  }

  partly_on : (status : Status) (taken : List ℕ) (items : List FeedRecord) (part : List ℕ) → IsPart output_later status items (items_later taken) part
      → IsPart output status (first ++ items) (items_of (record_octets item ++ taken)) part
  partly_on Write taken items part h = cut_on taken items part h
  partly_on Done taken items part h = h
  partly_on Usage taken items part h = h
  partly_on (Feed number why) taken items part h = h
  partly_on (Roster number line why) taken items part h = h
  partly_on Read taken items part h = h
  partly_on NoMemory taken items part h = h
  partly_on (NoPath refused) taken items part h = h
  partly_on NetFault taken items part h = h

  pub answers_on : (status : Status) (now after : Option (List ℕ)) → AnswersBy items_later end_later left_later output_later KnownLater (count + 1) status rest now between after
      → AnswersBy items_of end_for left_of output Known count status octets now before after
  answers_on status now after h =
      let w = h.wrote in
      record {
        reads = reads_on end_for end_later left_of left_later (item ∷ []) (form, tt) (record_octets item) (sym (append-nil (record_octets item)))
            count (count + 1) (omega arith) end_is left_is octets rest parts status now h.reads;
        wrote = record {
          taken = record_octets item ++ w.taken;
          takes = takes_more (record_octets item) octets rest w.taken now parts w.takes;
          items = first ++ w.items;
          answered = answered_on status w.taken w.items w.answered;
          part = w.part;
          partly = partly_on status w.taken w.items w.part w.partly;
          wrote = both before between after written (output_later w.items ++ w.part) wrote w.wrote
              ∙ ap (behind before) (sym (append_assoc written (output_later w.items) w.part) ∙ ap (λ (l : List ℕ). l ++ w.part) (sym (output_is w.items)));
        };
        known = known_is w.items h.known;
      }
