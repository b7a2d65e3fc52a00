-- The headline, over the octets that a sink took.
use Rattle.std.proofs.Common.{◌≡◌, ℕ, ◌<◌, List, [], ◌∷◌, ◌++◌, take, drop, All, Option, Some, refl, sym, ap, subst, ◌∙◌, append_assoc}
use Rattle.std.specs.List.{flat_map, AllByRecursion}
use Rattle.std.proofs.lemmas.Grind.{flat_map-append}
use Rattle.std.proofs.lemmas.List.{take-append-drop, append_cancel_left}
use Rattle.outside.specs.Told.{behind}
use Rattle.rcp_base.specs.Feed.{FeedRecord, OutRecord, IsRecord, out_octets}
use Rattle.rcp_base.specs.Roster.{RosterOf}
use Rattle.rcp_model.specs.Updates.{replay}
use Rattle.feed_meaning.specs.Platform.{Platform, fresh}
use Rattle.feed_meaning.specs.OutRecords.{sent_to}
use Rattle.feed_meaning.specs.Runs.{act, platform_after, all_output, NumbersRise}
use Rattle.feed_meaning.specs.Work.{cell_of}
use Rattle.feed_meaning.specs.WholeFeeds.{feed_meaning, outputs}
use Rattle.feed_meaning.proofs.HeadlineLemmas.{headline}
use Rattle.feed_format.specs.declared.status.Status.{Status}
use Rattle.feed_run.specs.Frames.{IsFramed}
use Rattle.feed_run.specs.Written.{output_with}
use Rattle.rcp_run.specs.Headline.{Gives, GivesBy, HeadlineWritten}
use Rattle.feed_run.specs.Going.{AreRead, AreReadWith, Answers}
use Rattle.rcp_run.proofs.FrameLemmas.{outs-again}

-- ---- the first of some records

pub output-append : (platform : Platform) (items more : List FeedRecord) → all_output platform (items ++ more) ≡ all_output platform items ++ all_output (platform_after platform items) more
unfolding platform_after all_output
output-append platform [] more = refl
output-append platform (item ∷ items) more =
    ap (λ (outs : List OutRecord). (act platform item).out ++ outs) (output-append (act platform item).after items more)
    ∙ sym (append_assoc (act platform item).out (all_output (act platform item).after items) (all_output (platform_after (act platform item).after items) more))

all_front : {X : Type 0} (P : X → Type 0) (xs ys : List X) → AllByRecursion P (xs ++ ys) → AllByRecursion P xs
all_front P [] ys h = tt
all_front P (x ∷ xs) ys h = (h.0, all_front P xs ys h.1)

rising_front : (last : ℕ) (xs ys : List FeedRecord) → NumbersRise last (xs ++ ys) → NumbersRise last xs
rising_front last [] ys h = tt
rising_front last (x ∷ xs) ys h = (h.0, rising_front _ xs ys h.1)

read_front : (platform : Platform) (last : ℕ) (xs ys : List FeedRecord) → AreRead platform last (xs ++ ys) → AreRead platform last xs
read_front platform last xs ys h = record {
  form = all_front IsRecord xs ys h.form;
  rising = rising_front last xs ys h.rising;
  framed = all_front IsFramed (all_output platform xs) (all_output (platform_after platform xs) ys) (subst (AllByRecursion IsFramed) (output-append platform xs ys) h.framed);
}

-- ---- the headline

bodies : (items : List FeedRecord) → AllByRecursion IsRecord items → AllByRecursion (λ item. All (λ o. o < 256) item.body) items
bodies [] form = tt
bodies (item ∷ items) form = (form.0.octets, bodies items form.1)

-- records that were read, and their output
gives_read : (roster : RosterOf) (items : List FeedRecord) → AreRead (fresh roster) 0 items → Gives roster items (outputs roster items)
gives_read roster items h = λ number slot p at pending.
    ap (λ (outs : List OutRecord). cell_of (Some (replay (sent_to number outs))) p) (outs-again (all_output (fresh roster) items) h.framed)
    ∙ headline roster items (bodies items h.form) h.rising number slot p at pending

gives_front : (roster : RosterOf) (items : List FeedRecord) (part : List ℕ) → AreRead (fresh roster) 0 items → (count : ℕ) → GivesBy roster (take count items) (outputs roster items ++ part)
gives_front roster items part h count =
    let first = take count items in
    let rest = drop count items in
    let all : items ≡ take count items ++ drop count items = sym (take-append-drop count items) in
    let later = flat_map out_octets (all_output (platform_after (fresh roster) first) rest) in
    record {
      front = outputs roster first;
      output = refl;
      later = later ++ part;
      parts = ap (λ (l : List ℕ). l ++ part)
          (ap (outputs roster) all ∙ ap (flat_map out_octets) (output-append (fresh roster) first rest) ∙ flat_map-append out_octets (all_output (fresh roster) first) (all_output (platform_after (fresh roster) first) rest))
          ∙ append_assoc (outputs roster first) later part;
      gives = gives_read roster first (read_front (fresh roster) 0 first rest (subst (AreRead (fresh roster) 0) all h));
    }

known_of : (roster : RosterOf) (found : Option RosterOf) (items : List FeedRecord) → found ≡ Some roster → AreReadWith found items → AreRead (fresh roster) 0 items
known_of roster found items is h = rw is at h

wrote_of : (roster : RosterOf) (found : Option RosterOf) (items : List FeedRecord) (part before written : List ℕ) → found ≡ Some roster
    → Some (before ++ written) ≡ behind (Some before) (output_with found items ++ part) → written ≡ outputs roster items ++ part
wrote_of roster found items part before written is wrote =
    let same : before ++ written ≡ before ++ (output_with found items ++ part) = cc in
    append_cancel_left before written (output_with found items ++ part) same ∙ ap (λ (o : Option RosterOf). output_with o items ++ part) is

pub headline-written : (status : Status) (roster : RosterOf) (octets before written : List ℕ) (now taken_old taken_new : Option (List ℕ)) → (feed_meaning octets).roster ≡ Some roster
    → taken_old ≡ Some before → taken_new ≡ Some (before ++ written) → Answers status octets now taken_old taken_new → HeadlineWritten status roster octets now written
headline-written status roster octets before written now taken_old taken_new found old new h =
    let w = h.wrote in
    let wrote : Some (before ++ written) ≡ behind (Some before) (output_with (feed_meaning octets).roster w.items ++ w.part) =
    sym new ∙ w.wrote ∙ ap (λ (t : Option (List ℕ)). behind t (output_with (feed_meaning octets).roster w.items ++ w.part)) old in
    record {
      taken = w.taken;
      takes = w.takes;
      items = w.items;
      answered = w.answered;
      each = λ count. subst (GivesBy roster (take count w.items)) (sym (wrote_of roster (feed_meaning octets).roster w.items w.part before written found wrote))
          (gives_front roster w.items w.part (known_of roster (feed_meaning octets).roster w.items found h.known) count);
    }
