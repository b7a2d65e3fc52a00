-- A generated feed by the definitions.
use Rattle.std.proofs.Common.{◌≡◌, ℕ, ◌+◌, ◌*◌, ◌^◌, ◌<◌, ◌≤◌, false, true, List, [], ◌∷◌, ◌++◌, length, map, Option, Some, None, Result, Ok, Err, refl, sym, ap, subst, ◌∙◌, arith, length-append, append_assoc, append-nil}
use Rattle.std.specs.List.{flat_map, AllByRecursion}
use Rattle.std.proofs.lemmas.List.Elements.{All-nil}
use Rattle.rcp_base.specs.declared.kinds.Kind.TheVariants as kinds
use Rattle.rcp_base.specs.declared.kinds.FeedWhy.{FeedWhy}
use Rattle.rcp_base.specs.Feed.{FeedRecord, FeedState, Feed, IsRecord, before_feeds, record_octets, is_finish, after, fault_of, feed_of}
use Rattle.rcp_base.specs.Roster.{RosterOf, FaultyLine, roster_of}
use Rattle.rcp_model.proofs.AllLemmas.{all-append}
use Rattle.feed_meaning.specs.WholeFeeds.{FeedMeaning, FeedEnd, Finished, FaultyRecord, FurtherFault, read_of, end_of, with_roster, meaning_of, meaning_by, roster_fault, feed_meaning}
use Rattle.feed_laws.specs.FeedReading.{state_after, AreFaultless, HaveNoFinish, EndInFinish, IsFeedOf}
use Rattle.feed_laws.proofs.ReadingLemmas.{no_other_feed}
use Rattle.feed_make.specs.Numbers.{numbers_from}
use Rattle.feed_make.specs.Feeds.{item, first_record, following, records, feed_octets, sessions, packets, groups, slices, changes, ends, drain, roster_text}
use Rattle.feed_make.specs.Feeds.{end_of as ended_by}
use Rattle.make_laws.specs.Made.{made_roster, made_meaning}
use Rattle.feed_make.proofs.Lengths.{roster_length}
use Rattle.make_laws.proofs.BodyLemmas.{roster-octets}
use Rattle.make_laws.proofs.RosterLemmas.{roster-read}
use Rattle.make_laws.proofs.RecordLemmas.{IsAt, Goes, Goes-append, plain-goes, plain-passes, plain-after, roster-step}
use Rattle.make_laws.proofs.PieceLemmas.{IsGood, IsKnown, later, last_ends, later-good, later-long, plain_of, known_of, going_of, sessions-go, sessions-known, sessions-going}

abbrev finish : FeedRecord
finish = item kinds.Finish 0 []

finish-form : IsRecord finish
finish-form = record { source = omega arith; length = omega arith; octets = All-nil (λ o. o < 256) }

-- ---- the records after the roster's are the sessions, others, and Z

abbrev before_finish : ℕ → List FeedRecord
before_finish number = sessions ++ later number

following-is : (number : ℕ) → following number ≡ before_finish number ++ finish ∷ []
unfolding ends
following-is number = regroup sessions (packets number) (groups number) slices (changes number) (map ended_by (numbers_from 0 3)) where
  regroup : (a b c d e f : List FeedRecord) → a ++ (b ++ (c ++ (d ++ (e ++ (f ++ (drain ∷ finish ∷ [])))))) ≡ (a ++ (b ++ (c ++ (d ++ (e ++ (f ++ (drain ∷ []))))))) ++ finish ∷ []
  regroup a b c d e f = sym (simp append_assoc)

-- ---- no record has a fault

finish-goes : (state : FeedState) (last most : ℕ) → IsAt state last most → most < 2 ^ 40 → Goes state (finish ∷ []) last (most + 65545)
finish-goes state last most at few = record {
  faultless = (finish-form, plain-passes state finish last most at few finish-form refl refl refl refl refl, tt);
  at = plain-after state finish last most at few finish-form refl;
}

following-goes : (number : ℕ) (state : FeedState) → IsAt state 0 65545 → Goes state (before_finish number ++ finish ∷ []) 400 161240700
unfolding sessions
following-goes number state at =
    Goes-append state (before_finish number) (finish ∷ []) 400 400 161175155 161240700
    (Goes-append state sessions (later number) 400 400 78719545 161175155 (sessions-go 0 400 state 65545 (omega arith) at (omega arith))
    (λ next. let goes = plain-goes (later number) (state_after state sessions) 400 78719545 (plain_of (later number) (later-good number)) next (omega (arith, later-long number)) in
    let most : 78719545 + 65545 * length (later number) ≡ 161175155 = omega (arith, later-long number) in
    subst (λ (n : ℕ). Goes (state_after state sessions) (later number) 400 n) most goes))
    (λ next. finish-goes (state_after state (before_finish number)) 400 161175155 next (omega arith))

short : length roster_text ≤ 65536
short = omega (arith, roster_length)

first-form : IsRecord first_record
first-form = record { source = omega arith; length = short; octets = roster-octets }

faultless : (number : ℕ) → AreFaultless before_feeds (records number)
faultless number =
    let first = roster-step roster_text short in (
      first-form,
      first.0,
      subst (AreFaultless (after before_feeds first_record)) (sym (following-is number)) (following-goes number (after before_feeds first_record) first.1).faultless,
    )

going : (number : ℕ) → HaveNoFinish (first_record ∷ before_finish number)
unfolding sessions
going number = (refl, all-append (λ r. is_finish r.kind ≡ false) sessions (later number) (sessions-going 0 400) (going_of (later number) (later-good number)))

ends_in_finish : (number : ℕ) → EndInFinish (records number)
ends_in_finish number = record {
  before = first_record ∷ before_finish number;
  last = finish;
  whole = ap (λ (items : List FeedRecord). first_record ∷ items) (following-is number);
  finish = refl;
  others = going number;
}

abbrev made_feed : ℕ → Feed
made_feed number = record { items = records number; state = state_after before_feeds (records number); fault = None; left = [] }

feed-is : (number : ℕ) → made_feed number ≡ feed_of before_feeds (feed_octets number)
unfolding feed_octets
feed-is number =
    no_other_feed before_feeds (feed_octets number) (made_feed number) (record {
      whole = sym (append-nil (feed_octets number));
      each = faultless number;
      remembered = refl;
      end = ends_in_finish number;
    })

-- ---- the roster knows what the records name

finish-known : IsKnown finish
unfolding roster_fault
finish-known = refl

known : (number : ℕ) → AllByRecursion IsKnown (following number)
unfolding sessions
known number =
    subst (AllByRecursion IsKnown) (sym (following-is number))
    (all-append IsKnown (before_finish number) (finish ∷ [])
    (all-append IsKnown sessions (later number) (sessions-known 0 400 (omega arith)) (known_of (later number) (later-good number)))
    (finish-known, tt))

all-read : (items : List FeedRecord) → AllByRecursion IsKnown items → read_of (roster_fault made_roster) items ≡ items
all-read [] each = refl
all-read (r ∷ items) each = let none : roster_fault made_roster r ≡ None = each.0 in rw none (ap (λ (more : List FeedRecord). r ∷ more) (all-read items each.1))

all-end : (number : ℕ) (items : List FeedRecord) → AllByRecursion IsKnown items → end_of (roster_fault made_roster) number items None ≡ Finished
all-end number [] each = refl
all-end number (r ∷ items) each =
    ap (λ (o : Option FeedWhy). elim o as (λ _. FeedEnd) [ Some why ↦ FaultyRecord number why | None ↦ end_of (roster_fault made_roster) (number + 1) items None ]) each.0
    ∙ all-end (number + 1) items each.1

abbrev ended : List FeedRecord → FeedEnd → FeedMeaning
ended items end = record { roster = Some made_roster; items = items; end = end; left = [] }

pub meaning-is : (number : ℕ) → feed_meaning (feed_octets number) ≡ made_meaning number
unfolding meaning_by
meaning-is number =
    ap (λ (feed : Feed). meaning_of roster_fault 1 feed feed.items) (sym (feed-is number))
    ∙ ap (with_roster roster_fault (made_feed number) 1 (following number)) roster-read
    ∙ (λ i. ended (all-read (following number) (known number) i) (all-end 2 (following number) (known number) i))
