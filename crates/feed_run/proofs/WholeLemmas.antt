-- A feed that is read to its Z, record by record.
use Rattle.std.proofs.Common.{◌≡◌, ℕ, ◌+◌, true, List, [], ◌∷◌, ◌++◌, length, Option, Some, None, refl, sym, ap, subst, ◌∙◌, append_assoc, append-nil, arith}
use Rattle.std.specs.List.{flat_map, AllByRecursion}
use Rattle.std.proofs.lemmas.Grind.{flat_map-append}
use Rattle.std.proofs.lemmas.List.{length-append}
use Rattle.outside.specs.Told.{in_front, in_front-append}
use Rattle.rcp_base.specs.declared.kinds.Kind.{Kind}
use Rattle.rcp_base.specs.declared.kinds.Kind.TheVariants as kind
use Rattle.rcp_base.specs.declared.kinds.FeedWhy.{FeedWhy}
use Rattle.rcp_base.specs.Feed.{FeedState, FeedRecord, OutRecord, Feed, IsRecord, before_next_feed, is_finish, record_octets, after, with_first, feed_of}
use Rattle.rcp_base.specs.Roster.{RosterOf}
use Rattle.feed_meaning.specs.Platform.{Platform, fresh}
use Rattle.feed_meaning.specs.Runs.{act, platform_after}
use Rattle.feed_meaning.specs.WholeFeeds.{FeedMeaning, FeedEnd, Finished, FurtherFault, kind_fault, roster_fault, end_of, read_of, with_roster, meaning_of}
use Rattle.feed_meaning.proofs.HeadlineLemmas.{act-roster}
use Rattle.platform_laws.specs.Platforms.{IsSeen}
use Rattle.platform_core.specs.States.{StateOf}
use Rattle.feed_format.specs.declared.status.Status.{Status}
use Rattle.feed_run.specs.NextFeeds.{meaning_after, end_after, left_after}
use Rattle.feed_run.specs.Going.{ReadsSo, ReadsAfter, end_from, Opens, Acts, Finishes}
use Rattle.feed_run.specs.Whole.{Pass, with_all, AreFeed, IsReached, IsWhole}
use Rattle.feed_run.specs.declared.records.FeedRun.{FeedRun}
use Rattle.feed_run.proofs.FeedLemmas.{again-last, again-more, told_front}
use Rattle.feed_run.proofs.AnswerLemmas.{all_both, reads_on}
use Rattle.feed_run.proofs.BeginLemmas.{first_further}

-- ---- records and the platform that they lead to

pub platform-append : (platform : Platform) (xs ys : List FeedRecord) → platform_after platform (xs ++ ys) ≡ platform_after (platform_after platform xs) ys
unfolding platform_after
platform-append platform [] ys = refl
platform-append platform (x ∷ xs) ys = platform-append (act platform x).after xs ys

platform-more : (platform : Platform) (xs : List FeedRecord) (y : FeedRecord) → platform_after platform (xs ++ y ∷ []) ≡ (act (platform_after platform xs) y).after
unfolding platform_after
platform-more platform [] y = refl
platform-more platform (x ∷ xs) y = platform-more (act platform x).after xs y

pub roster-after : (platform : Platform) (items : List FeedRecord) → (platform_after platform items).roster ≡ platform.roster
unfolding platform_after
roster-after platform [] = refl
roster-after platform (item ∷ items) = roster-after (act platform item).after items ∙ act-roster platform item

-- a Z does nothing
act-finish : (platform : Platform) (k : Kind) (source : ℕ) (body : List ℕ) → is_finish k ≡ true → (act platform (record { kind = k; source = source; body = body })).after ≡ platform
unfolding act
act-finish platform kind.Finish source body e = refl
act-finish platform kind.Roster source body e = absurd cc
act-finish platform kind.Ready source body e = absurd cc
act-finish platform kind.Raw source body e = absurd cc
act-finish platform kind.Octets source body e = absurd cc
act-finish platform kind.Closed source body e = absurd cc
act-finish platform kind.Links source body e = absurd cc
act-finish platform kind.Time source body e = absurd cc
act-finish platform kind.Slice source body e = absurd cc
act-finish platform kind.Drain source body e = absurd cc

-- and puts nothing out
pub finish-out : (platform : Platform) (k : Kind) (source : ℕ) (body : List ℕ) → is_finish k ≡ true → (act platform (record { kind = k; source = source; body = body })).out ≡ []
unfolding act
finish-out platform kind.Finish source body e = refl
finish-out platform kind.Roster source body e = absurd cc
finish-out platform kind.Ready source body e = absurd cc
finish-out platform kind.Raw source body e = absurd cc
finish-out platform kind.Octets source body e = absurd cc
finish-out platform kind.Closed source body e = absurd cc
finish-out platform kind.Links source body e = absurd cc
finish-out platform kind.Time source body e = absurd cc
finish-out platform kind.Slice source body e = absurd cc
finish-out platform kind.Drain source body e = absurd cc

finish-passes : (roster : RosterOf) (body : List ℕ) (k : Kind) → is_finish k ≡ true → kind_fault roster body k ≡ None
finish-passes roster body kind.Finish e = refl
finish-passes roster body kind.Roster e = refl
finish-passes roster body kind.Ready e = absurd cc
finish-passes roster body kind.Raw e = refl
finish-passes roster body kind.Octets e = refl
finish-passes roster body kind.Closed e = refl
finish-passes roster body kind.Links e = refl
finish-passes roster body kind.Time e = refl
finish-passes roster body kind.Slice e = absurd cc
finish-passes roster body kind.Drain e = refl

finish-faultless : (roster : RosterOf) (item : FeedRecord) → is_finish item.kind ≡ true → roster_fault roster item ≡ None
unfolding roster_fault
finish-faultless roster item e = finish-passes roster item.body item.kind e

-- ---- records without a fault by the roster

module _ (fault_for : FurtherFault) where
  read-passed : (xs ys : List FeedRecord) → Pass fault_for xs → read_of fault_for (xs ++ ys) ≡ xs ++ read_of fault_for ys
  read-passed [] ys h = refl
  read-passed (x ∷ xs) ys h = let none = h.0 in rw none (ap (λ (l : List FeedRecord). x ∷ l) (read-passed xs ys h.1))

  end-passed : (number next : ℕ) (xs ys : List FeedRecord) (fault : Option FeedWhy) → next ≡ number + length xs → Pass fault_for xs
      → end_of fault_for number (xs ++ ys) fault ≡ end_of fault_for next ys fault
  end-passed number next [] ys fault count h = let same : number ≡ next = omega (arith, count) in ap (λ (n : ℕ). end_of fault_for n ys fault) same
  end-passed number next (x ∷ xs) ys fault count h = let none = h.0 in rw none (end-passed (number + 1) next xs ys fault (omega (arith, count)) h.1)

-- ---- a feed of which some records were read

all-more : (items : List FeedRecord) (item : FeedRecord) (feed : Feed) → with_all items (with_first item feed) ≡ with_all (items ++ item ∷ []) feed
all-more items item feed = ap (λ (l : List FeedRecord). record feed { items = l }) (sym (append_assoc items (item ∷ []) feed.items))

-- ---- its beginning

pub reached-first : (earlier : FeedState) (run : FeedRun) (before now : Option (List ℕ)) (h : Opens earlier run before now) → IsReached earlier run h.roster [] before now
unfolding platform_after
reached-first earlier run before now h = record {
  octets = record_octets h.first;
  given = h.given;
  first = h.first;
  parts = sym (append-nil (record_octets h.first));
  form = (h.form, tt);
  count = omega (arith, ap (λ (s : FeedState). s.number) h.noted);
  feed = λ more. again-more (before_next_feed earlier) h.first h.form h.valid more (first_further earlier h.first h.valid)
      ∙ ap (λ (s : FeedState). with_first h.first (feed_of s more)) (sym h.noted);
  is_read = h.is_read;
  passed = tt;
  seen = h.seen;
}

-- ---- one record more

module _ (earlier : FeedState) (old new : FeedRun) (roster : RosterOf) (items : List FeedRecord) (before between now : Option (List ℕ))
    (reached : IsReached earlier old roster items before between) where
  pub octets_on : (item : FeedRecord) → between ≡ in_front (record_octets item) now → before ≡ in_front (reached.octets ++ record_octets item) now
  octets_on item given = reached.given ∙ ap (in_front reached.octets) given ∙ in_front-append reached.octets (record_octets item) now

  parts_on : (item : FeedRecord) → reached.octets ++ record_octets item ≡ flat_map record_octets (reached.first ∷ (items ++ item ∷ []))
  parts_on item =
      let records = reached.first ∷ items in
      ap (λ (l : List ℕ). l ++ record_octets item) reached.parts
      ∙ ap (λ (l : List ℕ). flat_map record_octets (reached.first ∷ items) ++ l) (sym (append-nil (record_octets item)))
      ∙ sym (flat_map-append record_octets (reached.first ∷ items) (item ∷ []))

  form_on : (item : FeedRecord) → IsRecord item → AllByRecursion IsRecord (reached.first ∷ (items ++ item ∷ []))
  form_on item form = all_both IsRecord (reached.first ∷ items) (item ∷ []) reached.form (form, tt)

  pub reached-more : (outs : List OutRecord) (a : Acts old new outs between now) → IsReached earlier new roster (items ++ a.item ∷ []) before now
  reached-more outs a =
      let defined = platform_after (fresh roster) items in
      let acted = a.acted defined reached.seen in
      let same : defined.roster ≡ roster = roster-after (fresh roster) items in
      record {
        octets = reached.octets ++ record_octets a.item;
        given = octets_on a.item a.given;
        first = reached.first;
        parts = parts_on a.item;
        form = form_on a.item a.form;
        count = omega (arith, reached.count, ap (λ (s : FeedState). s.number) a.noted, length-append items (a.item ∷ []));
        feed = λ more.
            ap (feed_of (before_next_feed earlier)) (append_assoc reached.octets (record_octets a.item) more)
            ∙ reached.feed (record_octets a.item ++ more)
            ∙ ap (with_all (reached.first ∷ items)) (again-more old.reader a.item a.form a.valid more a.further ∙ ap (λ (s : FeedState). with_first a.item (feed_of s more)) (sym a.noted))
            ∙ all-more (reached.first ∷ items) a.item (feed_of new.reader more);
        is_read = reached.is_read;
        passed = all_both (λ item. roster_fault roster item ≡ None) items (a.item ∷ []) reached.passed
            (ap (λ (r : RosterOf). roster_fault r a.item) (sym same) ∙ acted.2, tt);
        seen = subst (λ (p : Platform). IsSeen p new.platform.seen) (sym (platform-more (fresh roster) items a.item)) acted.0;
      }

-- ---- what all octets come to

-- what records and the rest of a feed come to
abbrev pub ended : RosterOf → List FeedRecord → ℕ → Feed → FeedMeaning
ended roster items number feed = record {
  roster = Some roster;
  items = items ++ read_of (roster_fault roster) feed.items;
  end = end_of (roster_fault roster) number feed.items feed.fault;
  left = feed.left;
}

one_more : (roster : RosterOf) (items : List FeedRecord) (number : ℕ) (item : FeedRecord) (more : List ℕ) (state : FeedState) → roster_fault roster item ≡ None
    → ended roster items number (record { items = item ∷ []; state = state; fault = None; left = more }) ≡ record { roster = Some roster; items = items ++ item ∷ []; end = Finished; left = more }
one_more roster items number item more state faultless =
    let one : read_of (roster_fault roster) (item ∷ []) ≡ item ∷ [] = rw faultless refl in
    let end : end_of (roster_fault roster) number (item ∷ []) None ≡ Finished = rw (end_of, faultless) refl in
    λ i. record { roster = Some roster; items = items ++ one i; end = end i; left = more }

module _ (earlier : FeedState) (run : FeedRun) (roster : RosterOf) (items : List FeedRecord) (before now : Option (List ℕ)) (reached : IsReached earlier run roster items before now) where
  meaning-reached : (more : List ℕ) → meaning_after earlier (reached.octets ++ more) ≡ ended roster items (run.reader.number + 1) (feed_of run.reader more)
  meaning-reached more =
      let rest = feed_of run.reader more in
      let feed = with_all (reached.first ∷ items) (feed_of run.reader more) in
      let number = earlier.number + 1 in
      ap (λ (f : Feed). meaning_of roster_fault (earlier.number + 1) f f.items) (reached.feed more)
      ∙ ap (with_roster roster_fault feed (earlier.number + 1) (items ++ rest.items)) reached.is_read
      ∙ ap (λ (l : List FeedRecord). record {
        roster = Some roster;
        items = l;
        end = end_of (roster_fault roster) (number + 1) (items ++ rest.items) rest.fault;
        left = rest.left;
      }) (read-passed (roster_fault roster) items rest.items reached.passed)
      ∙ ap (λ (e : FeedEnd). record {
        roster = Some roster;
        items = items ++ read_of (roster_fault roster) rest.items;
        end = e;
        left = rest.left;
      }) (end-passed (roster_fault roster) (number + 1) (run.reader.number + 1) items rest.items rest.fault (omega (arith, reached.count)) reached.passed)

  -- what is said of the octets that are left is said of all
  pub reads-reached : (octets : List ℕ) → before ≡ Some octets
      → (rest : List ℕ) × (now ≡ Some rest) × ((platform : Platform) (status : Status) (later : Option (List ℕ)) → platform.roster ≡ roster
      → ReadsSo (end_from platform run.reader) (λ o. (feed_of run.reader o).left) run.reader.number status rest later → ReadsAfter earlier status octets later)
  reads-reached octets told =
      let front = told_front reached.octets octets now (sym told ∙ reached.given) in (
        front.0,
        front.1,
        λ platform status later same h.
            reads_on (end_after earlier) (end_from platform run.reader) (left_after earlier) (λ o. (feed_of run.reader o).left)
            (reached.first ∷ items) reached.form reached.octets reached.parts earlier.number run.reader.number reached.count
            (λ more. ap (λ (m : FeedMeaning). m.end) (meaning-reached more)
            ∙ ap (λ (r : RosterOf). end_of (roster_fault r) (run.reader.number + 1) (feed_of run.reader more).items (feed_of run.reader more).fault) (sym same))
            (λ more. ap (λ (m : FeedMeaning). m.left) (meaning-reached more))
            octets front.0 front.2 status later h,
      )

-- ---- its end

-- the octets of a feed whose last record is a Z
pub is-feed : (earlier : FeedState) (old new : FeedRun) (roster : RosterOf) (items : List FeedRecord) (before between now : Option (List ℕ))
    (reached : IsReached earlier old roster items before between) (z : Finishes old new between now)
    → AreFeed earlier (reached.octets ++ record_octets z.item) roster (items ++ z.item ∷ []) new.reader
is-feed earlier old new roster items before between now reached z =
    let later : new.reader ≡ after old.reader z.item = z.noted in
    let last : (more : List ℕ) → feed_of old.reader (record_octets z.item ++ more) ≡ record { items = z.item ∷ []; state = new.reader; fault = None; left = more } =
    λ more. again-last old.reader z.item z.form z.valid more z.last ∙ ap (λ (s : FeedState). record { items = z.item ∷ []; state = s; fault = None; left = more }) (sym later) in
    let faultless : roster_fault roster z.item ≡ None = finish-faultless roster z.item z.last in
    record {
      records = reached.first ∷ (items ++ z.item ∷ []);
      parts = parts_on earlier old new roster items before between now reached z.item;
      form = form_on earlier old new roster items before between now reached z.item z.form;
      count = omega (arith, reached.count, ap (λ (s : FeedState). s.number) later, length-append items (z.item ∷ []));
      state = λ more.
          ap (λ (o : List ℕ). (feed_of (before_next_feed earlier) o).state) (append_assoc reached.octets (record_octets z.item) more)
          ∙ ap (λ (f : Feed). f.state) (reached.feed (record_octets z.item ++ more) ∙ ap (with_all (reached.first ∷ items)) (last more));
      meaning = λ more.
          ap (meaning_after earlier) (append_assoc reached.octets (record_octets z.item) more)
          ∙ meaning-reached earlier old roster items before between reached (record_octets z.item ++ more)
          ∙ ap (λ (f : Feed). ended roster items (old.reader.number + 1) f) (last more)
          ∙ one_more roster items (old.reader.number + 1) z.item more new.reader faultless;
    }

pub whole-feed : (earlier : FeedState) (old new : FeedRun) (roster : RosterOf) (items : List FeedRecord) (before between now : Option (List ℕ))
    → IsReached earlier old roster items before between → Finishes old new between now → IsWhole earlier new before now
whole-feed earlier old new roster items before between now reached z =
    let all = items ++ z.item ∷ [] in
    let defined = platform_after (fresh roster) items in
    let same : platform_after (fresh roster) all ≡ defined = platform-more (fresh roster) items z.item ∙ act-finish defined z.item.kind z.item.source z.item.body z.last in
    let seen_old : IsSeen (platform_after (fresh roster) all) old.platform.seen = subst (λ (p : Platform). IsSeen p old.platform.seen) (sym same) reached.seen in
    record {
      octets = reached.octets ++ record_octets z.item;
      given = octets_on earlier old new roster items before between now reached z.item z.given;
      roster = roster;
      items = all;
      is_feed = is-feed earlier old new roster items before between now reached z;
      seen = subst (λ (s : StateOf). IsSeen (platform_after (fresh roster) all) s.seen) (sym z.same) seen_old;
    }
