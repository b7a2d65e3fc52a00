-- The records of a feed are as the headline asks: their bodies are octets, and the numbers of connections rise.
use Rattle.std.proofs.Common.{◌≡◌, ℕ, zero, suc, ◌<◌, Bool, true, false, cond, ltb, List, [], ◌∷◌, length, take, Some, None, refl, sym, ap, subst, ◌∙◌}
use Rattle.std.specs.Prelude.{not, ◌&&◌, ◌||◌, ◌==◌, nat_le, nat_lt}
use Rattle.std.specs.List.{AllByRecursion, All}
use Rattle.std.proofs.lemmas.Bool.{leb-false}
use Rattle.rcp_base.specs.declared.kinds.Kind.{Kind}
use Rattle.rcp_base.specs.declared.kinds.Kind.TheVariants as kind
use Rattle.rcp_base.specs.declared.kinds.FeedWhy.TheVariants as why
use Rattle.rcp_base.specs.Octets.{AreOctets}
use Rattle.rcp_base.specs.Feed.{FeedState, FeedRecord, before_feeds, begins, is_of_connection, is_time, is_roster, has_length, moment_of, fault_of, after}
use Rattle.rcp_base.specs.Roster.{RosterOf}
use Rattle.feed_meaning.specs.WholeFeeds.{FeedMeaning, feed_meaning}
use Rattle.feed_meaning.specs.Runs.{NumbersRise, Headline}
use Rattle.feed_meaning.proofs.HeadlineLemmas.{headline}
use Rattle.feed_format.proofs.FrontLemmas.{passes_first}
use Rattle.feed_format.proofs.AgainLemmas.{lawful_parts}
use Rattle.feed_laws.specs.FeedReading.{AreFaultless}
use Rattle.feed_laws.specs.WholeReading.{WithRoster, IsMeaningOf}
use Rattle.feed_laws.proofs.MeaningLemmas.{meaning_is}

faultless-take : (n : ℕ) (items : List FeedRecord) (state : FeedState) → AreFaultless state items → AreFaultless state (take n items)
faultless-take zero items state each = tt
faultless-take (suc n) [] state each = tt
faultless-take (suc n) (item ∷ items) state each = (each.0, each.1, faultless-take n items (after state item) each.2)

bodies : (items : List FeedRecord) (state : FeedState) → AreFaultless state items → AllByRecursion (λ (item : FeedRecord). All (λ o. o < 256) item.body) items
bodies [] state each = tt
bodies (item ∷ items) state each = (each.0.octets, bodies items (after state item) each.2)

-- a connection begins with a number above those before
number-rises : (state : FeedState) (item : FeedRecord) → fault_of state item ≡ None → begins item.kind ≡ true → state.last < item.source
number-rises state item faultless new =
    let later = (begins item.kind && nat_le 4096 (length state.live), why.TooMany) ∷ (is_time item.kind && nat_lt (moment_of item.body) state.moment, why.ClockBack) ∷ [] in
    let one = passes_first (cond (is_of_connection item.kind) (item.source == 0) (not (item.source == 0))) why.BadBody ((begins item.kind && nat_le item.source state.last, why.Twice) ∷ later) (lawful_parts state item faultless).body in
    let two = passes_first (begins item.kind && nat_le item.source state.last) why.Twice later one.1 in
    leb-false item.source state.last (ap (λ (b : Bool). b && nat_le item.source state.last) (sym new) ∙ two.0)

numbers-rise : (items : List FeedRecord) (state : FeedState) → AreFaultless state items → NumbersRise state.last items
numbers-rise [] state each = tt
numbers-rise (item ∷ items) state each = (number-rises state item each.1, numbers-rise items (after state item) each.2)

no_connection_yet : (k : Kind) → (not false && not (is_roster k)) ≡ false → begins k ≡ false
no_connection_yet kind.Ready e = absurd cc
no_connection_yet kind.Raw e = absurd cc
no_connection_yet k e = refl

-- the roster's record begins no connection
none_begins : (item : FeedRecord) → fault_of before_feeds item ≡ None → (after before_feeds item).last ≡ 0
none_begins item faultless =
    let len = length item.body in
    let header = (lawful_parts before_feeds item faultless).header in
    let first = passes_first (not false && not (is_roster item.kind)) why.NoRoster ((false && is_roster item.kind, why.Twice) ∷ (ltb 65536 len || not (has_length item.kind len), why.Length) ∷ []) header in
    ap (λ (b : Bool). cond b item.source 0) (no_connection_yet item.kind first.0)

with_roster : (octets : List ℕ) (roster : RosterOf) (meaning : FeedMeaning) (count : ℕ) → WithRoster octets roster meaning → Headline roster (take count meaning.items)
with_roster octets roster meaning count w =
    let each = faultless-take count meaning.items (after before_feeds w.first) w.each.2 in
    headline roster (take count meaning.items) (bodies (take count meaning.items) (after before_feeds w.first) each)
    (subst (λ (last : ℕ). NumbersRise last (take count meaning.items)) (none_begins w.first w.each.1) (numbers-rise (take count meaning.items) (after before_feeds w.first) each))

pub every_feed : (octets : List ℕ) (roster : RosterOf) (count : ℕ) → AreOctets octets → (feed_meaning octets).roster ≡ Some roster → Headline roster (take count (feed_meaning octets).items)
every_feed octets roster count all is =
    with_roster octets roster (feed_meaning octets) count (subst (IsMeaningOf octets (feed_meaning octets)) is (meaning_is octets all))
