-- What octets come to as a feed, in the feed's own words: the roster, the records after it that are acted on, and the end.
use Rattle.std.specs.Prelude.{◌≡◌, ℕ, ◌+◌, List, [], ◌∷◌, ◌++◌, length, Option, Some, None, Ok, Err}
use Rattle.std.specs.List.{flat_map, AllByRecursion}
use Rattle.rcp_base.specs.declared.kinds.FeedWhy.{FeedWhy}
use Rattle.rcp_base.specs.Feed.{FeedState, FeedRecord, before_feeds, record_octets, fault_in_front, front}
use Rattle.rcp_base.specs.Roster.{RosterOf, roster_of}
use Rattle.feed_meaning.specs.WholeFeeds.{roster_fault, FeedEnd, Finished, FaultyRecord, FaultyRoster, FeedMeaning}
use Rattle.feed_laws.specs.FeedReading.{state_after, AreFaultless, HaveNoFinish, EndInFinish}

-- the fault of the record in front: of its frame, or by the roster
abbrev pub fault_with_roster : RosterOf → FeedState → List ℕ → Option FeedWhy
fault_with_roster roster state octets = elim (front state octets) [ Ok found ↦ roster_fault roster found.0 | Err why ↦ Some why ]

-- With a roster the records after it end in Z, or before the record of this number, in front of the octets that follow, whose
-- fault it is. The roster's record is the first.
abbrev pub EndsWith : RosterOf → FeedState → List FeedRecord → List ℕ → List ℕ → FeedEnd → Type 0
EndsWith roster state items rest left Finished = EndInFinish items × (left ≡ rest)
EndsWith roster state items rest left (FaultyRecord number why) =
    HaveNoFinish items × (number ≡ length items + 2) × (fault_with_roster roster state rest ≡ Some why)
EndsWith roster state items rest left (FaultyRoster number fault) = ⊥

-- the first record, the records after it that are acted on, and the octets that follow them
pub record WithRoster (octets : List ℕ) (roster : RosterOf) (meaning : FeedMeaning) : Type 0 where
  pub first : FeedRecord
  pub rest : List ℕ
  pub whole : octets ≡ record_octets first ++ (flat_map record_octets meaning.items ++ rest)
  pub each : AreFaultless before_feeds (first ∷ meaning.items)
  pub text : roster_of first.body ≡ Ok roster
  pub known : AllByRecursion (λ item. roster_fault roster item ≡ None) meaning.items
  pub ends : EndsWith roster (state_after before_feeds (first ∷ meaning.items)) meaning.items rest meaning.left meaning.end

-- Without one the first record has a fault, or its text has one in this line.
abbrev pub EndsBefore : List ℕ → FeedEnd → Type 0
EndsBefore octets Finished = ⊥
EndsBefore octets (FaultyRecord number why) = (number ≡ 1) × (fault_in_front before_feeds octets ≡ Some why)
EndsBefore octets (FaultyRoster number fault) =
    (first : FeedRecord) × (rest : List ℕ) × (number ≡ 1) × (front before_feeds octets ≡ Ok (first, rest)) × (roster_of first.body ≡ Err fault)

abbrev pub IsMeaningOf : List ℕ → FeedMeaning → Option RosterOf → Type 0
IsMeaningOf octets meaning None = (meaning.items ≡ []) × EndsBefore octets meaning.end
IsMeaningOf octets meaning (Some roster) = WithRoster octets roster meaning
