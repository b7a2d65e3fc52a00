-- Octets as a feed, in the feed's own words: its records one after another, how they end, and what is left.
use Rattle.std.specs.Prelude.{◌≡◌, ℕ, true, false, List, [], ◌∷◌, ◌++◌, Option, Some, None}
use Rattle.std.specs.List.{flat_map, AllByRecursion}
use Rattle.rcp_base.specs.declared.kinds.FeedWhy.{FeedWhy}
use Rattle.rcp_base.specs.Feed.{FeedState, FeedRecord, IsRecord, Feed, record_octets, is_finish, after, fault_of, fault_in_front}

-- what a feed remembers of these records and those before
abbrev pub state_after : FeedState → List FeedRecord → FeedState
state_after state [] = state
state_after state (item ∷ items) = state_after (after state item) items

-- each has a frame, and no fault after those before it
abbrev pub AreFaultless : FeedState → List FeedRecord → Type 0
AreFaultless state [] = Unit {0}
AreFaultless state (item ∷ items) = IsRecord item × (fault_of state item ≡ None) × AreFaultless (after state item) items

-- none of them is Z
abbrev pub HaveNoFinish : List FeedRecord → Type 0
HaveNoFinish items = AllByRecursion (λ item. is_finish item.kind ≡ false) items

-- the last of them is Z, and no other is
pub record EndInFinish (items : List FeedRecord) : Type 0 where
  pub before : List FeedRecord
  pub last : FeedRecord
  pub whole : items ≡ before ++ last ∷ []
  pub finish : is_finish last.kind ≡ true
  pub others : HaveNoFinish before

-- Without a fault they end in Z. With one none of them is Z, and it is the first fault of the octets that are left.
abbrev pub EndBy : FeedState → List FeedRecord → List ℕ → Option FeedWhy → Type 0
EndBy state items left None = EndInFinish items
EndBy state items left (Some why) = HaveNoFinish items × (fault_in_front (state_after state items) left ≡ Some why)

-- The octets are those of its records one after another, and then what is left.
pub record IsFeedOf (state : FeedState) (octets : List ℕ) (feed : Feed) : Type 0 where
  pub whole : octets ≡ flat_map record_octets feed.items ++ feed.left
  pub each : AreFaultless state feed.items
  pub remembered : feed.state ≡ state_after state feed.items
  pub end : EndBy state feed.items feed.left feed.fault
