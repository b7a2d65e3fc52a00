-- How far a run read and wrote, by its status.
use Rattle.std.specs.Prelude.{◌≡◌, ◌≢◌, ℕ, ◌+◌, ◌≤◌, ◌⊎◌, List, [], ◌∷◌, ◌++◌, length, Option, Some, None}
use Rattle.std.specs.List.{flat_map, AllByRecursion}
use Rattle.outside.specs.Told.{behind}
use Rattle.rcp_base.specs.declared.kinds.FeedWhy.TheVariants as why
use Rattle.rcp_base.specs.Feed.{FeedRecord, IsRecord, record_octets, frame_size}
use Rattle.rcp_base.specs.Roster.{RosterOf}
use Rattle.feed_meaning.specs.WholeFeeds.{FeedEnd, FaultyRecord, feed_meaning, outputs}
use Rattle.feed_format.specs.declared.status.Status.{Status}
use Rattle.feed_format.specs.declared.status.Status.TheVariants.{Done, Usage, Feed, Roster, Read, Write, NoMemory, NoPath, NetFault}

-- ---- what was read

-- these were taken of the octets, and the rest is left
pub record Takes (octets taken : List ℕ) (now : Option (List ℕ)) : Type 0 where
  pub rest : List ℕ
  pub parts : octets ≡ taken ++ rest
  pub left : now ≡ Some rest

-- The records before the one of this number were taken, and of that one no more than its frame. So many came before.
pub record StopsAt (before number : ℕ) (octets : List ℕ) (now : Option (List ℕ)) : Type 0 where
  pub items : List FeedRecord
  pub last : List ℕ
  pub takes : Takes octets (flat_map record_octets items ++ last) now
  pub form : AllByRecursion IsRecord items
  pub count : number ≡ before + length items + 1
  pub within : length last ≤ frame_size last

-- after a faulty record nothing is read
abbrev pub StopsBy : ℕ → Status → List ℕ → Option (List ℕ) → Type 0
StopsBy before (Feed number why) octets now = StopsAt before number octets now
StopsBy before (Roster number line why) octets now = StopsAt before number octets now
StopsBy before status octets now = Unit {0}

-- The octets that were taken have no fault but that their last record is cut.
pub record EndsCut (end_for : List ℕ → FeedEnd) (octets : List ℕ) (now : Option (List ℕ)) : Type 0 where
  pub taken : List ℕ
  pub takes : Takes octets taken now
  pub number : ℕ
  pub cut : end_for taken ≡ FaultyRecord number why.Truncated

-- ---- what was written

-- all but the last of these records
pub record IsAllButLast (items all : List FeedRecord) : Type 0 where
  pub last : FeedRecord
  pub parts : all ≡ items ++ last ∷ []

-- The output of all these records is that of the first of them, then this part, and something more.
pub record IsCutOff (output : List FeedRecord → List ℕ) (items all : List FeedRecord) (part : List ℕ) : Type 0 where
  pub more : List ℕ
  pub parts : output all ≡ (output items ++ part) ++ more
  pub some : more ≢ []

-- The records whose output a status says was written whole, of all octets or of those that were taken: on Done, Feed and Roster those of
-- the feed up to its end, on Read the whole records that were taken, without memory these or all but the last of them, and on Write all but the last.
abbrev pub Answered : (List ℕ → List FeedRecord) → Status → (octets taken : List ℕ) → List FeedRecord → Type 0
Answered items_of Done octets taken items = items ≡ items_of octets
Answered items_of Usage octets taken items = ⊥
Answered items_of (Feed number why) octets taken items = items ≡ items_of octets
Answered items_of (Roster number line why) octets taken items = items ≡ items_of octets
Answered items_of Read octets taken items = items ≡ items_of taken
Answered items_of Write octets taken items = IsAllButLast items (items_of taken)
Answered items_of NoMemory octets taken items = (items ≡ items_of taken) ⊎ IsAllButLast items (items_of taken)
Answered items_of (NoPath refused) octets taken items = ⊥
Answered items_of NetFault octets taken items = ⊥

-- what was written of the next record's output: nothing, but after a failed write
abbrev pub IsPart : (List FeedRecord → List ℕ) → Status → (items all : List FeedRecord) → List ℕ → Type 0
IsPart output Write items all part = IsCutOff output items all part
IsPart output status items all part = part ≡ []

-- What a status says of what was written, where octets are known: what is left of them, and what the sink took before and after.
pub record Wrote (items_of : List ℕ → List FeedRecord) (output : List FeedRecord → List ℕ) (status : Status) (octets : List ℕ) (now before after : Option (List ℕ)) : Type 0 where
  pub taken : List ℕ
  pub takes : Takes octets taken now
  pub items : List FeedRecord
  pub answered : Answered items_of status octets taken items
  pub part : List ℕ
  pub partly : IsPart output status items (items_of taken) part
  pub wrote : after ≡ behind before (output items ++ part)

-- ---- of a whole feed

-- the records of a feed that are acted on, and how it ends
abbrev pub records_in : List ℕ → List FeedRecord
records_in octets = (feed_meaning octets).items

abbrev pub end_in : List ℕ → FeedEnd
end_in octets = (feed_meaning octets).end

-- what is put out for records, where there is a roster
abbrev pub output_with : Option RosterOf → List FeedRecord → List ℕ
output_with None items = []
output_with (Some roster) items = outputs roster items

-- what was written of it
abbrev pub WroteSo : Status → List ℕ → Option (List ℕ) → Option (List ℕ) → Option (List ℕ) → Type 0
WroteSo status octets now before after = Wrote records_in (output_with (feed_meaning octets).roster) status octets now before after
