-- What taking a record from a source gives, and how far it got.
use Rattle.std.specs.Prelude.{◌≡◌, ℕ, ◌+◌, ◌^◌, ◌<◌, ◌≤◌, ◌⊎◌, IsTrue, List, length, Option, Some, None, Result, Ok, Err, IfSome}
use Rattle.outside.specs.Told.{in_front}
use Rattle.rcp_base.specs.declared.kinds.FeedWhy.{FeedWhy}
use Rattle.rcp_base.specs.declared.kinds.FeedWhy.TheVariants as why
use Rattle.rcp_base.specs.Checks.{first_failing}
use Rattle.rcp_base.specs.Feed.{FeedRecord, FeedState, IsRecord, record_octets, length_at, begins, frame_checks, fault_of, fault_in_front, front, frame_size}
use Rattle.feed_format.specs.declared.taking.Stop.{Stop}
use Rattle.feed_format.specs.declared.taking.Stop.TheVariants as stop
use Rattle.feed_format.specs.declared.reader.FeedRefusal.{FeedRefusal}
use Rattle.feed_format.specs.declared.reader.FeedRefusal.TheVariants as refusal

-- the octets that were taken are no more than the record in front
pub record TakesPart (before now : Option (List ℕ)) : Type 0 where
  pub taken : List ℕ
  pub within : length taken ≤ frame_size taken
  pub given : before ≡ in_front taken now

-- the same of a front of it that has no fault but that it is cut
pub record TakesLess (state : FeedState) (before now : Option (List ℕ)) : Type 0 where
  pub taken : List ℕ
  pub within : length taken < frame_size taken
  pub cut : fault_in_front state taken ≡ Some why.Truncated
  pub given : before ≡ in_front taken now

-- the octets, where they are known, say why it was refused: a fault is their first, at the number of the record
abbrev pub Refuses : FeedState → List ℕ → FeedRefusal → Type 0
Refuses state octets (refusal.Feed number why) = (number ≡ state.number + 1) × (fault_in_front state octets ≡ Some why)
Refuses state octets refusal.Read = Unit {0}
Refuses state octets refusal.NoMemory = Unit {0}

-- a record is the one in front of the octets that are known, and those after it are left
abbrev pub Gives : FeedState → List ℕ → Option (List ℕ) → Result FeedRecord FeedRefusal → Type 0
Gives state octets now (Ok item) = (rest : List ℕ) × (front state octets ≡ Ok (item, rest)) × (now ≡ Some rest)
Gives state octets now (Err refused) = Refuses state octets refused

-- what taking the record in front gave
pub record TakesRecord (state : FeedState) (before now : Option (List ℕ)) (item : FeedRecord) : Type 0 where
  pub form : IsRecord item
  pub lawful : fault_of state item ≡ None
  pub given : before ≡ in_front (record_octets item) now

-- or why it stopped
pub record TakesFault (state : FeedState) (before now : Option (List ℕ)) (fault : FeedWhy) : Type 0 where
  pub part : TakesPart before now
  pub first : IfSome before (λ octets. fault_in_front state octets ≡ Some fault)

abbrev pub Takes : FeedState → Option (List ℕ) → Option (List ℕ) → Result FeedRecord Stop → Type 0
Takes state before now (Ok item) = TakesRecord state before now item
Takes state before now (Err (stop.Fault fault)) = TakesFault state before now fault
Takes state before now (Err stop.Read) = TakesLess state before now
Takes state before now (Err stop.NoMemory) = TakesPart before now

-- Where memory is wanted. A faultless header stands in front and a body is to follow, of which nothing was taken:
pub record AtBody (state : FeedState) (before now : Option (List ℕ)) : Type 0 where
  pub header : List ℕ
  pub nine : length header ≡ 9
  pub few : state.octets < 2 ^ 40
  pub faultless : first_failing (frame_checks state header) ≡ None
  pub body : 0 < length_at header
  pub given : before ≡ in_front header now

-- or a faultless record was taken, which begins a connection.
pub record AtConnection (state : FeedState) (before now : Option (List ℕ)) : Type 0 where
  pub item : FeedRecord
  pub form : IsRecord item
  pub faultless : fault_of state item ≡ None
  pub begins : IsTrue (begins item.kind)
  pub given : before ≡ in_front (record_octets item) now

abbrev pub WantsMemory : FeedState → Option (List ℕ) → Option (List ℕ) → Type 0
WantsMemory state before now = AtBody state before now ⊎ AtConnection state before now

-- the refusal that a stop at the record of this number is
abbrev pub IsRefusal : ℕ → Stop → FeedRefusal → Type 0
IsRefusal number (stop.Fault fault) refused = refused ≡ refusal.Feed number fault
IsRefusal number stop.Read refused = refused ≡ refusal.Read
IsRefusal number stop.NoMemory refused = refused ≡ refusal.NoMemory
