-- One record more of a run, whose output is written.
use Rattle.std.specs.Prelude.{◌≡◌, ℕ, List, Option, Some}
use Rattle.feed_meaning.specs.Platform.{Platform}
use Rattle.platform_laws.specs.Platforms.{IsSeen}
use Rattle.feed_format.specs.declared.status.Status.{Status}
use Rattle.feed_run.specs.Going.{AnswersFrom}
use Rattle.feed_run.specs.declared.records.FeedRun.{FeedRun}

-- what is answered from after the record is the answer from before it
pub record GoesOnFrom (platform next : Platform) (old new : FeedRun) (octets : List ℕ) (now taken written : Option (List ℕ)) : Type 0 where
  pub rest : List ℕ
  pub left : now ≡ Some rest
  pub answers : (status : Status) (later after : Option (List ℕ)) → AnswersFrom next new.reader status rest later written after
      → AnswersFrom platform old.reader status octets later taken after

-- The platform that was seen acts on a record, and its output was written whole.
abbrev pub GoesOn : FeedRun → FeedRun → (before now taken written : Option (List ℕ)) → Type 0
GoesOn old new before now taken written =
    (platform : Platform) → IsSeen platform old.platform.seen → (next : Platform) × IsSeen next new.platform.seen
    × ((octets : List ℕ) → before ≡ Some octets → GoesOnFrom platform next old new octets now taken written)

-- what a status says of what is left of a feed
abbrev pub EndsWith : FeedRun → Status → (before now taken written : Option (List ℕ)) → Type 0
EndsWith run status before now taken written =
    (platform : Platform) (octets : List ℕ) → IsSeen platform run.platform.seen → before ≡ Some octets
    → AnswersFrom platform run.reader status octets now taken written
