-- How many UPDATEs the records of a run put out.
use Rattle.std.specs.Prelude.{ℕ, ◌+◌, ◌==◌, Bool, true, false, List, [], ◌∷◌, length, filter, if◌then◌else◌}
use Rattle.rcp_base.specs.declared.kinds.Kind.{Kind}
use Rattle.rcp_base.specs.declared.kinds.Kind.TheVariants as kind
use Rattle.rcp_base.specs.Feed.{FeedRecord, OutRecord}
use Rattle.feed_meaning.specs.OutRecords.{MESSAGE}
use Rattle.feed_meaning.specs.Platform.{Platform}
use Rattle.feed_meaning.specs.Runs.{act}

-- how many of these are messages to connections
abbrev pub count_messages : List OutRecord → ℕ
count_messages outs = length (filter (λ out. out.kind == MESSAGE) outs)

-- slices and drains work prefixes, and each message that they put out is an UPDATE
abbrev pub is_work : Kind → Bool
is_work kind.Slice = true
is_work kind.Drain = true
is_work k = false

-- the messages that the slices and the drains among records put out
abbrev pub count_updates : Platform → List FeedRecord → ℕ
count_updates platform [] = 0
count_updates platform (item ∷ items) =
    (if is_work item.kind then count_messages (act platform item).out else 0) + count_updates (act platform item).after items
