-- The octets that come on one connection in records B, and those of the stream of link state in records L.
use Rattle.std.specs.Prelude.{ℕ, List, []}
use Rattle.rcp_base.specs.declared.kinds.Kind.TheVariants as kind
use Rattle.rcp_base.specs.Feed.{FeedRecord}
use Rattle.feed_meaning.specs.Platform.{Platform, Acted}
use Rattle.feed_meaning.specs.Runs.{platform_after, all_output}

abbrev pub octets_record : ℕ → List ℕ → FeedRecord
octets_record number body = record { kind = kind.Octets; source = number; body = body }

-- the end of a connection
abbrev pub end_record : ℕ → List ℕ → FeedRecord
end_record number body = record { kind = kind.Closed; source = number; body = body }

abbrev pub links_record : List ℕ → FeedRecord
links_record body = record { kind = kind.Links; source = 0; body = body }

-- what records come to, one after another: the platform after them, and all that is put out for them
abbrev pub run_of : Platform → List FeedRecord → Acted
run_of platform items = record { after = platform_after platform items; out = all_output platform items }

-- all of a platform but its pending prefixes
abbrev pub but_pending : Platform → Platform
but_pending platform = record platform { server = record platform.server { pending = [] } }

-- what records come to, but for the pending prefixes
abbrev pub acted_but_pending : Acted → Acted
acted_but_pending acted = record acted { after = but_pending acted.after }
