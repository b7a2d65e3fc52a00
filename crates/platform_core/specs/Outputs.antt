-- The records that are put out.
use Rattle.std.specs.Prelude.{◌<◌, ◌^◌, List, All, length}
use Rattle.rcp_base.specs.Feed.{OutRecord}

-- each record's length has room in its frame
abbrev pub AreFramed : List OutRecord → Type 0
AreFramed outs = All (λ out. length out.body < 2 ^ 32) outs
