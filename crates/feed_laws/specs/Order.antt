-- The order in which a record's output stands.
use Rattle.std.specs.Prelude.{◌≡◌, ◌≤◌, List, [], ◌∷◌, ◌++◌, AllPairs}
use Rattle.rcp_base.specs.Feed.{OutRecord}

-- by the number of the connection; what goes to one connection is in its own order
abbrev pub StandByConnection : List OutRecord → Type 0
StandByConnection outs = AllPairs (λ a b. a.connection ≤ b.connection) outs

-- so all of them but the last
pub record StandBeforeLast (outs : List OutRecord) : Type 0 where
  pub before : List OutRecord
  pub last : OutRecord
  pub whole : outs ≡ before ++ last ∷ []
  pub in_order : StandByConnection before
