-- What connections are sent for the cells that changed.
use Rattle.std.specs.Prelude.{ℕ, List, [], ◌∷◌, ◌++◌}
use Rattle.rcp_base.specs.Feed.{OutRecord}
use Rattle.feed_meaning.specs.OutRecords.{messages_to}

-- the records of messages, of which each list is a connection's
abbrev pub records_to : List ℕ → List (List (List ℕ)) → List OutRecord
records_to [] lists = []
records_to (number ∷ numbers) [] = []
records_to (number ∷ numbers) (messages ∷ lists) = messages_to number messages ++ records_to numbers lists
