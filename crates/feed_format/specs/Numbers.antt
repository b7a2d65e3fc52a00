-- The codes that a program ends with, and the numbers of refusals.
use Rattle.std.specs.Prelude.{ℕ}
use Rattle.rcp_base.specs.declared.kinds.FeedWhy.{FeedWhy}
use Rattle.rcp_base.specs.declared.kinds.FeedWhy.TheVariants as why
use Rattle.feed_format.specs.declared.status.Status.{Status}
use Rattle.feed_format.specs.declared.status.Status.TheVariants as status
use Rattle.feed_format.specs.declared.status.WalkWhy.{WalkWhy}
use Rattle.feed_format.specs.declared.status.WalkWhy.TheVariants as walk

abbrev pub code_of : Status → ℕ
code_of status.Done = 0
code_of status.Usage = 2
code_of (status.Feed number why) = 3
code_of (status.Roster number line why) = 4
code_of status.Read = 5
code_of status.Write = 6
code_of status.NoMemory = 7
code_of (status.NoPath refusal) = 8
code_of status.NetFault = 9

abbrev pub number_of_walk : WalkWhy → ℕ
number_of_walk (walk.Pending prefix) = 1
number_of_walk walk.NoRoute = 2
number_of_walk (walk.NotConnected router) = 3
number_of_walk (walk.ZeroCost from to) = 4

abbrev pub number_of_fault : FeedWhy → ℕ
number_of_fault why.Kind = 1
number_of_fault why.Length = 2
number_of_fault why.Truncated = 3
number_of_fault why.NoRoster = 4
number_of_fault why.Twice = 5
number_of_fault why.UnknownRouter = 6
number_of_fault why.ClockBack = 7
number_of_fault why.BadShard = 8
number_of_fault why.TooLong = 9
number_of_fault why.BadBody = 10
number_of_fault why.TooMany = 11
