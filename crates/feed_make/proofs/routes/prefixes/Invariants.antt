-- The prefixes so far.
use Rattle.std.proofs.Common.{◌≡◌, map}
use Rattle.feed_make.specs.Numbers.{numbers_from}
use Rattle.feed_make.specs.Routes.{group_prefix}
use Rattle.feed_make.proofs.routes.prefixes.Given as goal

abbrev pub invariant-loop-k : goal.invariant-loop-k
invariant-loop-k l = l.list.items ≡ map (group_prefix l.group) (numbers_from 0 l.k)
