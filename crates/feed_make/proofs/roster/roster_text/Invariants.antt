-- The settings, and the lines of the routers so far.
use Rattle.std.proofs.Common.{◌≡◌, ◌++◌}
use Rattle.std.specs.List.{flat_map}
use Rattle.feed_make.specs.Numbers.{numbers_from}
use Rattle.feed_make.specs.Feeds.{settings_text, router_line}
use Rattle.feed_make.proofs.roster.roster_text.Given as goal

abbrev pub invariant-loop-router : goal.invariant-loop-router
invariant-loop-router l = l.text.items ≡ settings_text ++ flat_map router_line (numbers_from 0 l.router)
