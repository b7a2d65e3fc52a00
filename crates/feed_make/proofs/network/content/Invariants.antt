-- The router's links among those so far.
use Rattle.std.proofs.Common.{◌≡◌, take}
use Rattle.feed_make.specs.Networks.{content_of}
use Rattle.feed_make.proofs.network.content.Given as goal

abbrev pub invariant-loop-link : goal.invariant-loop-link
invariant-loop-link l = l.content.items ≡ content_of l.router (take l.link-index l.links)
