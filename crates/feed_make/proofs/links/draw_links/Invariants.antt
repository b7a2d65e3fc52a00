-- The links so far, and how many numbers were drawn for them.
use Rattle.std.proofs.Common.{◌≡◌, ◌+◌, ◌*◌, ◌++◌, map}
use Rattle.feed_make.specs.Numbers.{numbers_from}
use Rattle.feed_make.specs.Networks.{ring_link, other_link}
use Rattle.feed_make.proofs.links.draw_links.Given as goal

abbrev pub invariant-loop-i : goal.invariant-loop-i
invariant-loop-i l = record {
  links : l.links.items ≡ map (ring_link l.fn.draws.number) (numbers_from 0 l.i);
  draws : l.draws ≡ record { number = l.fn.draws.number; drawn = l.i };
}

abbrev pub invariant-loop : goal.invariant-loop
invariant-loop l = record {
  links : l.links.items ≡ map (ring_link l.fn.draws.number) (numbers_from 0 400) ++ map (other_link l.fn.draws.number) (numbers_from 0 l.counter);
  draws : l.draws ≡ record { number = l.fn.draws.number; drawn = 400 + 3 * l.counter };
}
