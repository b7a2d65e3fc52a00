-- The parts left, after the octets so far, give what all parts give.
use Rattle.std.proofs.Common.{◌≡◌, ◌-◌, ◌^◌}
use Rattle.line_words.specs.Words.{words_of}
use Rattle.feed_words.specs.Parts.{part_of, parts_within}
use Rattle.feed_words.proofs.parts.some_parts.Given as goal

abbrev pub invariant-loop : goal.invariant-loop
invariant-loop l = parts_within (part_of l.fn.protocol) (2 ^ 20 - l.counter) l.body.items (words_of l.rest) ≡ parts_within (part_of l.fn.protocol) (2 ^ 20) l.fn.body.items (words_of l.words)
