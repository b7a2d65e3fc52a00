-- The words left, after the octets so far, give what all words give.
use Rattle.std.proofs.Common.{◌≡◌, ◌-◌, ◌^◌}
use Rattle.line_words.specs.Words.{words_of}
use Rattle.line_words.specs.Lists.{words_within}
use Rattle.line_words.proofs.lists.push_words.Given as goal

abbrev pub invariant-loop : goal.invariant-loop
invariant-loop g l = words_within g.W.Word.onto (2 ^ 20 - l.counter) l.out.items (words_of l.rest) ≡ words_within g.W.Word.onto (2 ^ 20) l.fn.out.items (words_of l.fn.words)
