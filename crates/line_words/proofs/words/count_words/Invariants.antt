-- The words counted and those left are all of them.
use Rattle.std.proofs.Common.{◌≡◌, ◌+◌, ◌≤◌, length}
use Rattle.line_words.specs.Words.{words_of}
use Rattle.line_words.proofs.words.count_words.Given as goal

abbrev pub invariant-loop-more : goal.invariant-loop-more
invariant-loop-more l = record {
  counted : l.count + length (words_of l.rest) ≡ length (words_of l.fn.line);
  few : l.count + length l.rest ≤ length l.fn.line;
}

abbrev pub decreases-loop-more : goal.decreases-loop-more
decreases-loop-more l = length l.rest
