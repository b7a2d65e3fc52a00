-- The LSAs left, after the octets and the number so far, give what all LSAs give.
use Rattle.std.proofs.Common.{◌≡◌, ◌-◌, ◌^◌}
use Rattle.line_words.specs.Words.{words_of}
use Rattle.ospf_words.specs.Lsas.{lsas_within}
use Rattle.ospf_words.proofs.lsas.push_lsas.Given as goal

abbrev pub invariant-loop-count : goal.invariant-loop-count
invariant-loop-count l = lsas_within (2 ^ 20 - l.count) l.count l.out.items (words_of l.rest) ≡ lsas_within (2 ^ 20) 0 l.fn.out.items (words_of l.words)
