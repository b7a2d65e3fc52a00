use Rattle.std.proofs.Common.{length}
use Rattle.feed_text.proofs.LineLemmas.{Compares}
use Rattle.feed_text.proofs.checker.Checker.stands_for.Given as goal

abbrev pub invariant-loop-line : goal.invariant-loop-line
invariant-loop-line l = Compares l.self.encoder l.rest l.left l.fn.text l.fn.octets

abbrev pub decreases-loop-line : goal.decreases-loop-line
decreases-loop-line l = length l.rest
