-- The items left, after the octets so far, give what all items give.
use Rattle.std.proofs.Common.{◌≡◌, length}
use Rattle.line_words.specs.Lists.{list_onto}
use Rattle.line_words.proofs.lists.push_list.Given as goal

abbrev pub invariant-loop-piece : goal.invariant-loop-piece
invariant-loop-piece g l = list_onto g.I.Item.onto l.by l.out.items l.rest ≡ list_onto g.I.Item.onto l.fn.by l.fn.out.items l.fn.text

abbrev pub decreases-loop-piece : goal.decreases-loop-piece
decreases-loop-piece g l = length l.rest
