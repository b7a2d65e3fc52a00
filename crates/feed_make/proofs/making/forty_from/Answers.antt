use Rattle.std.proofs.Common.{◌+◌, ap, ◌∙◌, arith}
use Rattle.feed_make.specs.Numbers.{numbers_from}
use Rattle.feed_make.proofs.Ranges.{filled_by_all, numbers-shift}
use Rattle.feed_make.proofs.making.forty_from.Goals as goal

pub returns : goal.returns
returns c =
    let first = c.args.first in
    filled_by_all (λ k. first + k) c.loop-i.routers 40 0 c.loop-i.invariant.0 (λ k less. c.loop-i.invariant.1 k (omega arith))
    ∙ numbers-shift first 0 40
    ∙ ap (λ n. numbers_from n 40) (omega arith)
