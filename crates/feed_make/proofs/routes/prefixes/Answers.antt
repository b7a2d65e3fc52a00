use Rattle.std.proofs.Common.{ℕ, List, ◌∷◌, [], ◌++◌, map, sym, ap, ◌∙◌, arith}
use Rattle.feed_make.specs.Routes.{group_prefix}
use Rattle.feed_make.proofs.Ranges.{numbers-none, map-numbers_more}
use Rattle.feed_make.proofs.routes.prefixes.Goals as goal

pub loop-k-init : goal.loop-k-init
loop-k-init c = c.new-list.ensures.items ∙ sym (ap (λ (ns : List ℕ). map (group_prefix c.args.group) ns) (numbers-none 0))

pub loop-k-preserved : goal.loop-k-preserved
loop-k-preserved c =
    c.in_ok-push.ensures.items
    ∙ (λ i. c.loop-k.invariant i ++ c.prefix.ensures i ∷ [])
    ∙ sym (map-numbers_more (group_prefix c.args.group) 0 c.loop-k.k c.loop-k.k (omega arith))
