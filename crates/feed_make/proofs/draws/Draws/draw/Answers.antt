use Rattle.std.proofs.Common.{◌≡◌, ℕ, ◌+◌, ◌*◌, ◌/◌, ◌%◌, ◌^◌, sym, ap, ◌∙◌, add-one}
use Rattle.std.proofs.Math.Nat.{mod-add-mod}
use Rattle.feed_make.specs.Draws.{DrawsOf, draw, next, state_after}
use Rattle.feed_make.proofs.draws.Draws.draw.Goals as goal

wraps : (state : ℕ) → (state * 6364136223846793005 % 2 ^ 64 + 1442695040888963407) % 2 ^ 64 ≡ next state
wraps state = mod-add-mod (state * 6364136223846793005) (2 ^ 64) 1442695040888963407

pub invariant_of-self : goal.invariant_of-self
unfolding state_after
invariant_of-self c =
    wraps c.self.inside.state ∙ ap next c.self.invariant
    ∙ ap (state_after c.self.inside.number) (sym (add-one c.self.inside.drawn))

pub returns-clause-value : goal.returns-clause-value
unfolding draw
returns-clause-value c =
    (λ i. wraps c.self.inside.state i / 2 ^ 32 % c.from.ensures i)
    ∙ ap (λ (state : ℕ). next state / 2 ^ 32 % c.args.below) c.self.invariant
    ∙ ap (λ (d : DrawsOf). draw d.number d.drawn c.args.below) c.self.view_is
