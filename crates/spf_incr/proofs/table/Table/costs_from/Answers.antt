use Rattle.std.proofs.Common.{◌≡◌, ℕ, List, [], ◌∷◌, None, refl, ◌∙◌}
use Rattle.cost_rows.specs.Search.{found_at}
use Rattle.spf_incr.proofs.table.Table.costs_from.Goals as goal

nothing : (names : List ℕ) (router : ℕ) → found_at names [] router ≡ None
nothing [] router = refl
nothing (name ∷ names) router = refl

pub returns-then-self : goal.returns-then-self
returns-then-self c router = nothing c.args.self.now.names router ∙ rw (← c.self.view_is, c.if-self.true) refl
