use Rattle.std.proofs.Common.{◌≡◌, ℕ, zero, suc, ◌<◌, ◌⊎◌, List, [], ◌∷◌, Some, None, refl, sym, inl, inr, ◌∙◌, ap₂, arith}
use Rattle.rcp_base.specs.declared.names.Member.{Member}
use Rattle.rcp_model.specs.RouteServer.{slot_cost}
use Rattle.rcp_model.proofs.WalkLemmas.{cost-itself}
use Rattle.hop_walk.proofs.tests.LoneCosts.cost.Goals as goal
use Rattle.hop_walk.proofs.tests.LoneCosts.cost.Goals.{then-from-gt0-via-then-from-gt0, then-from-gt0-via-else-from-gt0+then-to-gt0}

abbrev lone : List Member
lone = record { router = 1; bgp_id = 1 } ∷ []

no_other : (a b : ℕ) → (0 < a) ⊎ (0 < b) → slot_cost [] lone a b ≡ None
unfolding slot_cost
no_other zero zero (inl h) = absurd (omega (arith, h))
no_other zero zero (inr h) = absurd (omega (arith, h))
no_other zero (suc b) h = refl
no_other (suc a) b h = refl

itself : slot_cost [] lone 0 0 ≡ Some 0
unfolding slot_cost
itself = cost-itself [] 1

pub returns-then-from-gt0 : goal.returns-then-from-gt0
returns-then-from-gt0 c = elim c.then-from-gt0.branch [
  | then-from-gt0-via-then-from-gt0 w ↦ sym (no_other c.args.from c.args.to (inl (omega (arith, w.if-from-gt0.true, c.from.view_is))))
  | then-from-gt0-via-else-from-gt0+then-to-gt0 w ↦ sym (no_other c.args.from c.args.to (inr (omega (arith, w.if-to-gt0.true, c.to.view_is))))
]

pub returns : goal.returns
returns c =
    let from : c.args.from ≡ 0 = omega (arith, c.if-from-gt0.false, c.from.view_is) in
    let to : c.args.to ≡ 0 = omega (arith, c.if-to-gt0.false, c.to.view_is) in
    sym (ap₂ (λ a b. slot_cost [] lone a b) from to ∙ itself)
